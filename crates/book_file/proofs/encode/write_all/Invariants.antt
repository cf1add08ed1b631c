use Rattle.std.proofs.Common.{take}
use Rattle.std.specs.List.{flat_map}
use Rattle.book_file.specs.Writing.{Put}
use Rattle.book_file.proofs.encode.write_all.Given as goal

abbrev pub invariant-loop-record : goal.invariant-loop-record
invariant-loop-record g l = Put l.initial.out l.out (flat_map g.R.Record.bytes (take l.record-index l.records))
