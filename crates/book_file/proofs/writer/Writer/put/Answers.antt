use Rattle.std.proofs.Common.{◌+◌, ◌-◌, length, refl, ap, ◌∙◌, arith}
use Rattle.grammar.proofs.Writing.{written_part}
use Rattle.book_file.proofs.Putting.{length_written}
use Rattle.book_file.proofs.writer.Writer.put.Goals as goal

pub returns : goal.returns
returns c =
    let out = c.args.self.now in
    let bytes = c.args.bytes.now in
    let after = written_part out.buffer.now out.place (out.place + length bytes - out.place) c.copy_from_slice.new.self bytes c.copy_from_slice.ensures.after (omega arith) in
    record { same_buffer = refl; same_length = ap length after ∙ length_written out.buffer.now out.place bytes (omega arith); place = refl; buffer = after }
