use Rattle.std.proofs.Common.{[], refl, get_or, take, arith}
use Rattle.std.proofs.lemmas.List.{take_more, flat_map_more}
use Rattle.std.proofs.lemmas.List.Folds.{length-flat_map-take}
use Rattle.book_file.proofs.Putting.{put_none, put_more, put_from}
use Rattle.book_file.proofs.Tables.{length_table}
use Rattle.book_file.proofs.encode.write_all.Goals as goal

pub loop-record-init : goal.loop-record-init
loop-record-init g c = put_none c.args.out.now

pub write-requires : goal.write-requires
write-requires g c =
    let r = g.R.Record in
    let rs = c.args.records.now in
    let i = c.loop-record.record-index in
    let x = c.record-item.result in
    let fits = length-flat_map-take r.bytes rs i x c.loop-record-test.true in
    omega (arith, length_table r.bytes r.width g.met.R.Record.fixed rs, g.met.R.Record.fixed (get_or rs i x))

pub loop-record-preserved : goal.loop-record-preserved
loop-record-preserved g c =
    let bytes = g.R.Record.bytes in
    let rs = c.args.records.now in
    let i = c.loop-record.record-index in
    let x = c.record-item.result in
    rw (take_more rs i x c.loop-record-test.true, ← flat_map_more bytes [] (take i rs) (get_or rs i x), ← c.record-item.is) (put_more c.loop-record.invariant (put_from refl refl c.write.ensures))
