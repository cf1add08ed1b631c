use Rattle.std.proofs.Common.{arith}
use Rattle.book_file.proofs.Putting.{put_more, put_two, put_four}
use Rattle.book_file.proofs.records.LineRecordRecord.write.Goals as goal

pub returns : goal.returns
returns c =
    let line = c.args.self in
    let number = put_two c.put.ensures line.number (omega arith) c.to_le_bytes.ensures in
    let strand = put_two c.put-2.ensures line.strand.0 (omega arith) c.to_le_bytes-2.ensures in
    let tape = put_four c.put-3.ensures line.length (omega arith) c.to_le_bytes-3.ensures in
    put_more (put_more number strand) tape
