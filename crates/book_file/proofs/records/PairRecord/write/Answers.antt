use Rattle.std.proofs.Common.{arith}
use Rattle.book_file.proofs.Putting.{put_more, put_two}
use Rattle.book_file.proofs.records.PairRecord.write.Goals as goal

pub returns : goal.returns
returns c =
    let pair = c.args.self in
    let left = put_two c.put.ensures pair.left.0 (omega arith) c.to_le_bytes.ensures in
    let right = put_two c.put-2.ensures pair.right.0 (omega arith) c.to_le_bytes-2.ensures in
    put_more left right
