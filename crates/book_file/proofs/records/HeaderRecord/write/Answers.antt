use Rattle.std.proofs.Common.{arith}
use Rattle.book_file.proofs.Putting.{put_more, put_two, put_four}
use Rattle.book_file.proofs.records.HeaderRecord.write.Goals as goal

pub returns : goal.returns
returns c =
    let h = c.args.self in
    let size = put_four c.put.ensures h.size (omega arith) c.to_le_bytes.ensures in
    let pairs = put_two c.put-2.ensures h.pairs (omega arith) c.to_le_bytes-2.ensures in
    let lines = put_two c.put-3.ensures h.lines (omega arith) c.to_le_bytes-3.ensures in
    let pair_table = put_four c.put-4.ensures h.pair_table (omega arith) c.to_le_bytes-4.ensures in
    let line_table = put_four c.put-5.ensures h.line_table (omega arith) c.to_le_bytes-5.ensures in
    put_more (put_more (put_more (put_more size pairs) lines) pair_table) line_table
