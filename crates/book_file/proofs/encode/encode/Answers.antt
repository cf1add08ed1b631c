use Rattle.std.proofs.Common.{length, refl, arith, rules}
use Rattle.book_file.proofs.Files.{length_pairs, encodes}
use Rattle.book_file.proofs.Putting.{put_file, put_from}
use Rattle.book_file.proofs.encode.encode.Goals as goal

pub write_all-requires-2 : goal.write_all-requires-2
write_all-requires-2 c =
    let room = encodes (length c.args.pairs.now) (length c.args.lines.now) (length c.args.buffer.now) c.in_ok-header.ensures.0 in
    omega (arith, length_pairs c.args.pairs.now)

pub returns : goal.returns
returns c =
    let ready = c.in_ok-header.ensures in
    put_file c.args.pairs.now c.args.lines.now ready.1 ready.0 refl c.write.ensures c.write_all.ensures (put_from refl refl c.write_all-2.ensures) (search rules)
