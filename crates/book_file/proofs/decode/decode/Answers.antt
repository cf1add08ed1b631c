use Rattle.std.proofs.Common.{vec_items}
use Rattle.book_file.proofs.Files.{spelled}
use Rattle.book_file.proofs.decode.decode.Goals as goal

pub returns : goal.returns
returns c =
    let opened = c.in_ok-tables.ensures in
    let ps = c.in_ok-pairs.ensures in
    let ls = c.in_ok-lines.ensures in
    record { accepted = opened.accepted; spelled = spelled opened (vec_items c.in_ok-pairs.pairs) ps.0 ps.1 ps.2 (vec_items c.in_ok-lines.lines) ls.0 ls.1 ls.2 }
