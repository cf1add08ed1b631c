use Rattle.std.proofs.Common.{◌≡◌, None, inl, inr, sym, ◌∙◌, arith}
use Rattle.board.specs.Meaning.{placed}
use Rattle.board.specs.Answering.{put_refusal}
use Rattle.board.proofs.Meanings.{accepted, free, put_looked_clear}
use Rattle.list_board.specs.Listing.{meaning}
use Rattle.list_board.specs.Listed.{listed}
use Rattle.list_board.proofs.Listings.{put_meaning, put_whole}
use Rattle.list_board.proofs.list_boards.ListBoardBoard.put.Goals as goal
use Rattle.list_board.proofs.list_boards.ListBoardBoard.put.Goals.{then-covers, else-covers}

pub returns-clause-ok : goal.returns-clause-ok
returns-clause-ok c =
    let b = listed c.args.self.now in
    let p = c.args.point in
    let m = meaning b in
    let clear = put_looked_clear m p c.size-size.ensures (elim c.if-covers.branch [ then-covers w ↦ inl (w.standing-is ∙ w.locate-standing.ensures) | else-covers w ↦ inr (sym c.covers.ensures ∙ w.if-covers.false) ]) c.in_ok-may_put.ensures in
    let may = free m p.row.0 p.column.0 p.label.0 clear in
    put_whole b p (omega (arith, may.4, c.requires.counted)) may.3 may.0 may.1 may.2 c.requires

pub returns-clause-puts : goal.returns-clause-puts
returns-clause-puts c =
    let b = listed c.args.self.now in
    let p = c.args.point in
    let m = meaning b in
    let clear : put_refusal m p.row.0 p.column.0 p.label.0 ≡ None = put_looked_clear m p c.size-size.ensures (elim c.if-covers.branch [ then-covers w ↦ inl (w.standing-is ∙ w.locate-standing.ensures) | else-covers w ↦ inr (sym c.covers.ensures ∙ w.if-covers.false) ]) c.in_ok-may_put.ensures in
    let may = free m p.row.0 p.column.0 p.label.0 clear in
    accepted (put_refusal m p.row.0 p.column.0 p.label.0) m (placed m p.row.0 p.column.0 p.label.0) _ clear (put_meaning b p (omega (arith, may.4, c.requires.counted)) may.3)
