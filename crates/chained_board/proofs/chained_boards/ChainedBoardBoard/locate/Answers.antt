use Rattle.std.proofs.Common.{None, vec_items, arith}
use Rattle.std.proofs.lemmas.List.{get_or_read}
use Rattle.chained_board.specs.Boards.{tables}
use Rattle.chained_board.proofs.Steps.{filed_low}
use Rattle.chained_board.proofs.chained_boards.ChainedBoardBoard.locate.Goals as goal

pub index-slot-requires : goal.index-slot-requires
index-slot-requires c =
    let s = c.args.self.now in
    let is = get_or_read (vec_items s.labels) c.args.label.0 c.index.result.now (omega (arith, s.sound.filed.labels_long)) c.index.ensures None in
    omega (arith, (filed_low (tables s) s.columns c.args.label.0 _ _ s.sound is c.in_ok-index.was).0)
