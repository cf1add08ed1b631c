use Rattle.std.proofs.Common.{◌+◌, length, vec_items}
use Rattle.board.specs.Answering.{LeastOf}
use Rattle.chained_board.specs.Boards.{tables}
use Rattle.chained_board.proofs.Tables.{bound}
use Rattle.chained_board.proofs.Walks.{Walk, reached}
use Rattle.chained_board.proofs.chained_boards.ChainedBoardBoard.first.Given as goal

abbrev pub invariant-points : goal.invariant-points
invariant-points l = Walk l.within l.floor.0 (tables l.self) (l.top + l.chain-index) l.next l.least

abbrev pub decreases-points : goal.decreases-points
decreases-points l = bound l.next

abbrev pub invariant-rows : goal.invariant-rows
invariant-rows l = LeastOf (reached l.within l.floor.0 (tables l.self) (l.top + l.chain-index) (length (vec_items l.self.slots))) l.least
