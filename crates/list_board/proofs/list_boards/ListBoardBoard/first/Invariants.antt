use Rattle.std.proofs.Common.{take}
use Rattle.board.specs.Meaning.{hits}
use Rattle.board.specs.Answering.{LeastOf}
use Rattle.list_board.specs.Listing.{place_in, records}
use Rattle.list_board.specs.Listed.{listed}
use Rattle.list_board.proofs.list_boards.ListBoardBoard.first.Given as goal

abbrev pub invariant-loop-point : goal.invariant-loop-point
invariant-loop-point l = LeastOf (hits l.within l.floor.0 (place_in (take l.point-index (records (listed l.self))))) l.least
