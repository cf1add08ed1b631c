use Rattle.list_board.specs.Listed.{listed}
use Rattle.list_board.proofs.Listings.{located}
use Rattle.list_board.proofs.list_boards.ListBoardBoard.locate.Goals as goal

pub returns : goal.returns
returns c = located (listed c.args.self.now) c.args.label c.in_ok-point.field-0 c.requires c.in_ok-point.ensures
