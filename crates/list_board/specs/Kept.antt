-- What a kept list board holds.
use Rattle.list_board.specs.declared.kept.KeptListBoard.{KeptListBoard}
use Rattle.list_board.specs.Listed.{listed}
use Rattle.list_board.specs.Listing.{Listing}

abbrev pub kept_listed : KeptListBoard → Listing
kept_listed k = listed k.board
