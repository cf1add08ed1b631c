-- What a list board holds.
use Rattle.list_board.specs.declared.list_boards.ListBoard.{ListBoard}
use Rattle.list_board.specs.Listing.{Listing}

abbrev pub listed : ListBoard → Listing
listed b = record { table = b.table.now; filled = b.filled; rows = b.rows; columns = b.columns }
