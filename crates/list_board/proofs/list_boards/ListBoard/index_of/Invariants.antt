use Rattle.std.proofs.Common.{◌≡◌, drop}
use Rattle.list_board.specs.Listing.{place_in, records}
use Rattle.list_board.specs.Listed.{listed}
use Rattle.list_board.proofs.list_boards.ListBoard.index_of.Given as goal

abbrev pub invariant-loop-i : goal.invariant-loop-i
invariant-loop-i l = place_in (drop l.i (records (listed l.self))) l.label.0 ≡ place_in (records (listed l.self)) l.label.0
