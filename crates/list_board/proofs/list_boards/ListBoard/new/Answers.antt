use Rattle.std.proofs.Common.{◌≡◌, ℕ, ◌-◌, min, List, length, take, sym, ap, subst}
use Rattle.grammar.specs.Limits.{byte_strand_count, max_strands}
use Rattle.board.specs.declared.points.Point.{Point}
use Rattle.list_board.specs.Listing.{Listing, Whole, fresh}
use Rattle.list_board.proofs.Listings.{front_is, fresh_whole}
use Rattle.list_board.proofs.list_boards.ListBoard.new.Goals as goal

abbrev made : List Point → Listing
made front = record { table = front; filled = 0; rows = byte_strand_count; columns = byte_strand_count }

made_fresh : (table : List Point) (k : ℕ) → k ≡ min (length table) max_strands → made (take (k - 0) table) ≡ fresh table
made_fresh table k is = ap made (front_is table k is)

pub returns-clause-ok : goal.returns-clause-ok
returns-clause-ok c = subst Whole (sym (made_fresh c.args.table.now _ c.min-capacity.ensures)) (fresh_whole c.args.table.now)

pub returns-clause-is : goal.returns-clause-is
returns-clause-is c = made_fresh c.args.table.now _ c.min-capacity.ensures
