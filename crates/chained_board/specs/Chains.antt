-- What the tables of a chained board mean, and what holds of them.
use Rattle.std.specs.Prelude.{◌≡◌, ℕ, zero, suc, ◌<◌, cond, List, length, Some, None, Option, ◌==◌, slice_index, slice_index_or}
use Rattle.grammar.specs.Limits.{max_pairs, max_strands}
use Rattle.grammar.specs.declared.strands.BackRank.{BackRank}
use Rattle.board.specs.Meaning.{Meaning, Proper, count}
use Rattle.chained_board.specs.declared.chained_boards.Slot.{Slot}

-- what the tables hold: the points, the chain of each row, the row of each chain, the newest slot of each chain, the slot of each label
pub record Tables : Type 0 where
  pub slots : List Slot
  pub order : List ℕ
  pub rows : List BackRank
  pub heads : List (Option ℕ)
  pub labels : List (Option ℕ)

abbrev pub blank : Slot
blank = record { chain = 0; column = record { 0 = 0 }; label = record { 0 = 0 }; next = None }

abbrev pub slot_at : List Slot → ℕ → Slot
slot_at slots s = slice_index_or slots s blank

-- the row of a chain
abbrev pub row_of : List BackRank → ℕ → ℕ
row_of rows chain = (slice_index_or rows chain (record { 0 = 0 })).0

-- the row and the column of a slot's point
abbrev pub place_of : List Slot → List BackRank → Option ℕ → Option (ℕ × ℕ)
place_of slots rows None = None
place_of slots rows (Some s) = Some (row_of rows (slot_at slots s).chain, (slot_at slots s).column.0)

-- the row and the column of a label's point
abbrev pub at_of : Tables → ℕ → Option (ℕ × ℕ)
at_of t label = place_of t.slots t.rows (slice_index_or t.labels label None)

abbrev pub meaning_of : Tables → ℕ → Meaning
meaning_of t columns = record { rows = length t.order; columns = columns; capacity = max_pairs; at = at_of t }

-- rows and chains number each other
pub record Paired (n : ℕ) (order : List ℕ) (rows : List BackRank) : Type 0 where
  pub order_long : length order ≡ n
  pub rows_long : length rows ≡ n
  pub chain_low : (r : ℕ) → r < n → slice_index order r < n
  pub row_low : (c : ℕ) → c < n → row_of rows c < n
  pub back : (r : ℕ) → r < n → row_of rows (slice_index order r) ≡ r
  pub forth : (c : ℕ) → c < n → slice_index order (row_of rows c) ≡ c

-- labels and slots find each other, and each slot is on a chain
pub record Filed (n : ℕ) (slots : List Slot) (labels : List (Option ℕ)) : Type 0 where
  pub labels_long : length labels ≡ max_strands
  pub chain_of : (s : ℕ) → s < length slots → (slot_at slots s).chain < n
  pub found : (s : ℕ) → s < length slots → slice_index_or labels (slot_at slots s).label.0 None ≡ Some s
  pub named : (l s : ℕ) → slice_index_or labels l None ≡ Some s → (s < length slots) × ((slot_at slots s).label.0 ≡ l)

-- the newest of the first n slots that is on a chain
abbrev pub newest : List Slot → ℕ → ℕ → Option ℕ
newest slots chain zero = None
newest slots chain (suc n) = cond ((slot_at slots n).chain == chain) (Some n) (newest slots chain n)

-- each chain holds its slots, the newest first
pub record Linked (n : ℕ) (slots : List Slot) (heads : List (Option ℕ)) : Type 0 where
  pub heads_long : length heads ≡ n
  pub head : (c : ℕ) → c < n → slice_index_or heads c None ≡ newest slots c (length slots)
  pub link : (s : ℕ) → s < length slots → (slot_at slots s).next ≡ newest slots (slot_at slots s).chain s

pub record Sound (t : Tables) (columns : ℕ) : Type 0 where
  pub paired : Paired (length t.order) t.order t.rows
  pub filed : Filed (length t.order) t.slots t.labels
  pub linked : Linked (length t.order) t.slots t.heads
  pub counted : count (meaning_of t columns) ≡ length t.slots
  pub proper : Proper (meaning_of t columns)
