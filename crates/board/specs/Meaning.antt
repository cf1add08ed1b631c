-- What a board means, and what a call makes of that.
use Rattle.std.specs.Prelude.{◌≡◌, ℕ, ◌+◌, ◌<◌, ◌≤◌, min, Bool, false, cond, ◌&&◌, is_some, Some, None, Option, ◌==◌, nat_le, nat_lt}
use Rattle.grammar.specs.Limits.{byte_strand_count, max_strands}
use Rattle.grammar.specs.Orders.{tally}
use Rattle.board.specs.declared.rectangles.Rectangle.{Rectangle}

-- a board means its rows, its columns, its capacity and its points: `at` tells the row and the column of a label's point, so that no two points share a label
pub record Meaning : Type 0 where
  pub rows : ℕ
  pub columns : ℕ
  pub capacity : ℕ
  pub at : ℕ → Option (ℕ × ℕ)

-- where the point with a label stands, row and column
abbrev pub place_at : Meaning → ℕ → Option (ℕ × ℕ)
place_at m label = m.at label

-- whether there is a point with the label
abbrev pub stands : Meaning → ℕ → Bool
stands m label = is_some (place_at m label)

-- how many points there are
unfoldable pub count : Meaning → ℕ
count m = tally (stands m) max_strands

-- a board as it is made: 256 rows, 256 columns and no point
abbrev pub clean : ℕ → Meaning
clean capacity = record { rows = byte_strand_count; columns = byte_strand_count; capacity = capacity; at = λ label. None }

-- where a row or a column stands after one is opened at `place`: those from there on move up one
abbrev pub moved : ℕ → ℕ → ℕ
moved place rank = cond (nat_le place rank) (rank + 1) rank

-- the same as far as a rank's type goes, which no rank within the limit reaches
abbrev pub held_rank : ℕ → ℕ → ℕ
held_rank place rank = min (moved place rank) 65535

abbrev pub moved_point : ℕ → ℕ → Option (ℕ × ℕ) → Option (ℕ × ℕ)
moved_point row column None = None
moved_point row column (Some place) = Some (moved row place.0, moved column place.1)

-- a board with a row and a column opened
abbrev pub widened : Meaning → ℕ → ℕ → Meaning
widened m row column = record { rows = m.rows + 1; columns = m.columns + 1; capacity = m.capacity; at = λ label. moved_point row column (place_at m label) }

-- a board with a point more
abbrev pub placed : Meaning → ℕ → ℕ → ℕ → Meaning
placed m row column label = record { rows = m.rows; columns = m.columns; capacity = m.capacity; at = λ other. cond (label == other) (Some (row, column)) (place_at m other) }

abbrev pub inside : Rectangle → ℕ × ℕ → Bool
inside within place = nat_le within.top.0 place.0 && (nat_lt place.0 within.bottom.0 && (nat_le within.left.0 place.1 && nat_lt place.1 within.right.0))

abbrev pub stands_inside : Rectangle → Option (ℕ × ℕ) → Bool
stands_inside within None = false
stands_inside within (Some place) = inside within place

-- whether a label is not below the floor and has its point inside
abbrev pub hits : Rectangle → ℕ → (ℕ → Option (ℕ × ℕ)) → ℕ → Bool
hits within floor at label = nat_le floor label && stands_inside within (at label)

-- what holds of the meaning of every board: each point is on it, each label within the limit, and there are no more rows, columns and points than there may be
pub record Proper (m : Meaning) : Type 0 where
  pub rows_few : m.rows ≤ max_strands
  pub columns_few : m.columns ≤ max_strands
  pub capacity_few : m.capacity ≤ max_strands
  pub points_few : count m ≤ m.capacity
  pub labels_low : (label : ℕ) → max_strands ≤ label → place_at m label ≡ None
  pub on_board : (label row column : ℕ) → place_at m label ≡ Some (row, column) → (row < m.rows) × (column < m.columns)
