-- What the table of a list board holds, what that means, and what a call makes of it.
use Rattle.std.specs.Prelude.{◌≡◌, ℕ, ◌+◌, ◌<◌, ◌≤◌, Bool, true, cond, not, ◌&&◌, ◌⊎◌, List, [], ◌∷◌, ◌++◌, map, length, take, drop, is_some, Some, None, Ok, Err, Option, Result, MatchOption, ◌==◌, slice_index_or, slice_set}
use Rattle.grammar.specs.Limits.{byte_strand_count, max_strands}
use Rattle.grammar.specs.declared.refusals.Refusal.{Refusal}
use Rattle.board.specs.Meaning.{Meaning, Proper, count, moved}
use Rattle.board.specs.declared.points.Point.{Point}

-- a table with its filled records first, in the order put, and a board's rows and columns
pub record Listing : Type 0 where
  pub table : List Point
  pub filled : ℕ
  pub rows : ℕ
  pub columns : ℕ

-- what is read where there is no record
abbrev pub zero_point : Point
zero_point = record { row = record { 0 = 0 }; column = record { 0 = 0 }; label = record { 0 = 0 } }

-- the points in the order put
abbrev pub records : Listing → List Point
records b = take b.filled b.table

-- where a label's point stands, row and column: the first record with the label tells
abbrev pub place_in : List Point → ℕ → Option (ℕ × ℕ)
place_in [] label = None
place_in (p ∷ ps) label = cond (p.label.0 == label) (Some (p.row.0, p.column.0)) (place_in ps label)

-- the index of a record with the label, or none where there is none
abbrev pub IndexOf : List Point → ℕ → Option ℕ → Type 0
IndexOf ps label answer =
    MatchOption answer
    (place_in ps label ≡ None)
    (λ i. (i < length ps) × ((slice_index_or ps i zero_point).label.0 ≡ label))

-- no two records share a label
abbrev pub distinct : List Point → Bool
distinct [] = true
distinct (p ∷ ps) = not (is_some (place_in ps p.label.0)) && distinct ps

-- the capacity is the table's length
abbrev pub meaning : Listing → Meaning
meaning b = record { rows = b.rows; columns = b.columns; capacity = length b.table; at = place_in (records b) }

-- what every call asks and keeps: the filled records fit the table, each has a label of its own, and they are all the points
pub record Whole (b : Listing) : Type 0 where
  pub fits : b.filled ≤ length b.table
  pub once : distinct (records b) ≡ true
  pub counted : count (meaning b) ≡ b.filled
  pub proper : Proper (meaning b)

-- a board as it is made, of the first records of the caller's table
abbrev pub fresh : List Point → Listing
fresh table = record { table = take max_strands table; filled = 0; rows = byte_strand_count; columns = byte_strand_count }

-- a point behind the others
abbrev pub with_point : Listing → Point → Listing
with_point b point = record { table = slice_set b.table b.filled point; filled = b.filled + 1; rows = b.rows; columns = b.columns }

-- a point after a row and a column are opened
abbrev pub moved_record : ℕ → ℕ → Point → Point
moved_record row column p = record { row = record { 0 = moved row p.row.0 }; column = record { 0 = moved column p.column.0 }; label = p.label }

-- the filled records moved, and the others as they were
abbrev pub with_opening : Listing → ℕ → ℕ → Listing
with_opening b row column = record { table = map (moved_record row column) (records b) ++ drop b.filled b.table; filled = b.filled; rows = b.rows + 1; columns = b.columns + 1 }

-- what a call leaves by its answer: as before where it is refused
abbrev pub leaves : Result (Unit {0}) Refusal → Listing → Listing → Listing
leaves (Ok done) before changed = changed
leaves (Err refusal) before changed = before

-- what a call keeps of the table: a point more behind the others, every point moved where it is, or all as it was
abbrev pub Follows : Listing → Listing → Type 0
Follows b after =
    (answer : Result (Unit {0}) Refusal)
    × (((point : Point) × (after ≡ leaves answer b (with_point b point)))
    ⊎ ((row : ℕ) × ((column : ℕ) × (after ≡ leaves answer b (with_opening b row column)))))
