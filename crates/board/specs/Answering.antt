-- What each call of a board answers, and what the board means after it.
use Rattle.std.specs.Prelude.{◌≡◌, ℕ, ◌<◌, min, Bool, true, false, ◌&&◌, ◌||◌, [], ◌∷◌, Some, None, Ok, Err, Option, Result, MatchOption, nat_le, nat_lt}
use Rattle.std.specs.Option.{option_map}
use Rattle.grammar.specs.Limits.{max_strands}
use Rattle.grammar.specs.Refusals.{first_of}
use Rattle.grammar.specs.declared.refusals.Refusal.{Refusal}
use Rattle.grammar.specs.declared.refusals.Refusal.TheVariants.{OffBoard, LabelTaken, BoardFull, BoardAtLimit}
use Rattle.grammar.specs.declared.strands.BackRank.{BackRank}
use Rattle.grammar.specs.declared.strands.ForeRank.{ForeRank}
use Rattle.grammar.specs.declared.strands.Strand.{Strand}
use Rattle.board.specs.declared.points.Point.{Point}
use Rattle.board.specs.declared.rectangles.Rectangle.{Rectangle}
use Rattle.board.specs.declared.sizes.Size.{Size}
use Rattle.board.specs.Meaning.{Meaning, place_at, stands, count, widened, placed, hits}

-- the counts of a board
abbrev pub size_of : Meaning → Size
size_of m = record { rows = m.rows; columns = m.columns; points = count m; capacity = m.capacity }

abbrev pub Sizes : Meaning → Size → Type 0
Sizes m answer = answer ≡ size_of m

-- what a call answers that is refused, or not
abbrev pub settled : Option Refusal → Result (Unit {0}) Refusal
settled None = Ok tt
settled (Some refusal) = Err refusal

-- what a board means after it: as before where it is refused
abbrev pub kept : Option Refusal → Meaning → Meaning → Meaning
kept None before changed = changed
kept (Some refusal) before changed = before

-- a call that is refused and changes nothing, or changes the board
pub record Settles (refusal : Option Refusal) (before changed : Meaning) (answer : Result (Unit {0}) Refusal) (after : Meaning) : Type 0 where
  pub answer_is : answer ≡ settled refusal
  pub after_is : after ≡ kept refusal before changed

-- why a board of a size opens no row and column at these places; a row place equal to the rows, and a column place equal to the columns, is no refusal
abbrev pub widen_fault : Size → ℕ → ℕ → Option Refusal
widen_fault size row column =
    first_of (
    (nat_le max_strands size.rows || nat_le max_strands size.columns, BoardAtLimit)
    ∷ (nat_lt size.rows row || nat_lt size.columns column, OffBoard)
    ∷ [])

abbrev pub widen_refusal : Meaning → ℕ → ℕ → Option Refusal
widen_refusal m row column = widen_fault (size_of m) row column

abbrev pub Widens : Meaning → BackRank → ForeRank → Result (Unit {0}) Refusal → Meaning → Type 0
Widens m row column answer after = Settles (widen_refusal m row.0 column.0) m (widened m row.0 column.0) answer after

-- whether a point's row and column are on a board of a size, and its label within the limit
abbrev pub covered : Size → ℕ → ℕ → ℕ → Bool
covered size row column label = nat_lt row size.rows && (nat_lt column size.columns && nat_lt label max_strands)

-- why a board of a size adds no point there, whose label is taken or not
abbrev pub put_fault : Size → Bool → ℕ → ℕ → ℕ → Option Refusal
put_fault size taken row column label =
    first_of (
    (nat_le size.rows row || nat_le size.columns column, OffBoard)
    ∷ (nat_le max_strands label || taken, LabelTaken)
    ∷ (nat_le size.capacity size.points, BoardFull)
    ∷ [])

abbrev pub put_refusal : Meaning → ℕ → ℕ → ℕ → Option Refusal
put_refusal m row column label = put_fault (size_of m) (stands m label) row column label

abbrev pub Puts : Meaning → Point → Result (Unit {0}) Refusal → Meaning → Type 0
Puts m point answer after =
    Settles (put_refusal m point.row.0 point.column.0 point.label.0) m (placed m point.row.0 point.column.0 point.label.0) answer after

-- a place's row and column, each in its own rank type
abbrev pub ranked : ℕ × ℕ → BackRank × ForeRank
ranked place = (record { 0 = place.0 }, record { 0 = place.1 })

abbrev pub Locates : Meaning → Strand → Option (BackRank × ForeRank) → Type 0
Locates m label answer = answer ≡ option_map ranked (place_at m label.0)

-- the least number that passes a test, or that none does
abbrev pub LeastOf : (ℕ → Bool) → Option Strand → Type 0
LeastOf test answer =
    MatchOption answer
    ((k : ℕ) → test k ≡ false)
    (λ least. (test least.0 ≡ true) × ((k : ℕ) → k < least.0 → test k ≡ false))

-- the smaller of the least so far and one label more
abbrev pub lowest : Option Strand → Strand → Option Strand
lowest None label = Some label
lowest (Some least) label = Some (record { 0 = min least.0 label.0 })

abbrev pub Firsts : Meaning → Rectangle → Strand → Option Strand → Type 0
Firsts m within floor answer = LeastOf (hits within floor.0 (place_at m)) answer
