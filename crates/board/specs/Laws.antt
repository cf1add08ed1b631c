-- What holds of every board's meaning, whatever is called. Each law is carried by a function of src/laws.rt.
use Rattle.std.specs.Prelude.{◌≡◌, ℕ, ◌+◌, ◌<◌, ◌≤◌, true, false, cond, ◌&&◌, ◌||◌, List, Some, None, Err, Option, ◌==◌, ◌≢◌, nat_le}
use Rattle.grammar.specs.Limits.{max_strands}
use Rattle.grammar.specs.declared.refusals.Refusal.{Refusal}
use Rattle.grammar.specs.declared.strands.Strand.{Strand}
use Rattle.board.specs.declared.rectangles.Rectangle.{Rectangle}
use Rattle.board.specs.declared.calls.Call.{Call}
use Rattle.board.specs.declared.calls.Answer.{Answer}
use Rattle.board.specs.declared.calls.Answer.TheVariants.{Settled}
use Rattle.board.specs.Meaning.{Meaning, Proper, place_at, stands, count, clean, moved, moved_point, widened, placed, inside, hits}
use Rattle.board.specs.Answering.{Firsts, lowest, widen_refusal, put_refusal}
use Rattle.board.specs.Serving.{Serves, Runs}

-- a clean board has no point and is proper, and no call makes a board otherwise
abbrev pub CleanHasNoPoint : Type 0
CleanHasNoPoint = (capacity : ℕ) → count (clean capacity) ≡ 0

abbrev pub CleanIsProper : Type 0
CleanIsProper = (capacity : ℕ) → capacity ≤ max_strands → Proper (clean capacity)

abbrev pub CallsKeepProper : Type 0
CallsKeepProper = (m after : Meaning) (call : Call) (answer : Answer) → Serves m call answer after → Proper m → Proper after

-- no call takes a point away
abbrev pub CallsKeepPoints : Type 0
CallsKeepPoints = (m after : Meaning) (call : Call) (answer : Answer) (label : ℕ) → Serves m call answer after → stands m label ≡ true → stands after label ≡ true

abbrev pub CallsKeepCapacity : Type 0
CallsKeepCapacity = (m after : Meaning) (call : Call) (answer : Answer) → Serves m call answer after → after.capacity ≡ m.capacity

abbrev pub RefusalsChangeNothing : Type 0
RefusalsChangeNothing = (m after : Meaning) (call : Call) (refusal : Refusal) → Serves m call (Settled (Err refusal)) after → after ≡ m

-- widening leaves the number of points, and a put that is accepted makes it one more
abbrev pub WideningKeepsCount : Type 0
WideningKeepsCount = (m : Meaning) (row column : ℕ) → count (widened m row column) ≡ count m

abbrev pub PutCountsOneMore : Type 0
PutCountsOneMore = (m : Meaning) (row column label : ℕ) → put_refusal m row column label ≡ None → count (placed m row column label) ≡ count m + 1

-- a board after a row and a column were opened at a and b, and then a point was put
pub record Grown (m : Meaning) (a b row column label : ℕ) (after : Meaning) : Type 0 where
  pub rows_are : after.rows ≡ m.rows + 1
  pub columns_are : after.columns ≡ m.columns + 1
  pub capacity_is : after.capacity ≡ m.capacity
  pub count_is : count after ≡ count m + 1
  pub label_at : place_at after label ≡ Some (row, column)
  pub others_at : (other : ℕ) → (other ≢ label) → place_at after other ≡ moved_point a b (place_at m other)

-- after a widening that was accepted, a point may be put on any row and column up to the new last ones
abbrev pub WidenThenPut : Type 0
WidenThenPut =
    (m : Meaning) (a b row column label : ℕ)
    → widen_refusal m a b ≡ None → row ≤ m.rows → column ≤ m.columns → label < max_strands → stands m label ≡ false → count m < m.capacity
    → (put_refusal (widened m a b) row column label ≡ None) × Grown m a b row column label (placed (widened m a b) row column label)

-- no point stands in a row or a column just opened
abbrev pub OpenedAreEmpty : Type 0
OpenedAreEmpty = (m : Meaning) (a b label row column : ℕ) → place_at (widened m a b) label ≡ Some (row, column) → (row ≢ a) × (column ≢ b)

-- a rectangle after a row and a column were opened
abbrev pub moved_rectangle : ℕ → ℕ → Rectangle → Rectangle
moved_rectangle a b within =
    record {
      top = record { 0 = moved a within.top.0 };
      bottom = record { 0 = moved a within.bottom.0 };
      left = record { 0 = moved b within.left.0 };
      right = record { 0 = moved b within.right.0 };
    }

-- widening moves a rectangle with its points: first answers as before
abbrev pub FirstAfterWiden : Type 0
FirstAfterWiden = (m : Meaning) (a b : ℕ) (within : Rectangle) (floor : Strand) (answer : Option Strand) → Firsts m within floor answer → Firsts (widened m a b) (moved_rectangle a b within) floor answer

-- a point more is the answer where it is inside and its label the smallest yet
abbrev pub FirstAfterPut : Type 0
FirstAfterPut =
    (m : Meaning) (row column : ℕ) (label : Strand) (within : Rectangle) (floor : Strand) (answer : Option Strand)
    → stands m label.0 ≡ false → Firsts m within floor answer
    → Firsts (placed m row column label.0) within floor (cond (nat_le floor.0 label.0 && inside within (row, column)) (lowest answer label) answer)

-- one answer alone is right
abbrev pub FirstIsUnique : Type 0
FirstIsUnique = (m : Meaning) (within : Rectangle) (floor : Strand) (one other : Option Strand) → Firsts m within floor one → Firsts m within floor other → one ≡ other

-- asked again with a floor one above its answer, first leaves out nothing: the labels inside are that answer and those above it
abbrev pub FirstThenTheRest : Type 0
FirstThenTheRest =
    (m : Meaning) (within : Rectangle) (floor label : Strand) → Firsts m within floor (Some label)
    → (k : ℕ) → hits within floor.0 (place_at m) k ≡ (label.0 == k || hits within (label.0 + 1) (place_at m) k)

-- two boards that mean the same answer every list of calls alike, and mean the same after it
abbrev pub EqualMeaningsRunAlike : Type 0
EqualMeaningsRunAlike =
    (m one other : Meaning) (calls : List Call) (answers others : List Answer)
    → Runs m calls answers one → Runs m calls others other → (answers ≡ others) × (one ≡ other)
