-- Calls with their answers, one after another.
use Rattle.std.specs.Prelude.{◌≡◌, List, [], ◌∷◌, map}
use Rattle.board.specs.declared.calls.Call.{Call}
use Rattle.board.specs.declared.calls.Call.TheVariants.{AskSize, Widen, Put, Locate, First}
use Rattle.board.specs.declared.calls.Answer.{Answer}
use Rattle.board.specs.declared.calls.Answer.TheVariants.{Counts, Settled, Place, Label}
use Rattle.board.specs.Meaning.{Meaning}
use Rattle.board.specs.Answering.{Sizes, Widens, Puts, Locates, Firsts}

-- an answer of one form, whose content is right
abbrev pub Tells : {X : Type 0} → (X → Answer) → (X → Type 0) → Answer → Type 0
Tells {X = X} form Right answer = (told : X) × ((answer ≡ form told) × Right told)

-- what a call answers on a board that means `m`, and what the board means after it; questions change nothing
abbrev pub Serves : Meaning → Call → Answer → Meaning → Type 0
Serves m AskSize answer after = Tells Counts (Sizes m) answer × (after ≡ m)
Serves m (Widen row column) answer after = Tells Settled (λ told. Widens m row column told after) answer
Serves m (Put point) answer after = Tells Settled (λ told. Puts m point told after) answer
Serves m (Locate label) answer after = Tells Place (Locates m label) answer × (after ≡ m)
Serves m (First within floor) answer after = Tells Label (Firsts m within floor) answer × (after ≡ m)

-- a list of calls with their answers, each after the ones before it
abbrev pub Runs : Meaning → List Call → List Answer → Meaning → Type 0
Runs m [] [] after = after ≡ m
Runs m [] (answer ∷ answers) after = ⊥
Runs m (call ∷ calls) [] after = ⊥
Runs m (call ∷ calls) (answer ∷ answers) after = (between : Meaning) × (Serves m call answer between × Runs between calls answers after)

-- of what two boards answer side by side, what the one answers, and what the other does
abbrev pub of_one : List (Answer × Answer) → List Answer
of_one both = map (λ a. a.0) both

abbrev pub of_other : List (Answer × Answer) → List Answer
of_other both = map (λ a. a.1) both
