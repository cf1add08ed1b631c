-- What holds of tapes, orders and places, whatever was joined. Each law is carried by a function of src/laws.rt.
use Rattle.std.specs.Prelude.{◌≡◌, ℕ, ◌+◌, ◌<◌, ◌≤◌, Bool, true, List, [], ◌∷◌, ◌++◌, length, ◌≢◌, nat_lt, slice_index_or}
use Rattle.grammar.specs.Limits.{byte_strand_count}
use Rattle.grammar.specs.Orders.{comes, ahead, fore_key, back_key, StrictTotal}
use Rattle.grammar.specs.Places.{places, AllPlaces}
use Rattle.grammar.specs.Tapes.{tape, strands, well_joined}

-- the tape of byte strand c is byte c
abbrev pub ByteTapes : Type 0
ByteTapes = (pairs : List (ℕ × ℕ)) (c : ℕ) → c < byte_strand_count → tape pairs c ≡ c ∷ []

-- a pair's tape is its left part's followed by its right part's
abbrev pub PairTapes : Type 0
PairTapes =
    (pairs : List (ℕ × ℕ)) (k : ℕ) → well_joined pairs ≡ true → k < length pairs
    → tape pairs (byte_strand_count + k) ≡ tape pairs (slice_index_or pairs k (0, 0)).0 ++ tape pairs (slice_index_or pairs k (0, 0)).1

-- a join leaves every older tape as it was
abbrev pub OlderTapesStay : Type 0
OlderTapesStay = (pairs more : List (ℕ × ℕ)) (strand : ℕ) → strand < strands pairs → tape (pairs ++ more) strand ≡ tape pairs strand

-- the first difference decides, by the bytes as numbers
abbrev pub FirstDifferenceDecides : Type 0
FirstDifferenceDecides = (tie : Bool) (common xs ys : List ℕ) (x y : ℕ) → (x ≢ y) → comes tie (common ++ x ∷ xs) (common ++ y ∷ ys) ≡ nat_lt x y

-- a proper beginning comes before the longer tape
abbrev pub BeginningComesFirst : Type 0
BeginningComesFirst = (tie : Bool) (common ys : List ℕ) (y : ℕ) → comes tie common (common ++ y ∷ ys) ≡ true

-- strands with equal keys stand by number
abbrev pub EqualsStandByNumber : Type 0
EqualsStandByNumber = (key : ℕ → List ℕ) (a b : ℕ) → key a ≡ key b → ahead key a b ≡ nat_lt a b

-- each order is strict and total
abbrev pub OrdersAreTotal : Type 0
OrdersAreTotal = (pairs : List (ℕ × ℕ)) → StrictTotal (ahead (fore_key pairs)) × StrictTotal (ahead (back_key pairs))

-- the list of places rises, holds only places and leaves none out
abbrev pub PlacesAreAll : Type 0
PlacesAreAll = (pattern tape : List ℕ) → 1 ≤ length pattern → AllPlaces pattern tape (places pattern tape)

-- such a list is the only one
abbrev pub PlacesAreUnique : Type 0
PlacesAreUnique = (pattern tape found : List ℕ) → 1 ≤ length pattern → AllPlaces pattern tape found → found ≡ places pattern tape
