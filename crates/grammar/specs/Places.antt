-- The places of a pattern on a tape.
use Rattle.std.specs.Prelude.{◌≡◌, ℕ, ◌+◌, ◌<◌, ◌≤◌, Bool, true, false, ◌&&◌, List, [], ◌∷◌, length, take, drop, filter, ◌==◌, slice_index}
use Rattle.std.specs.List.{range_with_len}

-- the pattern stands at the place: it ends within the tape, and the bytes from the place on are the pattern's
abbrev pub Stands : List ℕ → List ℕ → ℕ → Type 0
Stands pattern tape place = (place + length pattern ≤ length tape) × (take (length pattern) (drop place tape) ≡ pattern)

-- a list begins with the pattern
abbrev pub begins : List ℕ → List ℕ → Bool
begins [] xs = true
begins (y ∷ pattern) [] = false
begins (y ∷ pattern) (x ∷ xs) = x == y && begins pattern xs

-- all places at which the pattern stands on the tape, rising
unfoldable pub places : List ℕ → List ℕ → List ℕ
places pattern tape = filter (λ place. begins pattern (drop place tape)) (range_with_len 0 (length tape))

-- a list of places that rises, holds only places of the pattern and leaves none out
pub record AllPlaces (pattern tape found : List ℕ) : Type 0 where
  pub rising : (i j : ℕ) → i < j → j < length found → slice_index found i < slice_index found j
  pub sound : (k : ℕ) → k < length found → Stands pattern tape (slice_index found k)
  pub complete : (place : ℕ) → Stands pattern tape place → (k : ℕ) × (k < length found) × (slice_index found k ≡ place)
