-- The tape of a strand: the run of bytes that it stands for.
-- The pairs of a book are listed in the order of joining, each by the numbers of its left and its right part; pair k is strand 256 + k.
use Rattle.std.specs.Prelude.{ℕ, ◌+◌, Bool, true, ◌&&◌, List, [], ◌∷◌, ◌++◌, map, length, nat_lt, slice_index_or}
use Rattle.std.specs.List.{range_with_len}
use Rattle.grammar.specs.Limits.{byte_strand_count}

-- the tape of byte strand c is byte c
unfoldable pub byte_tapes : List (List ℕ)
byte_tapes = map (λ c. c ∷ []) (range_with_len 0 byte_strand_count)

-- one pair more: its tape is its left part's followed by its right part's
abbrev pub with_pair : List (List ℕ) → ℕ × ℕ → List (List ℕ)
with_pair tapes pair = tapes ++ ((slice_index_or tapes pair.0 [] ++ slice_index_or tapes pair.1 []) ∷ [])

abbrev pub tapes_from : List (List ℕ) → List (ℕ × ℕ) → List (List ℕ)
tapes_from tapes [] = tapes
tapes_from tapes (pair ∷ pairs) = tapes_from (with_pair tapes pair) pairs

-- the tapes of all strands, by number
unfoldable pub tapes : List (ℕ × ℕ) → List (List ℕ)
tapes pairs = tapes_from byte_tapes pairs

abbrev pub tape : List (ℕ × ℕ) → ℕ → List ℕ
tape pairs strand = slice_index_or (tapes pairs) strand []

-- how many strands there are
abbrev pub strands : List (ℕ × ℕ) → ℕ
strands pairs = byte_strand_count + length pairs

-- from strand n on, both parts of a pair have lower numbers than the pair
abbrev pub older_from : ℕ → List (ℕ × ℕ) → Bool
older_from n [] = true
older_from n (pair ∷ pairs) = nat_lt pair.0 n && (nat_lt pair.1 n && older_from (n + 1) pairs)

-- each pair joins strands that were there before it
unfoldable pub well_joined : List (ℕ × ℕ) → Bool
well_joined pairs = older_from byte_strand_count pairs
