-- Worked examples of the definitions.
use Rattle.std.specs.Prelude.{◌≡◌, ℕ, List, [], ◌∷◌, map, length}
use Rattle.grammar.specs.Orders.{fore_rank, back_rank}
use Rattle.grammar.specs.Places.{places}
use Rattle.grammar.specs.Tapes.{tape}

-- the strands AB, ABAB and ABABA
abbrev pub ababa : List (ℕ × ℕ)
ababa = (65, 66) ∷ (256, 256) ∷ (257, 65) ∷ []

-- the strands AA and AAAA
abbrev pub aaaa : List (ℕ × ℕ)
aaaa = (65, 65) ∷ (256, 256) ∷ []

-- AB twice
abbrev pub twice : List (ℕ × ℕ)
twice = (65, 66) ∷ (65, 66) ∷ []

pub record Rows : Type 0 where
  pub tape_of258 : tape ababa 258 ≡ 65 ∷ 66 ∷ 65 ∷ 66 ∷ 65 ∷ []
  pub fore_ranks : map (fore_rank ababa) (65 ∷ 256 ∷ 257 ∷ 258 ∷ 66 ∷ []) ≡ 65 ∷ 66 ∷ 67 ∷ 68 ∷ 69 ∷ []
  pub back_ranks : map (back_rank ababa) (65 ∷ 258 ∷ 66 ∷ 256 ∷ 257 ∷ []) ≡ 65 ∷ 66 ∷ 67 ∷ 68 ∷ 69 ∷ []
  pub overlapping : places (65 ∷ 66 ∷ 65 ∷ []) (tape ababa 258) ≡ 0 ∷ 2 ∷ []
  pub shared : length (places (65 ∷ 65 ∷ []) (tape aaaa 257)) ≡ 3
  pub equals : map (fore_rank twice) (256 ∷ 257 ∷ []) ≡ 66 ∷ 67 ∷ []
  pub equals_back : map (back_rank twice) (256 ∷ 257 ∷ []) ≡ 67 ∷ 68 ∷ []
