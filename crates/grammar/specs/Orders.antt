-- The two orders of the strands, and a strand's rank in each.
use Rattle.std.specs.Prelude.{◌≡◌, ℕ, zero, suc, Bool, true, false, cond, not, List, [], ◌∷◌, reverse, ◌==◌, ◌≢◌, nat_lt}
use Rattle.grammar.specs.Tapes.{tape, strands}

-- one list stands before another: the first difference decides, bytes being numbers, and a proper beginning comes first; `tie` is the answer where the lists are equal
abbrev pub comes : Bool → List ℕ → List ℕ → Bool
comes tie [] [] = tie
comes tie [] (y ∷ ys) = true
comes tie (x ∷ xs) [] = false
comes tie (x ∷ xs) (y ∷ ys) = cond (x == y) (comes tie xs ys) (nat_lt x y)

-- strand a stands before strand b by what `key` gives them; equals stand by number, lower first
abbrev pub ahead : (ℕ → List ℕ) → ℕ → ℕ → Bool
ahead key a b = comes (nat_lt a b) (key a) (key b)

-- the fore order compares tapes, the back order tapes reversed
abbrev pub fore_key : List (ℕ × ℕ) → ℕ → List ℕ
fore_key pairs strand = tape pairs strand

abbrev pub back_key : List (ℕ × ℕ) → ℕ → List ℕ
back_key pairs strand = reverse (tape pairs strand)

-- how many numbers below n pass
abbrev pub tally : (ℕ → Bool) → ℕ → ℕ
tally test zero = 0
tally test (suc n) = cond (test n) (suc (tally test n)) (tally test n)

-- how many of the strands below n stand before the strand
abbrev pub rank : (ℕ → ℕ → Bool) → ℕ → ℕ → ℕ
rank before n strand = tally (λ a. before a strand) n

abbrev pub fore_rank : List (ℕ × ℕ) → ℕ → ℕ
fore_rank pairs strand = rank (ahead (fore_key pairs)) (strands pairs) strand

abbrev pub back_rank : List (ℕ × ℕ) → ℕ → ℕ
back_rank pairs strand = rank (ahead (back_key pairs)) (strands pairs) strand

-- none stands before itself, of two one stands before the other and not the reverse, and what stands before carries on
pub record StrictTotal (before : ℕ → ℕ → Bool) : Type 0 where
  pub strict : (a : ℕ) → before a a ≡ false
  pub total : (a b : ℕ) → (a ≢ b) → before a b ≡ not (before b a)
  pub transitive : (a b c : ℕ) → before a b ≡ true → before b c ≡ true → before a c ≡ true
