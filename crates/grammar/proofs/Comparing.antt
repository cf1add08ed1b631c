-- Laws of the comparison and of the orders.
use Rattle.std.proofs.Common.{◌≡◌, ℕ, Bool, true, false, not, eqb, ltb, List, [], ◌∷◌, sym, refl, ap, ◌∙◌, arith}
use Rattle.std.proofs.lemmas.Bool.{cond-true, cond-false, eq-eqb, ne_eqb}
use Rattle.std.proofs.lemmas.Bool.Decides.{nat_tests}
use Rattle.grammar.specs.Laws.{FirstDifferenceDecides, BeginningComesFirst, EqualsStandByNumber, OrdersAreTotal}
use Rattle.grammar.specs.Orders.{comes, ahead, fore_key, back_key, StrictTotal}

pub comes_self : (t : Bool) (xs : List ℕ) → comes t xs xs ≡ t
comes_self t [] = refl
comes_self t (x ∷ xs) = let ih = comes_self t xs in grind (arith, nat_tests)

pub comes_not : (t : Bool) (xs ys : List ℕ) → comes t xs ys ≡ not (comes (not t) ys xs)
comes_not true [] [] = refl
comes_not false [] [] = refl
comes_not t [] (y ∷ ys) = refl
comes_not t (x ∷ xs) [] = refl
comes_not t (x ∷ xs) (y ∷ ys) = let ih = comes_not t xs ys in grind (arith, nat_tests)

pub comes_trans : (t u v : Bool) → (t ≡ true → u ≡ true → v ≡ true) → (xs ys zs : List ℕ) → comes t xs ys ≡ true → comes u ys zs ≡ true → comes v xs zs ≡ true
comes_trans t u v f [] [] [] h k = f h k
comes_trans t u v f [] [] (z ∷ zs) h k = refl
comes_trans t u v f [] (y ∷ ys) [] h k = absurd (grind arith)
comes_trans t u v f [] (y ∷ ys) (z ∷ zs) h k = refl
comes_trans t u v f (x ∷ xs) [] zs h k = absurd (grind arith)
comes_trans t u v f (x ∷ xs) (y ∷ ys) [] h k = k
comes_trans t u v f (x ∷ xs) (y ∷ ys) (z ∷ zs) h k = let ih = comes_trans t u v f xs ys zs in grind (arith, nat_tests)

pub ahead_total : (key : ℕ → List ℕ) → StrictTotal (ahead key)
ahead_total key = record {
  strict = λ a. comes_self (ltb a a) (key a) ∙ grind (arith, nat_tests);
  total = λ a b n. let e : not (ltb a b) ≡ ltb b a = grind (arith, nat_tests) in comes_not (ltb a b) (key a) (key b) ∙ ap (λ t. not (comes t (key b) (key a))) e;
  transitive = λ a b c h k. comes_trans (ltb a b) (ltb b c) (ltb a c) (λ p q. grind (arith, nat_tests)) (key a) (key b) (key c) h k;
}

pub orders_are_total : OrdersAreTotal
orders_are_total pairs = (ahead_total (fore_key pairs), ahead_total (back_key pairs))

pub first_difference_decides : FirstDifferenceDecides
first_difference_decides t [] xs ys x y n = cond-false (eqb x y) (comes t xs ys) (ltb x y) (ne_eqb x y n)
first_difference_decides t (c ∷ common) xs ys x y n = cond-true (eqb c c) _ (ltb c c) (eq-eqb c c refl) ∙ first_difference_decides t common xs ys x y n

pub beginning_comes_first : BeginningComesFirst
beginning_comes_first t [] ys y = refl
beginning_comes_first t (c ∷ common) ys y = cond-true (eqb c c) _ (ltb c c) (eq-eqb c c refl) ∙ beginning_comes_first t common ys y

pub equals_stand_by_number : EqualsStandByNumber
equals_stand_by_number key a b e = ap (comes (ltb a b) (key a)) (sym e) ∙ comes_self (ltb a b) (key a)
