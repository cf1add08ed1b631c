-- The list of places rises, holds only places and leaves none out; it is the only such list.
use Rattle.std.proofs.Common.{◌≡◌, ℕ, zero, suc, ◌+◌, ◌<◌, ◌≤◌, Bool, true, false, cond, eqb, List, [], ◌∷◌, length, get_or, take, drop, filter, sym, refl, ap, ◌∙◌, subst, arith, length-drop}
use Rattle.std.specs.List.{range_with_len, AllByRecursion as All}
use Rattle.std.proofs.lemmas.List.FromFn.{length-range_with_len, get_or-range_with_len}
use Rattle.std.proofs.ByRecursion.{All-get_or, All-from_get_or, all_kept_by, All-weaker, kept_by_passes}
use Rattle.std.proofs.lemmas.Bool.{and_parts, and_from, eqb-true, eq-eqb}
use Rattle.grammar.specs.Laws.{PlacesAreAll, PlacesAreUnique}
use Rattle.grammar.specs.Places.{Stands, begins, places, AllPlaces}

-- each below all that follow it
Rising : List ℕ → Type 0
Rising [] = Unit {0}
Rising (x ∷ xs) = All (λ y. x < y) xs × Rising xs

rising_at : (xs : List ℕ) → Rising xs → (i j : ℕ) → i < j → j < length xs → get_or xs i 0 < get_or xs j 0
unfolding Rising
rising_at [] r i j h k = absurd (omega arith)
rising_at (x ∷ xs) r i zero h k = absurd (omega arith)
rising_at (x ∷ xs) r zero (suc j) h k = All-get_or (λ y. x < y) xs j 0 (omega arith) r.0
rising_at (x ∷ xs) r (suc i) (suc j) h k = rising_at xs r.1 i j (omega arith) (omega arith)

counting_from : (a b n : ℕ) → b ≤ a → All (λ x. b ≤ x) (range_with_len a n)
counting_from a b zero h = tt
counting_from a b (suc n) h = (h, counting_from (a + 1) b n (omega arith))

rising_counting : (a n : ℕ) → Rising (range_with_len a n)
unfolding Rising
rising_counting a zero = tt
rising_counting a (suc n) = (All-weaker (λ x. a + 1 ≤ x) (λ x. a < x) (λ x h. omega arith) (range_with_len (a + 1) n) (counting_from (a + 1) (a + 1) n (omega arith)), rising_counting (a + 1) n)

rising_kept : (f : ℕ → Bool) (xs : List ℕ) → Rising xs → Rising (filter f xs)
unfolding Rising
rising_kept f [] r = tt
rising_kept f (x ∷ xs) r = elim (f x) as (λ b. Rising (cond b (x ∷ filter f xs) (filter f xs))) [ true ↦ (all_kept_by f (λ y. x < y) xs r.0, rising_kept f xs r.1) | false ↦ rising_kept f xs r.1 ]

kept_has : (f : ℕ → Bool) (xs : List ℕ) (x i : ℕ) → f x ≡ true → i < length xs → get_or xs i 0 ≡ x → (k : ℕ) × (k < length (filter f xs)) × (get_or (filter f xs) k 0 ≡ x)
kept_has f [] x i e h q = absurd (omega arith)
kept_has f (y ∷ xs) x zero e h q = let b : f y ≡ true = ap f q ∙ e in let c : filter f (y ∷ xs) ≡ y ∷ filter f xs = cc in (0, subst (λ l. 0 < length l) (sym c) (omega arith), ap (λ l. get_or l 0 0) c ∙ q)
kept_has f (y ∷ xs) x (suc i) e h q =
    let r = kept_has f xs x i e (omega arith) q in
    elim (f y) as (λ b. (k : ℕ) × (k < length (cond b (y ∷ filter f xs) (filter f xs))) × (get_or (cond b (y ∷ filter f xs) (filter f xs)) k 0 ≡ x)) [ true ↦ (suc r.0, omega (arith, r.1), r.2) | false ↦ r ]

-- a list begins with a pattern just if the pattern is its front
begins_front : (p xs : List ℕ) → begins p xs ≡ true → (length p ≤ length xs) × (take (length p) xs ≡ p)
begins_front [] xs b = (omega arith, refl)
begins_front (y ∷ p) [] b = absurd (grind arith)
begins_front (y ∷ p) (x ∷ xs) b =
    let a = and_parts (eqb x y) (begins p xs) b in
    let e = eqb-true x y a.0 in
    let ih = begins_front p xs a.1 in
    (omega (arith, ih.0), (let t = ih.1 in cc))

front_begins : (p xs : List ℕ) → length p ≤ length xs → take (length p) xs ≡ p → begins p xs ≡ true
front_begins [] xs h e = refl
front_begins (y ∷ p) [] h e = absurd (omega arith)
front_begins (y ∷ p) (x ∷ xs) h e =
    let head : x ≡ y = cc in
    let tail : take (length p) xs ≡ p = cc in
    and_from (eqb x y) (begins p xs) (eq-eqb x y head) (front_begins p xs (omega arith) tail)

module _ (p t : List ℕ) (some : 1 ≤ length p) where
  begins_stands : (i : ℕ) → begins p (drop i t) ≡ true → Stands p t i
  begins_stands i b = let f = begins_front p (drop i t) b in (omega (arith, f.0, length-drop i t), f.1)

  stands_begins : (i : ℕ) → Stands p t i → begins p (drop i t) ≡ true
  stands_begins i s = front_begins p (drop i t) (omega (arith, s.0, length-drop i t)) s.1

  all_places : AllPlaces p t (places p t)
  unfolding places
  all_places = record {
    rising = rising_at (places p t) (rising_kept (λ n. begins p (drop n t)) (range_with_len 0 (length t)) (rising_counting 0 (length t)));
    sound = λ k h. begins_stands (get_or (places p t) k 0) (All-get_or (λ n. begins p (drop n t) ≡ true) (places p t) k 0 h (kept_by_passes (λ n. begins p (drop n t)) (range_with_len 0 (length t))));
    complete = λ i s.
        let within : i < length t = omega (arith, s.0) in
        kept_has (λ n. begins p (drop n t)) (range_with_len 0 (length t)) i i (stands_begins i s) (omega (arith, length-range_with_len 0 (length t))) (get_or-range_with_len 0 (length t) i 0 within ∙ omega arith);
  }

pub places_are_all : PlacesAreAll
places_are_all p t some = all_places p t some

-- two rising lists that hold the same numbers are one
Holds : List ℕ → ℕ → Type 0
Holds xs x = (k : ℕ) × (k < length xs) × (get_or xs k 0 ≡ x)

rising_from : (xs : List ℕ) → ((i j : ℕ) → i < j → j < length xs → get_or xs i 0 < get_or xs j 0) → Rising xs
unfolding Rising
rising_from [] r = tt
rising_from (x ∷ xs) r = (All-from_get_or (λ y. x < y) xs 0 (λ i h. r 0 (suc i) (omega arith) (omega arith)), rising_from xs (λ i j h k. r (suc i) (suc j) (omega arith) (omega arith)))

least : (x y : ℕ) (xs : List ℕ) → Rising (x ∷ xs) → Holds (x ∷ xs) y → x ≤ y
unfolding Rising Holds
least x y xs r (zero, h, e) = omega arith
least x y xs r (suc k, h, e) = omega (arith, All-get_or (λ z. x < z) xs k 0 (omega arith) r.0)

-- what a rising list holds beyond its first number, another list with that first number holds beyond it too
beyond : (x z : ℕ) (xs ys : List ℕ) → Rising (x ∷ xs) → Holds xs z → Holds (x ∷ ys) z → Holds ys z
unfolding Rising Holds
beyond x z xs ys r (i, h, e) (suc k, l, f) = (k, omega arith, f)
beyond x z xs ys r (i, h, e) (zero, l, f) = absurd (omega (arith, All-get_or (λ y. x < y) xs i 0 h r.0))

later : (x z : ℕ) (xs : List ℕ) → Holds xs z → Holds (x ∷ xs) z
unfolding Holds
later x z xs (k, h, e) = (suc k, omega arith, e)

same_rising : (xs ys : List ℕ) → Rising xs → Rising ys → ((x : ℕ) → Holds xs x → Holds ys x) → ((y : ℕ) → Holds ys y → Holds xs y) → xs ≡ ys
unfolding Rising Holds
same_rising [] [] r s f g = refl
same_rising [] (y ∷ ys) r s f g = let h = g y (0, omega arith, refl) in absurd (omega (arith, h.1))
same_rising (x ∷ xs) [] r s f g = let h = f x (0, omega arith, refl) in absurd (omega (arith, h.1))
same_rising (x ∷ xs) (y ∷ ys) r s f g =
    let low = least y x ys s (f x (0, omega arith, refl)) in
    let high = least x y xs r (g y (0, omega arith, refl)) in
    let e : x ≡ y = omega arith in
    let s' = subst (λ z. Rising (z ∷ ys)) (sym e) s in
    let to = λ (z : ℕ) (h : Holds xs z). beyond x z xs ys r h (subst (λ w. Holds (w ∷ ys) z) (sym e) (f z (later x z xs h))) in
    let from = λ (z : ℕ) (h : Holds ys z). beyond x z ys xs s' h (g z (later y z ys h)) in
    let t = same_rising xs ys r.1 s.1 to from in cc

pub places_are_unique : PlacesAreUnique
unfolding Holds
places_are_unique p t found some a =
    let b = places_are_all p t some in
    same_rising found (places p t) (rising_from found a.rising) (rising_from (places p t) b.rising)
    (λ x h. b.complete x (subst (Stands p t) h.2 (a.sound h.0 h.1)))
    (λ x h. a.complete x (subst (Stands p t) h.2 (b.sound h.0 h.1)))
