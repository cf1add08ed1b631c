-- The least number that passes a test.
use Rattle.std.proofs.Common.{◌≡◌, ℕ, ◌<◌, min, Bool, true, false, cond, ◌&&◌, eqb, leb, is_some, Some, None, Option, sym, refl, ap, ◌∙◌, subst, ⊎_elim, arith}
use mathlib.Core.Path.{fun_ext}
use Rattle.std.proofs.lemmas.Bool.Decides.{nat_tests, leb_tells, eqb_tells}
use Rattle.std.proofs.lemmas.Bool.{and_right, cases_order, cond-true, cond-false}
use Rattle.grammar.specs.declared.strands.Strand.{Strand}
use Rattle.board.specs.declared.rectangles.Rectangle.{Rectangle}
use Rattle.board.specs.Meaning.{hits, inside, stands_inside}
use Rattle.board.specs.Answering.{LeastOf, lowest}

min_either : (H : ℕ → Bool) (x y : ℕ) → H x ≡ true → H y ≡ true → H (min x y) ≡ true
min_either H x y p q = ⊎_elim (λ e. let is : min x y ≡ x = omega (arith, e) in ap H is ∙ p) (λ e. let is : min x y ≡ y = omega (arith, e) in ap H is ∙ q) (leb_tells x y)

never : (x : Bool) → x ≡ true → x ≡ false → ⊥
never x t f = cc

-- one number more to look at
pub least_more : (H H' : ℕ → Bool) (label : Strand) (q : Bool) (o : Option Strand) → ((k : ℕ) → H' k ≡ cond (eqb label.0 k) q (H k)) → H label.0 ≡ false → LeastOf H o → LeastOf H' (cond q (lowest o label) o)
least_more H H' label false None e f least = λ k. let a = e k in let b = least k in grind (arith, nat_tests, a, b)
least_more H H' label true None e f least =
    let lab : ℕ = label.0 in
    let a : H' lab ≡ cond (eqb lab lab) true (H lab) = e lab in
    (grind (arith, nat_tests, a), λ k h. let x : H' k ≡ cond (eqb lab k) true (H k) = e k in let b : H k ≡ false = least k in grind (arith, nat_tests, x, b))
least_more H H' label false (Some l) e f least =
    let lab : ℕ = label.0 in
    let a : H' l.0 ≡ cond (eqb lab l.0) false (H l.0) = e l.0 in
    let apart : lab ≡ l.0 → ⊥ = λ same. never (H l.0) least.0 (ap H (sym same) ∙ f) in
    (a ∙ grind (arith, nat_tests, least.0, apart), λ k h. let x : H' k ≡ cond (eqb lab k) false (H k) = e k in let b : H k ≡ false = least.1 k h in grind (arith, nat_tests, x, b))
least_more H H' label true (Some l) e f least =
    let lab : ℕ = label.0 in
    let a : H' l.0 ≡ cond (eqb lab l.0) true (H l.0) = e l.0 in
    let b : H' lab ≡ cond (eqb lab lab) true (H lab) = e lab in
    let at_l : H' l.0 ≡ true = grind (arith, nat_tests, a, least.0) in
    let at_lab : H' lab ≡ true = grind (arith, nat_tests, b) in
    (min_either H' l.0 lab at_l at_lab, λ k h. let x : H' k ≡ cond (eqb lab k) true (H k) = e k in let y : H k ≡ false = least.1 k (omega (arith, h)) in let ne : k < lab = omega (arith, h) in grind (arith, nat_tests, x, y, ne))

pub same_least : (H H' : ℕ → Bool) (o : Option Strand) → ((k : ℕ) → H' k ≡ H k) → LeastOf H o → LeastOf H' o
same_least H H' o e h = let Q : (ℕ → Bool) → Type 0 = λ F. LeastOf F o in subst Q (sym (fun_ext e)) h

hits_more : (within : Rectangle) (floor : ℕ) (at at' : ℕ → Option (ℕ × ℕ)) (place : ℕ × ℕ) (label : ℕ) → ((k : ℕ) → at' k ≡ cond (eqb label k) (Some place) (at k)) → (k : ℕ) → hits within floor at' k ≡ cond (eqb label k) (leb floor label && inside within place) (hits within floor at k)
hits_more within floor at at' place label e k =
    let hit : Bool = leb floor label && inside within place in
    ap (λ (o : Option (ℕ × ℕ)). leb floor k && stands_inside within o) (e k) ∙ ⊎_elim
    (λ y. ap (λ (q : Bool). leb floor k && stands_inside within (cond q (Some place) (at k))) y.0 ∙ (ap (λ (j : ℕ). leb floor j && inside within place) (sym y.1) ∙ sym (cond-true (eqb label k) hit (hits within floor at k) y.0)))
    (λ y. ap (λ (q : Bool). leb floor k && stands_inside within (cond q (Some place) (at k))) y.0 ∙ sym (cond-false (eqb label k) hit (hits within floor at k) y.0))
    (eqb_tells label k)

misses : (within : Rectangle) (floor label : ℕ) (o : Option (ℕ × ℕ)) → is_some o ≡ false → (leb floor label && stands_inside within o) ≡ false
misses within floor label None free = and_right (leb floor label) false refl
misses within floor label (Some place) free = absurd (cc)

-- the smallest label inside, after one point more
pub first_more : (within : Rectangle) (floor : ℕ) (at at' : ℕ → Option (ℕ × ℕ)) (place : ℕ × ℕ) (label : Strand) (o : Option Strand) → ((k : ℕ) → at' k ≡ cond (eqb label.0 k) (Some place) (at k)) → is_some (at label.0) ≡ false → LeastOf (hits within floor at) o → LeastOf (hits within floor at') (cond (leb floor label.0 && inside within place) (lowest o label) o)
first_more within floor at at' place label o e free h =
    least_more (hits within floor at) (hits within floor at') label (leb floor label.0 && inside within place) o (hits_more within floor at at' place label.0 e) (misses within floor label.0 (at label.0) free) h

pub least_unique : (H : ℕ → Bool) (o o' : Option Strand) → LeastOf H o → LeastOf H o' → o ≡ o'
least_unique H None None a b = refl
least_unique H None (Some y) a b = absurd (never (H y.0) b.0 (a y.0))
least_unique H (Some x) None a b = absurd (never (H x.0) a.0 (b x.0))
least_unique H (Some x) (Some y) a b =
    let same : x.0 ≡ y.0 = ⊎_elim (λ e. e) (⊎_elim (λ lt. absurd (never (H x.0) a.0 (b.1 x.0 lt))) (λ gt. absurd (never (H y.0) b.0 (a.1 y.0 gt)))) (cases_order x.0 y.0) in
    let strands : ◌≡◌ {A = Strand} x y = ap (λ (k : ℕ). record { 0 = k }) same in
    ap Some strands
