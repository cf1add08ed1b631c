-- The newest slot of a chain, and tables that are given by equations.
use Rattle.std.proofs.Common.{◌≡◌, ℕ, zero, suc, ◌+◌, ◌<◌, ◌≤◌, Bool, cond, eqb, List, map, length, get_or, set, Some, None, Option, Vec, sym, refl, ap, ◌∙◌, subst, ⊎_elim, not-suc-le-zero, add-one, arith}
use Rattle.std.proofs.lemmas.Bool.Decides.{nat_tests, eqb_tells}
use Rattle.std.proofs.lemmas.Grind.{get_or-set_at}
use Rattle.std.proofs.lemmas.Bool.{cond-true, cond-false}
use Rattle.std.proofs.lemmas.List.{get_or-set_other, length-map, with_items_is}
use Rattle.std.specs.Vec.{with_items}
use Rattle.std.specs.List.{AllZip}
use Rattle.grammar.specs.declared.strands.BackRank.{BackRank}
use Rattle.board.specs.Meaning.{Meaning}
use Rattle.board.proofs.Parts.{changed_by}
use Rattle.chained_board.specs.Chains.{Tables, Sound, meaning_of, slot_at, newest}
use Rattle.chained_board.specs.declared.chained_boards.Slot.{Slot}

-- a slot and those older than it are the slots below this number
abbrev pub bound : Option ℕ → ℕ
bound None = 0
bound (Some s) = s + 1

pub set_reads : {X : Type 0} (xs : List X) (i j : ℕ) (v d : X) → i < length xs → get_or (set xs i v) j d ≡ cond (eqb i j) v (get_or xs j d)
set_reads xs i j v d h = grind (arith, nat_tests, get_or-set_at xs i j v d, get_or-set_other xs i j v d)

pub newest_more : (slots : List Slot) (c n : ℕ) → newest slots c (n + 1) ≡ cond (eqb (slot_at slots n).chain c) (Some n) (newest slots c n)
newest_more slots c n = ap (newest slots c) (add-one n)

pub newest_same : (xs ys : List Slot) (c n : ℕ) → ((k : ℕ) → k < n → (slot_at xs k).chain ≡ (slot_at ys k).chain) → newest xs c n ≡ newest ys c n
newest_same xs ys c zero h = refl
newest_same xs ys c (suc n) h =
    let e : (slot_at xs n).chain ≡ (slot_at ys n).chain = h n (omega arith) in
    let rest : newest xs c n ≡ newest ys c n = newest_same xs ys c n (λ k lt. h k (omega arith)) in
    cc

pub newest_none : (slots : List Slot) (c n : ℕ) → ((k : ℕ) → k < n → (slot_at slots k).chain ≡ c → ⊥) → newest slots c n ≡ None
newest_none slots c zero h = refl
newest_none slots c (suc n) h =
    let apart = h n (omega arith) in
    let rest : newest slots c n ≡ None = newest_none slots c n (λ k lt. h k (omega arith)) in
    grind (arith, nat_tests, apart, rest)

-- no slot of the chain lies between the newest and the end
pub newest_gap : (slots : List Slot) (c n t : ℕ) → bound (newest slots c n) ≤ t → t < n → (slot_at slots t).chain ≡ c → ⊥
newest_gap slots c zero t h lt e = not-suc-le-zero lt
newest_gap slots c (suc n) t h lt e = ⊎_elim
    (λ y. let b : bound (newest slots c (suc n)) ≡ n + 1 = ap (λ (q : Bool). bound (cond q (Some n) (newest slots c n))) y.0 in omega arith)
    (λ y. let b : bound (newest slots c (suc n)) ≡ bound (newest slots c n) = ap (λ (q : Bool). bound (cond q (Some n) (newest slots c n))) y.0 in
    let ne : t ≡ n → ⊥ = λ same. y.1 (ap (λ (k : ℕ). (slot_at slots k).chain) (sym same) ∙ e) in
    newest_gap slots c n t (omega arith) (omega arith) e)
    (eqb_tells (slot_at slots n).chain c)

pub newest_on : (slots : List Slot) (c n s : ℕ) → newest slots c n ≡ Some s → (s < n) × ((slot_at slots s).chain ≡ c)
newest_on slots c zero s e = absurd (cc)
newest_on slots c (suc n) s e = ⊎_elim
    (λ y. let same : n ≡ s = let q : Some n ≡ Some s = sym (cond-true (eqb (slot_at slots n).chain c) (Some n) (newest slots c n) y.0) ∙ e in cc in
    (omega arith, ap (λ (k : ℕ). (slot_at slots k).chain) (sym same) ∙ y.1))
    (λ y. let r : (s < n) × ((slot_at slots s).chain ≡ c) = newest_on slots c n s (sym (cond-false (eqb (slot_at slots n).chain c) (Some n) (newest slots c n) y.0) ∙ e) in
    (omega (arith, r.0), r.1))
    (eqb_tells (slot_at slots n).chain c)

pub tables_from : {slots slots' : List Slot} {order order' : List ℕ} {rows rows' : List BackRank} {heads heads' labels labels' : List (Option ℕ)} → slots ≡ slots' → order ≡ order' → rows ≡ rows' → heads ≡ heads' → labels ≡ labels' → ◌≡◌ {A = Tables} (record { slots = slots; order = order; rows = rows; heads = heads; labels = labels }) (record { slots = slots'; order = order'; rows = rows'; heads = heads'; labels = labels' })
tables_from a b c d e = cc

-- tables that equal others are sound and mean what those do
pub same_tables : {t t' : Tables} {columns : ℕ} {m : Meaning} → t ≡ t' → Sound t' columns × (meaning_of t' columns ≡ m) → Sound t columns × (meaning_of t columns ≡ m)
same_tables {columns = columns} {m = m} e w = let P : Tables → Type 0 = λ x. Sound x columns × (meaning_of x columns ≡ m) in subst P (sym e) w

-- a Vec whose elements a call changed through a loan
pub changed_items : {X Z : Type 0} {R : X → X → Type 0} {xs : List X} (v : Vec X Z) (f : X → X) (ws : List X) → ((x y : X) → R x y → y ≡ f x) → AllZip R xs ws → xs ≡ v.items → (with_items v ws).items ≡ map f v.items
changed_items {R = R} {xs = xs} v f ws each all is =
    let ws_are : ws ≡ map f v.items = changed_by R f xs ws each all ∙ ap (map f) is in
    with_items_is v ws (ap length ws_are ∙ (length-map v.items f ∙ sym v.ok.0)) ∙ ws_are
