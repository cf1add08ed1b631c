-- A walk of the chains meets each point of its rows once.
use Rattle.std.proofs.Common.{◌≡◌, ℕ, ◌+◌, ◌-◌, ◌<◌, ◌≤◌, min, Bool, false, cond, ◌&&◌, ◌||◌, eqb, ltb, leb, List, length, get_or, take, drop, Some, None, Option, sym, refl, ap, ◌∙◌, subst, ⊎_elim, arith, length-drop}
use Rattle.std.proofs.lemmas.Bool.Decides.{nat_tests, eqb_tells}
use Rattle.std.proofs.lemmas.Bool.{cond-true, eq-eqb}
use Rattle.std.proofs.lemmas.List.{length-take, get_or-take, get_or-drop, get_or_read}
use Rattle.grammar.specs.declared.strands.BackRank.{BackRank}
use Rattle.grammar.specs.declared.strands.Strand.{Strand}
use Rattle.board.specs.declared.rectangles.Rectangle.{Rectangle}
use Rattle.board.specs.Meaning.{hits, stands_inside, inside}
use Rattle.board.specs.Answering.{LeastOf, lowest}
use Rattle.board.proofs.Least.{least_more, same_least}
use Rattle.chained_board.specs.Chains.{Tables, blank, slot_at, row_of, newest, place_of, at_of, Sound}
use Rattle.chained_board.specs.declared.chained_boards.Slot.{Slot}
use Rattle.chained_board.proofs.Steps.{head_low}
use Rattle.chained_board.proofs.Tables.{bound, newest_more, newest_gap, newest_on}

-- whether a walk of the rows below r, and of row r down to slot m, has passed a slot
abbrev passed : Tables → ℕ → ℕ → Option ℕ → Bool
passed t r m None = false
passed t r m (Some s) = ltb (row_of t.rows (slot_at t.slots s).chain) r || (eqb (row_of t.rows (slot_at t.slots s).chain) r && leb m s)

-- whether such a walk has met a label that is asked for
abbrev pub reached : Rectangle → ℕ → Tables → ℕ → ℕ → ℕ → Bool
reached within floor t r m k = hits within floor (at_of t) k && passed t r m (get_or t.labels k None)

-- a walk of row r that comes to `next`, with the least label so far
pub record Walk (within : Rectangle) (floor : ℕ) (t : Tables) (r : ℕ) (next : Option ℕ) (best : Option Strand) : Type 0 where
  pub fits : bound next ≤ length t.slots
  pub on : newest t.slots (get_or t.order r 0) (bound next) ≡ next
  pub least : LeastOf (reached within floor t r (bound next)) best

bound_of : (slots : List Slot) (c n : ℕ) (o : Option ℕ) → newest slots c n ≡ o → (bound o ≤ n) × (newest slots c (bound o) ≡ o)
bound_of slots c n None e = (omega arith, refl)
bound_of slots c n (Some s) e =
    let on : (s < n) × ((slot_at slots s).chain ≡ c) = newest_on slots c n s e in
    (omega (arith, on.0), newest_more slots c s ∙ cond-true (eqb (slot_at slots s).chain c) (Some s) (newest slots c s) (eq-eqb (slot_at slots s).chain c on.1))

newest_below : (slots : List Slot) (c n : ℕ) → bound (newest slots c n) ≤ n
newest_below slots c n = (bound_of slots c n (newest slots c n) refl).0

newest_again : (slots : List Slot) (c n : ℕ) → newest slots c (bound (newest slots c n)) ≡ newest slots c n
newest_again slots c n = (bound_of slots c n (newest slots c n) refl).1

-- the slots of row r are those of its chain
on_chain : (columns r s : ℕ) (t : Tables) → Sound t columns → (slot_at t.slots s).chain < length t.order → row_of t.rows (slot_at t.slots s).chain ≡ r → (slot_at t.slots s).chain ≡ get_or t.order r 0
on_chain columns r s t w low e = sym (w.paired.forth (slot_at t.slots s).chain low) ∙ ap (λ (k : ℕ). get_or t.order k 0) e

skip_at : (columns r m : ℕ) (t : Tables) (o : Option ℕ) → Sound t columns → ((s : ℕ) → o ≡ Some s → s < length t.slots) → passed t r (bound (newest t.slots (get_or t.order r 0) m)) o ≡ passed t r m o
skip_at columns r m t None w h = refl
skip_at columns r m t (Some s) w h =
    let c : ℕ = get_or t.order r 0 in
    let row : ℕ = row_of t.rows (slot_at t.slots s).chain in
    let x : ℕ = bound (newest t.slots c m) in
    let le : x ≤ m = newest_below t.slots c m in
    let gap : row ≡ r → x ≤ s → s < m → ⊥ = λ e a b. newest_gap t.slots c m s a b (on_chain columns r s t w (w.filed.chain_of s (h s refl)) e) in
    grind (arith, nat_tests, gap)

-- on to the newest slot of the chain: none is left out
first_skip : (within : Rectangle) (floor columns r m : ℕ) (t : Tables) (o : Option Strand) → Sound t columns → LeastOf (reached within floor t r m) o → LeastOf (reached within floor t r (bound (newest t.slots (get_or t.order r 0) m))) o
first_skip within floor columns r m t o w h =
    same_least (reached within floor t r m) (reached within floor t r (bound (newest t.slots (get_or t.order r 0) m))) o
    (λ k. ap (λ (q : Bool). hits within floor (at_of t) k && q) (skip_at columns r m t (get_or t.labels k None) w (λ s is. (w.filed.named k s is).0))) h

row_at : (m r : ℕ) (t : Tables) (o : Option ℕ) → ((s : ℕ) → o ≡ Some s → s < m) → passed t (r + 1) m o ≡ passed t r 0 o
row_at m r t None h = refl
row_at m r t (Some s) h = let lt : s < m = h s refl in let row : ℕ = row_of t.rows (slot_at t.slots s).chain in grind (arith, nat_tests)

-- on to the next row
first_row : (within : Rectangle) (floor columns r : ℕ) (t : Tables) (o : Option Strand) → Sound t columns → LeastOf (reached within floor t r 0) o → LeastOf (reached within floor t (r + 1) (length t.slots)) o
first_row within floor columns r t o w h =
    same_least (reached within floor t r 0) (reached within floor t (r + 1) (length t.slots)) o
    (λ k. ap (λ (q : Bool). hits within floor (at_of t) k && q) (row_at (length t.slots) r t (get_or t.labels k None) (λ s is. (w.filed.named k s is).0))) h

other_at : (r s : ℕ) (t : Tables) (o : Option ℕ) → (o ≡ Some s → ⊥) → passed t r s o ≡ passed t r (s + 1) o
other_at r s t None h = refl
other_at r s t (Some u) h = let ne : u ≡ s → ⊥ = λ e. h (ap Some e) in grind (arith, nat_tests, ne)

step_at : (within : Rectangle) (floor columns r s k : ℕ) (t : Tables) → Sound t columns → s < length t.slots → row_of t.rows (slot_at t.slots s).chain ≡ r →
    reached within floor t r s k ≡ cond (eqb (slot_at t.slots s).label.0 k) (leb floor (slot_at t.slots s).label.0 && inside within (r, (slot_at t.slots s).column.0)) (reached within floor t r (s + 1) k)
step_at within floor columns r s k t w low row =
    let p : Slot = slot_at t.slots s in
    let lab : ℕ = p.label.0 in
    let at_row : ℕ = row_of t.rows p.chain in
    ⊎_elim
    (λ e.
    let here : get_or t.labels lab None ≡ Some s = w.filed.found s low in
    let a : reached within floor t r s lab ≡ ((leb floor lab && inside within (at_row, p.column.0)) && passed t r s (Some s)) = ap (λ (o : Option ℕ). (leb floor lab && stands_inside within (place_of t.slots t.rows o)) && passed t r s o) here in
    ap (reached within floor t r s) (sym e.1) ∙ (a ∙ grind (arith, nat_tests, row, e.1)))
    (λ e. let other = other_at r s t (get_or t.labels k None) (λ is. e.1 (w.filed.named k s is).1) in grind (arith, nat_tests, other, e.0))
    (eqb_tells lab k)

-- one slot more
first_step : (within : Rectangle) (floor columns r s : ℕ) (t : Tables) (best best' : Option Strand) (hit : Bool) → Sound t columns → r < length t.order → s < length t.slots → (slot_at t.slots s).chain ≡ get_or t.order r 0 → hit ≡ (leb floor (slot_at t.slots s).label.0 && inside within (r, (slot_at t.slots s).column.0)) → best' ≡ cond hit (lowest best (slot_at t.slots s).label) best →
    LeastOf (reached within floor t r (s + 1)) best → LeastOf (reached within floor t r s) best'
first_step within floor columns r s t best best' hit w rh low ch eh eb least =
    let p : Slot = slot_at t.slots s in
    let lab : ℕ = p.label.0 in
    let q : Bool = leb floor lab && inside within (r, p.column.0) in
    let row : row_of t.rows p.chain ≡ r = ap (λ (k : ℕ). row_of t.rows k) ch ∙ w.paired.back r rh in
    let gone : reached within floor t r (s + 1) lab ≡ false =
    ap (λ (o : Option ℕ). (leb floor lab && stands_inside within (place_of t.slots t.rows o)) && passed t r (s + 1) o) (w.filed.found s low) ∙ (let off : passed t r (s + 1) (Some s) ≡ false = grind (arith, nat_tests, row) in grind (arith, nat_tests, off)) in
    let more : LeastOf (reached within floor t r s) (cond q (lowest best p.label) best) = least_more (reached within floor t r (s + 1)) (reached within floor t r s) p.label q best (λ k. step_at within floor columns r s k t w low row) gone least in
    let Q : Option Strand → Type 0 = LeastOf (reached within floor t r s) in
    subst Q (ap (λ (b : Bool). cond b (lowest best p.label) best) (sym eh) ∙ sym eb) more

pub walk_from : {within : Rectangle} {floor columns r m : ℕ} {t : Tables} {next : Option ℕ} {best : Option Strand} → Sound t columns → m ≤ length t.slots → next ≡ newest t.slots (get_or t.order r 0) m → LeastOf (reached within floor t r m) best → Walk within floor t r next best
walk_from {within = within} {floor = floor} {columns = columns} {r = r} {m = m} {t = t} {next = next} {best = best} w le is least =
    let P : Option ℕ → Type 0 = λ o. Walk within floor t r o best in
    subst P (sym is) (record { fits = omega (arith, newest_below t.slots (get_or t.order r 0) m); on = newest_again t.slots (get_or t.order r 0) m; least = first_skip within floor columns r m t best w least })

-- the i-th of some rows is a row, and its chain is known
pub row_asked : {i : ℕ} {asked order : List ℕ} (top bottom : ℕ) → asked ≡ order → i < length (take (bottom - top) (drop top asked)) → (top + i < length order) × (get_or (take (bottom - top) (drop top asked)) i 0 ≡ get_or order (top + i) 0)
row_asked {i = i} {asked = asked} top bottom all h =
    let front : i < bottom - top = omega (arith, length-take (bottom - top) (drop top asked)) in (
      omega (arith, length-take (bottom - top) (drop top asked), length-drop top asked, ap length all),
      get_or-take (bottom - top) (drop top asked) i 0 front ∙ (get_or-drop top asked i 0 ∙ ap (λ (xs : List ℕ). get_or xs (top + i) 0) all),
    )

-- what is read of the row of a chain is where the chain stands
pub row_read : {columns r chain : ℕ} {t : Tables} {row : BackRank} → Sound t columns → r < length t.order → chain ≡ get_or t.order r 0 → row ≡ get_or t.rows chain row → row.0 ≡ r
row_read {r = r} {chain = chain} {t = t} {row = row} w rh is read =
    let low : chain < length t.rows = omega (arith, is, w.paired.chain_low r rh, w.paired.rows_long) in
    ap (λ (k : BackRank). k.0) (get_or_read t.rows chain row low read (record { 0 = 0 })) ∙ (ap (λ (k : ℕ). row_of t.rows k) is ∙ w.paired.back r rh)

-- a walk begins with the newest slot of the row's chain
pub walk_row : {within : Rectangle} {floor columns r chain : ℕ} {t : Tables} {next : Option ℕ} {best : Option Strand} → Sound t columns → r < length t.order → chain ≡ get_or t.order r 0 → next ≡ get_or t.heads chain next → LeastOf (reached within floor t r (length t.slots)) best → Walk within floor t r next best
walk_row {columns = columns} {r = r} {chain = chain} {t = t} {next = next} w rh is read least =
    let low : chain < length t.order = omega (arith, is, w.paired.chain_low r rh) in
    let head : next ≡ newest t.slots chain (length t.slots) = get_or_read t.heads chain next (head_low t columns r chain w rh is) read None ∙ w.linked.head chain low in
    walk_from w (omega arith) (head ∙ ap (λ (k : ℕ). newest t.slots k (length t.slots)) is) least

-- what is known of a walk at a slot
pub walk_at : {within : Rectangle} {floor r s : ℕ} {t : Tables} {next : Option ℕ} {best : Option Strand} → next ≡ Some s → Walk within floor t r next best → (s < length t.slots) × ((slot_at t.slots s).chain ≡ get_or t.order r 0) × LeastOf (reached within floor t r (s + 1)) best
walk_at {within = within} {floor = floor} {r = r} {s = s} {t = t} {next = next} {best = best} is h =
    let P : Option ℕ → Type 0 = λ o. Walk within floor t r o best in
    let g : Walk within floor t r (Some s) best = subst P is h in
    (omega (arith, g.fits), (newest_on t.slots (get_or t.order r 0) (s + 1) s g.on).1, g.least)

pub walk_step : {within : Rectangle} {floor columns r s : ℕ} {t : Tables} {row : BackRank} {p : Slot} {next : Option ℕ} {best best' : Option Strand} {hit : Bool} → Sound t columns → r < length t.order → row.0 ≡ r → next ≡ Some s → p ≡ get_or t.slots s p → hit ≡ (leb floor p.label.0 && inside within (row.0, p.column.0)) → best' ≡ cond hit (lowest best p.label) best →
    Walk within floor t r next best → Walk within floor t r p.next best'
walk_step {within = within} {floor = floor} {columns = columns} {r = r} {s = s} {t = t} {row = row} {p = p} {next = next} {best = best} {best' = best'} {hit = hit} w rh here is read eh eb h =
    let at : (s < length t.slots) × ((slot_at t.slots s).chain ≡ get_or t.order r 0) × LeastOf (reached within floor t r (s + 1)) best = walk_at is h in
    let ps : p ≡ slot_at t.slots s = get_or_read t.slots s p at.0 read blank in
    let after : p.next ≡ newest t.slots (get_or t.order r 0) s = ap (λ (q : Slot). q.next) ps ∙ (w.linked.link s at.0 ∙ ap (λ (c : ℕ). newest t.slots c s) at.1) in
    let asked : hit ≡ (leb floor p.label.0 && inside within (r, p.column.0)) = eh ∙ ap (λ (k : ℕ). leb floor p.label.0 && inside within (k, p.column.0)) here in
    let least : LeastOf (reached within floor t r s) best' = first_step within floor columns r s t best best' hit w rh at.0 at.1 (asked ∙ ap (λ (q : Slot). leb floor q.label.0 && inside within (r, q.column.0)) ps) (eb ∙ ap (λ (q : Slot). cond hit (lowest best q.label) best) ps) at.2 in
    walk_from w (omega (arith, at.0)) after least

pub walk_less : {within : Rectangle} {floor columns r s : ℕ} {t : Tables} {p : Slot} {next : Option ℕ} {best : Option Strand} → Sound t columns → next ≡ Some s → p ≡ get_or t.slots s p → Walk within floor t r next best → bound p.next < bound next
walk_less {within = within} {floor = floor} {columns = columns} {r = r} {s = s} {t = t} {p = p} {next = next} {best = best} w is read h =
    let at : (s < length t.slots) × ((slot_at t.slots s).chain ≡ get_or t.order r 0) × LeastOf (reached within floor t r (s + 1)) best = walk_at is h in
    let after : p.next ≡ newest t.slots (slot_at t.slots s).chain s = ap (λ (q : Slot). q.next) (get_or_read t.slots s p at.0 read blank) ∙ w.linked.link s at.0 in
    omega (arith, ap bound after, newest_below t.slots (slot_at t.slots s).chain s, ap bound is)

pub walk_end : {within : Rectangle} {floor columns r r' : ℕ} {t : Tables} {next : Option ℕ} {best : Option Strand} → Sound t columns → next ≡ None → r + 1 ≡ r' → Walk within floor t r next best → LeastOf (reached within floor t r' (length t.slots)) best
walk_end {within = within} {floor = floor} {columns = columns} {r = r} {t = t} {next = next} {best = best} w is after h =
    let P : Option ℕ → Type 0 = λ o. Walk within floor t r o best in
    let Q : ℕ → Type 0 = λ k. LeastOf (reached within floor t k (length t.slots)) best in
    let g : Walk within floor t r None best = subst P is h in
    subst Q after (first_row within floor columns r t best w g.least)

all_at : (within : Rectangle) (floor r m k : ℕ) (t : Tables) (o : Option ℕ) → min within.bottom.0 (length t.order) ≤ r → ((s : ℕ) → o ≡ Some s → row_of t.rows (slot_at t.slots s).chain < length t.order) →
    (leb floor k && stands_inside within (place_of t.slots t.rows o)) ≡ ((leb floor k && stands_inside within (place_of t.slots t.rows o)) && passed t r m o)
all_at within floor r m k t None h low = grind (arith, nat_tests)
all_at within floor r m k t (Some s) h low = let on = low s refl in grind (arith, nat_tests)

-- a walk of all rows that are asked for meets all that is asked for
pub walk_all : {columns r : ℕ} {t : Tables} (within : Rectangle) (floor : ℕ) (best : Option Strand) → Sound t columns → min within.bottom.0 (length t.order) ≤ r → LeastOf (reached within floor t r (length t.slots)) best → LeastOf (hits within floor (at_of t)) best
walk_all {r = r} {t = t} within floor best w h least =
    same_least (reached within floor t r (length t.slots)) (hits within floor (at_of t)) best
    (λ k. all_at within floor r (length t.slots) k t (get_or t.labels k None) h (λ s is. w.paired.row_low (slot_at t.slots s).chain (w.filed.chain_of s (w.filed.named k s is).0))) least
