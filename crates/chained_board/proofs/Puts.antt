-- A point more.
use Rattle.std.proofs.Common.{◌≡◌, ℕ, ◌+◌, ◌<◌, ◌≤◌, true, false, cond, eqb, List, [], ◌∷◌, ◌++◌, length, get_or, set, is_some, Some, None, Option, sym, refl, ap, ◌∙◌, ⊎_elim, arith, length-set, below_more}
use Rattle.std.proofs.lemmas.Bool.Decides.{nat_tests, eqb_tells}
use Rattle.std.proofs.lemmas.Bool.{cond-true, cond-false}
use Rattle.std.proofs.lemmas.List.{get_or_push, get_or_append_left, length_push}
use Rattle.grammar.specs.Limits.{max_strands}
use Rattle.grammar.specs.declared.strands.BackRank.{BackRank}
use Rattle.chained_board.specs.Chains.{blank, slot_at, newest, row_of, place_of, Filed, Linked}
use Rattle.chained_board.specs.declared.chained_boards.Slot.{Slot}
use Rattle.chained_board.proofs.Tables.{set_reads, newest_more, newest_same}

pub put_linked : (n : ℕ) (slots : List Slot) (heads : List (Option ℕ)) (p : Slot) → p.chain < n → p.next ≡ get_or heads p.chain None → Linked n slots heads → Linked n (slots ++ p ∷ []) (set heads p.chain (Some (length slots)))
put_linked n slots heads p low is w =
    let m : ℕ = length slots in
    let here : slot_at (slots ++ p ∷ []) m ≡ p = get_or_push slots p blank m refl in
    let same : (c k : ℕ) → k ≤ m → newest (slots ++ p ∷ []) c k ≡ newest slots c k = λ c k le. newest_same (slots ++ p ∷ []) slots c k (λ j lt. ap (λ (q : Slot). q.chain) (get_or_append_left slots (p ∷ []) blank j (omega arith))) in
    record {
      heads_long = length-set heads p.chain (Some m) ∙ w.heads_long;
      head = λ c h.
          let r : get_or (set heads p.chain (Some m)) c None ≡ cond (eqb p.chain c) (Some m) (get_or heads c None) = set_reads heads p.chain c (Some m) None (omega (arith, w.heads_long)) in
          let old : get_or heads c None ≡ newest slots c m = w.head c h in
          let e : newest (slots ++ p ∷ []) c m ≡ newest slots c m = same c m (omega arith) in
          let step = newest_more (slots ++ p ∷ []) c m in
          let long : length (slots ++ p ∷ []) ≡ m + 1 = length_push slots p in
          cc;
      link = λ s h.
          below_more (λ (k : ℕ). (slot_at (slots ++ p ∷ []) k).next ≡ newest (slots ++ p ∷ []) (slot_at (slots ++ p ∷ []) k).chain k) m
          (λ k lt.
          let a : slot_at (slots ++ p ∷ []) k ≡ slot_at slots k = get_or_append_left slots (p ∷ []) blank k lt in
          let b : (slot_at slots k).next ≡ newest slots (slot_at slots k).chain k = w.link k lt in
          let d = same (slot_at slots k).chain k (omega arith) in
          cc)
          (let d = same p.chain m (omega arith) in let b = w.head p.chain low in cc)
          s (omega (arith, length_push slots p));
    }

pub put_filed : (n : ℕ) (slots : List Slot) (labels : List (Option ℕ)) (p : Slot) → p.chain < n → p.label.0 < max_strands → is_some (get_or labels p.label.0 None) ≡ false → Filed n slots labels → Filed n (slots ++ p ∷ []) (set labels p.label.0 (Some (length slots)))
put_filed n slots labels p chain label none w =
    let m : ℕ = length slots in
    let lab : ℕ = p.label.0 in
    let long = length_push slots p in
    let here : slot_at (slots ++ p ∷ []) m ≡ p = get_or_push slots p blank m refl in
    let left : (k : ℕ) → k < m → slot_at (slots ++ p ∷ []) k ≡ slot_at slots k = λ k lt. get_or_append_left slots (p ∷ []) blank k lt in
    let reads : (l : ℕ) → get_or (set labels lab (Some m)) l None ≡ cond (eqb lab l) (Some m) (get_or labels l None) = λ l. set_reads labels lab l (Some m) None (omega (arith, w.labels_long)) in
    record {
      labels_long = length-set labels lab (Some m) ∙ w.labels_long;
      chain_of = λ s h. below_more (λ (k : ℕ). (slot_at (slots ++ p ∷ []) k).chain < n) m (λ k lt. let e = left k lt in omega (arith, ap (λ (q : Slot). q.chain) e, w.chain_of k lt)) (omega (arith, ap (λ (q : Slot). q.chain) here)) s (omega arith);
      found = λ s h. below_more (λ (k : ℕ). get_or (set labels lab (Some m)) (slot_at (slots ++ p ∷ []) k).label.0 None ≡ Some k) m
          (λ k lt.
          let e : (slot_at (slots ++ p ∷ []) k).label.0 ≡ (slot_at slots k).label.0 = ap (λ (q : Slot). q.label.0) (left k lt) in
          let f : get_or labels (slot_at slots k).label.0 None ≡ Some k = w.found k lt in
          let apart : lab ≡ (slot_at slots k).label.0 → ⊥ = λ same. let q : is_some (get_or labels lab None) ≡ true = ap (λ (l : ℕ). is_some (get_or labels l None)) same ∙ ap is_some f in cc in
          let r = reads (slot_at slots k).label.0 in
          ap (λ (l : ℕ). get_or (set labels lab (Some m)) l None) e ∙ grind (arith, nat_tests, r, f, apart))
          (let e : (slot_at (slots ++ p ∷ []) m).label.0 ≡ lab = ap (λ (q : Slot). q.label.0) here in
          let r = reads lab in ap (λ (l : ℕ). get_or (set labels lab (Some m)) l None) e ∙ grind (arith, nat_tests, r))
          s (omega arith);
      named = λ l s is. ⊎_elim
          (λ e. let same : m ≡ s = let q : Some m ≡ Some s = sym (cond-true (eqb lab l) (Some m) (get_or labels l None) e.0) ∙ (sym (reads l) ∙ is) in cc in
          (omega arith, ap (λ (k : ℕ). (slot_at (slots ++ p ∷ []) k).label.0) (sym same) ∙ (ap (λ (q : Slot). q.label.0) here ∙ e.1)))
          (λ e. let old : (s < m) × ((slot_at slots s).label.0 ≡ l) = w.named l s (sym (cond-false (eqb lab l) (Some m) (get_or labels l None) e.0) ∙ (sym (reads l) ∙ is)) in
          (omega (arith, old.0), ap (λ (q : Slot). q.label.0) (left s old.0) ∙ old.1))
          (eqb_tells lab l);
    }

-- a slot that is named stays where it was
place_left : (slots : List Slot) (rows : List BackRank) (p : Slot) (o : Option ℕ) → ((s : ℕ) → o ≡ Some s → s < length slots) → place_of (slots ++ p ∷ []) rows o ≡ place_of slots rows o
place_left slots rows p None h = refl
place_left slots rows p (Some s) h = ap (λ (q : Slot). Some (row_of rows q.chain, q.column.0)) (get_or_append_left slots (p ∷ []) blank s (h s refl))

pub put_at : (n : ℕ) (slots : List Slot) (rows : List BackRank) (labels : List (Option ℕ)) (p : Slot) (row l : ℕ) → p.label.0 < max_strands → row_of rows p.chain ≡ row → Filed n slots labels →
    place_of (slots ++ p ∷ []) rows (get_or (set labels p.label.0 (Some (length slots))) l None) ≡ cond (eqb p.label.0 l) (Some (row, p.column.0)) (place_of slots rows (get_or labels l None))
put_at n slots rows labels p row l label rank w =
    let lab : ℕ = p.label.0 in
    let m : ℕ = length slots in
    let old : Option (ℕ × ℕ) = place_of slots rows (get_or labels l None) in
    let here : place_of (slots ++ p ∷ []) rows (Some m) ≡ Some (row, p.column.0) = ap (λ (q : Slot). Some (row_of rows q.chain, q.column.0)) (get_or_push slots p blank m refl) ∙ ap (λ (k : ℕ). Some (k, p.column.0)) rank in
    let left : place_of (slots ++ p ∷ []) rows (get_or labels l None) ≡ old = place_left slots rows p (get_or labels l None) (λ s is. (w.named l s is).0) in
    ap (place_of (slots ++ p ∷ []) rows) (set_reads labels lab l (Some m) None (omega (arith, w.labels_long))) ∙ grind (arith, nat_tests, here, left)

pub place_some : (slots : List Slot) (rows : List BackRank) (o : Option ℕ) → is_some (place_of slots rows o) ≡ is_some o
place_some slots rows None = refl
place_some slots rows (Some s) = refl
