-- A row and a column more.
use Rattle.std.proofs.Common.{◌≡◌, ℕ, ◌+◌, ◌-◌, ◌<◌, ◌≤◌, List, [], ◌∷◌, ◌++◌, map, length, get_or, Some, None, Option, sym, refl, ap, ◌∙◌, ⊎_elim, arith, below_more}
use Rattle.std.proofs.lemmas.Bool.{cases_order, cases_lt}
use Rattle.std.proofs.lemmas.List.{get_or_push, get_or_append_left, length_push, length-map, get_or-map}
use Rattle.std.proofs.lemmas.List.Edits.{length-insert, get_or-insert_below, get_or-insert_at, get_or-insert_above}
use Rattle.std.specs.List.{insert}
use Rattle.grammar.specs.Limits.{max_strands}
use Rattle.grammar.specs.declared.strands.BackRank.{BackRank}
use Rattle.board.specs.Meaning.{moved, held_rank, moved_point}
use Rattle.board.proofs.Parts.{map_same}
use Rattle.board.proofs.Meanings.{moved_below, moved_above, moved_most, held_is_moved}
use Rattle.chained_board.specs.Chains.{blank, slot_at, row_of, newest, place_of, Paired, Filed, Linked}
use Rattle.chained_board.specs.declared.chained_boards.Slot.{Slot}
use Rattle.chained_board.proofs.Tables.{newest_same, newest_none}

-- a chain's row, and a slot's column, after one is opened
abbrev pub row_moved : ℕ → BackRank → BackRank
row_moved place row = record { 0 = held_rank place row.0 }

abbrev pub column_moved : ℕ → Slot → Slot
column_moved place slot = record { chain = slot.chain; column = record { 0 = held_rank place slot.column.0 }; label = slot.label; next = slot.next }

-- ranks below the limit do not reach the end of their type
abbrev pub opened : ℕ → BackRank → BackRank
opened a row = record { 0 = moved a row.0 }

abbrev pub shifted : ℕ → Slot → Slot
shifted b slot = record { chain = slot.chain; column = record { 0 = moved b slot.column.0 }; label = slot.label; next = slot.next }

row_fits : (a : ℕ) (row : BackRank) → row.0 < max_strands → row_moved a row ≡ opened a row
row_fits a row low = ap (λ (k : ℕ). record { 0 = k }) (held_is_moved a row.0 low)

column_fits : (b : ℕ) (slot : Slot) → slot.column.0 < max_strands → column_moved b slot ≡ shifted b slot
column_fits b slot low = ap (λ (k : ℕ). record { chain = slot.chain; column = record { 0 = k }; label = slot.label; next = slot.next }) (held_is_moved b slot.column.0 low)

pub rows_fit : (a : ℕ) (rows : List BackRank) → ((c : ℕ) → c < length rows → row_of rows c < max_strands) → map (row_moved a) rows ≡ map (opened a) rows
rows_fit a rows low = map_same (row_moved a) (opened a) rows (record { 0 = 0 }) (λ c h. row_fits a (get_or rows c (record { 0 = 0 })) (low c h))

pub columns_fit : (b : ℕ) (slots : List Slot) → ((s : ℕ) → s < length slots → (slot_at slots s).column.0 < max_strands) → map (column_moved b) slots ≡ map (shifted b) slots
columns_fit b slots low = map_same (column_moved b) (shifted b) slots blank (λ s h. column_fits b (slot_at slots s) (low s h))

row_left : (n : ℕ) (rows : List BackRank) (a c : ℕ) → length rows ≡ n → c < n → row_of (map (opened a) rows ++ record { 0 = a } ∷ []) c ≡ moved a (row_of rows c)
row_left n rows a c long h =
    let blank_row : BackRank = record { 0 = 0 } in
    ap (λ (r : BackRank). r.0) (get_or_append_left (map (opened a) rows) (record { 0 = a } ∷ []) blank_row c (omega (arith, length-map rows (opened a))) ∙ get_or-map (opened a) rows c blank_row blank_row (omega arith))

pub widen_paired : (n : ℕ) (order : List ℕ) (rows : List BackRank) (a : ℕ) → a ≤ n → Paired n order rows → Paired (n + 1) (insert order a n) (map (opened a) rows ++ record { 0 = a } ∷ [])
widen_paired n order rows a le w =
    let fits : a ≤ length order = omega (arith, w.order_long) in
    let rows' : List BackRank = map (opened a) rows ++ record { 0 = a } ∷ [] in
    let order' : List ℕ = insert order a n in
    let row : (c : ℕ) → c < n → row_of rows' c ≡ moved a (row_of rows c) = λ c h. row_left n rows a c w.rows_long h in
    let row_new : row_of rows' n ≡ a = ap (λ (r : BackRank). r.0) (get_or_push (map (opened a) rows) (record { 0 = a }) (record { 0 = 0 }) n (length-map rows (opened a) ∙ w.rows_long)) in
    let below : (r : ℕ) → r < a → get_or order' r 0 ≡ get_or order r 0 = λ r h. get_or-insert_below order a n 0 r h fits in
    let at : get_or order' a 0 ≡ n = get_or-insert_at order a n 0 fits in
    let above : (r : ℕ) → a ≤ r → get_or order' (r + 1) 0 ≡ get_or order r 0 = λ r h. get_or-insert_above order a n 0 r h fits in
    record {
      order_long = length-insert order a n fits ∙ ap (λ (k : ℕ). k + 1) w.order_long;
      rows_long = length_push (map (opened a) rows) (record { 0 = a }) ∙ ap (λ (k : ℕ). k + 1) (length-map rows (opened a) ∙ w.rows_long);
      chain_low = λ r h. ⊎_elim
          (λ same. omega (arith, ap (λ (k : ℕ). get_or order' k 0) same, at))
          (⊎_elim
          (λ lt. omega (arith, below r lt, w.chain_low r (omega arith)))
          (λ gt. let k : ((r - 1) + 1) ≡ r = omega arith in omega (arith, ap (λ (j : ℕ). get_or order' j 0) k, above (r - 1) (omega arith), w.chain_low (r - 1) (omega arith))))
          (cases_order r a);
      row_low = λ c h. below_more (λ (k : ℕ). row_of rows' k < n + 1) n (λ k lt. omega (arith, row k lt, moved_most a (row_of rows k), w.row_low k lt)) (omega (arith, row_new)) c h;
      back = λ r h. ⊎_elim
          (λ same. ap (λ (k : ℕ). row_of rows' (get_or order' k 0)) same ∙ (ap (λ (k : ℕ). row_of rows' k) at ∙ (row_new ∙ sym same)))
          (⊎_elim
          (λ lt. ap (λ (k : ℕ). row_of rows' k) (below r lt) ∙ (row (get_or order r 0) (w.chain_low r (omega arith)) ∙ (ap (moved a) (w.back r (omega arith)) ∙ moved_below a r lt)))
          (λ gt. let q : ℕ = r - 1 in let k : q + 1 ≡ r = omega arith in
          ap (λ (j : ℕ). row_of rows' (get_or order' j 0)) (sym k) ∙ (ap (λ (j : ℕ). row_of rows' j) (above q (omega arith)) ∙ (row (get_or order q 0) (w.chain_low q (omega arith)) ∙ (ap (moved a) (w.back q (omega arith)) ∙ (moved_above a q (omega arith) ∙ k))))))
          (cases_order r a);
      forth = λ c h. below_more (λ (k : ℕ). get_or order' (row_of rows' k) 0 ≡ k) n
          (λ k lt. let x : ℕ = row_of rows k in
          ap (λ (j : ℕ). get_or order' j 0) (row k lt) ∙ ⊎_elim
          (λ l. ap (λ (j : ℕ). get_or order' j 0) (moved_below a x l) ∙ (below x l ∙ w.forth k lt))
          (λ g. ap (λ (j : ℕ). get_or order' j 0) (moved_above a x g) ∙ (above x g ∙ w.forth k lt))
          (cases_lt x a))
          (ap (λ (j : ℕ). get_or order' j 0) row_new ∙ at) c h;
    }

slot_shifted : (slots : List Slot) (b s : ℕ) → s < length slots → slot_at (map (shifted b) slots) s ≡ shifted b (slot_at slots s)
slot_shifted slots b s h = get_or-map (shifted b) slots s blank blank h

pub widen_filed : (n b : ℕ) (slots : List Slot) (labels : List (Option ℕ)) → Filed n slots labels → Filed (n + 1) (map (shifted b) slots) labels
widen_filed n b slots labels w =
    let long : length (map (shifted b) slots) ≡ length slots = length-map slots (shifted b) in
    let at : (s : ℕ) → s < length slots → slot_at (map (shifted b) slots) s ≡ shifted b (slot_at slots s) = slot_shifted slots b in
    let label : (s : ℕ) → s < length slots → (slot_at (map (shifted b) slots) s).label.0 ≡ (slot_at slots s).label.0 = λ s h. ap (λ (p : Slot). p.label.0) (at s h) in
    record {
      labels_long = w.labels_long;
      chain_of = λ s h. let l : s < length slots = omega arith in omega (arith, ap (λ (p : Slot). p.chain) (at s l), w.chain_of s l);
      found = λ s h. let l : s < length slots = omega arith in ap (λ (k : ℕ). get_or labels k None) (label s l) ∙ w.found s l;
      named = λ l s is. let old : (s < length slots) × ((slot_at slots s).label.0 ≡ l) = w.named l s is in (omega (arith, old.0), label s old.0 ∙ old.1);
    }

pub widen_linked : (n b : ℕ) (slots : List Slot) (heads labels : List (Option ℕ)) → Filed n slots labels → Linked n slots heads → Linked (n + 1) (map (shifted b) slots) (heads ++ None ∷ [])
widen_linked n b slots heads labels f w =
    let long : length (map (shifted b) slots) ≡ length slots = length-map slots (shifted b) in
    let at : (s : ℕ) → s < length slots → slot_at (map (shifted b) slots) s ≡ shifted b (slot_at slots s) = slot_shifted slots b in
    let same : (c k : ℕ) → k ≤ length slots → newest (map (shifted b) slots) c k ≡ newest slots c k = λ c k le. newest_same (map (shifted b) slots) slots c k (λ j lt. ap (λ (p : Slot). p.chain) (at j (omega arith))) in
    record {
      heads_long = length_push heads None ∙ ap (λ (k : ℕ). k + 1) w.heads_long;
      head = λ c h. below_more (λ (k : ℕ). get_or (heads ++ None ∷ []) k None ≡ newest (map (shifted b) slots) k (length (map (shifted b) slots))) n
          (λ k lt. get_or_append_left heads (None ∷ []) None k (omega (arith, w.heads_long)) ∙ (w.head k lt ∙ (sym (same k (length slots) (omega arith)) ∙ ap (newest (map (shifted b) slots) k) (sym long))))
          (get_or_push heads None None n w.heads_long ∙ (sym (newest_none slots n (length slots) (λ k lt e. omega (arith, e, f.chain_of k lt))) ∙ (sym (same n (length slots) (omega arith)) ∙ ap (newest (map (shifted b) slots) n) (sym long))))
          c h;
      link = λ s h. let l : s < length slots = omega arith in
          let a = at s l in let old = w.link s l in let e = same (slot_at slots s).chain s (omega arith) in
          cc;
    }

place_wide : (n a b : ℕ) (slots : List Slot) (rows : List BackRank) (o : Option ℕ) → length rows ≡ n → ((s : ℕ) → o ≡ Some s → (s < length slots) × ((slot_at slots s).chain < n)) → place_of (map (shifted b) slots) (map (opened a) rows ++ record { 0 = a } ∷ []) o ≡ moved_point a b (place_of slots rows o)
place_wide n a b slots rows None long h = refl
place_wide n a b slots rows (Some s) long h =
    let low : (s < length slots) × ((slot_at slots s).chain < n) = h s refl in
    ap (λ (p : Slot). Some (row_of (map (opened a) rows ++ record { 0 = a } ∷ []) p.chain, p.column.0)) (slot_shifted slots b s low.0) ∙ ap (λ (r : ℕ). Some (r, moved b (slot_at slots s).column.0)) (row_left n rows a (slot_at slots s).chain long low.1)

pub widen_at : (n a b : ℕ) (slots : List Slot) (rows : List BackRank) (labels : List (Option ℕ)) (l : ℕ) → length rows ≡ n → Filed n slots labels →
    place_of (map (shifted b) slots) (map (opened a) rows ++ record { 0 = a } ∷ []) (get_or labels l None) ≡ moved_point a b (place_of slots rows (get_or labels l None))
widen_at n a b slots rows labels l long w = place_wide n a b slots rows (get_or labels l None) long (λ s is. let f : (s < length slots) × ((slot_at slots s).label.0 ≡ l) = w.named l s is in (f.0, w.chain_of s f.0))
