-- What opening a row and a column, and a point more, make of a board's meaning.
use Rattle.std.proofs.Common.{◌≡◌, ℕ, zero, suc, ◌+◌, ◌<◌, ◌≤◌, Bool, true, false, cond, eqb, is_some, Some, None, Ok, Err, Option, Result, ◌⊎◌, inl, inr, sym, refl, ap, ◌∙◌, subst, ⊎_elim, not-suc-le-zero, arith}
use mathlib.Core.Path.{fun_ext}
use Rattle.std.proofs.lemmas.Bool.Decides.{nat_tests, eqb_tells}
use Rattle.std.proofs.lemmas.Bool.{cond-true, cond-false}
use Rattle.grammar.specs.Limits.{max_strands}
use Rattle.grammar.specs.declared.refusals.Refusal.{Refusal}
use Rattle.grammar.specs.Orders.{tally}
use Rattle.board.specs.Meaning.{Meaning, Proper, place_at, stands, count, clean, moved, held_rank, moved_point, widened, placed}
use Rattle.std.specs.Option.{option_map}
use Rattle.grammar.specs.declared.strands.BackRank.{BackRank}
use Rattle.grammar.specs.declared.strands.ForeRank.{ForeRank}
use Rattle.grammar.specs.declared.strands.Strand.{Strand}
use Rattle.board.specs.declared.points.Point.{Point}
use Rattle.board.specs.declared.sizes.Size.{Size}
use Rattle.board.specs.Answering.{Sizes, Locates, ranked, widen_fault, covered, put_fault, widen_refusal, put_refusal, settled, kept, Settles}

pub moved_below : (place rank : ℕ) → rank < place → moved place rank ≡ rank
moved_below place rank h = grind (arith, nat_tests)

pub moved_above : (place rank : ℕ) → place ≤ rank → moved place rank ≡ rank + 1
moved_above place rank h = grind (arith, nat_tests)

pub moved_most : (place rank : ℕ) → moved place rank ≤ rank + 1
moved_most place rank = grind (arith, nat_tests)

pub held_is_moved : (place rank : ℕ) → rank < max_strands → held_rank place rank ≡ moved place rank
held_is_moved place rank low = omega (arith, moved_most place rank)

pub some_moved : (row column : ℕ) (o : Option (ℕ × ℕ)) → is_some (moved_point row column o) ≡ is_some o
some_moved row column None = refl
some_moved row column (Some place) = refl

tally_none : (n : ℕ) → tally (λ k. false) n ≡ 0
tally_none zero = refl
tally_none (suc n) = tally_none n

-- one number more passes
tally_other : (f g : ℕ → Bool) (k n : ℕ) → n ≤ k → ((j : ℕ) → g j ≡ cond (eqb k j) true (f j)) → tally g n ≡ tally f n
tally_other f g k zero h e = refl
tally_other f g k (suc n) h e =
    let here : g n ≡ cond (eqb k n) true (f n) = e n in
    let same : g n ≡ f n = grind (arith, nat_tests, here) in
    let rest : tally g n ≡ tally f n = tally_other f g k n (omega arith) e in
    cc

tally_more : (f g : ℕ → Bool) (k n : ℕ) → k < n → f k ≡ false → ((j : ℕ) → g j ≡ cond (eqb k j) true (f j)) → tally g n ≡ tally f n + 1
tally_more f g k zero h none e = absurd (not-suc-le-zero h)
tally_more f g k (suc n) h none e =
    let here : g n ≡ cond (eqb k n) true (f n) = e n in
    ⊎_elim
    (λ y.
    let at : f n ≡ false = ap f (sym y.1) ∙ none in
    let on : g n ≡ true = here ∙ cond-true (eqb k n) true (f n) y.0 in
    let rest : tally g n ≡ tally f n = tally_other f g k n (omega (arith, y.1)) e in
    ap (λ (q : Bool). cond q (suc (tally g n)) (tally g n)) on ∙ (ap suc rest ∙ (omega arith ∙ ap (λ (q : Bool). cond q (suc (tally f n)) (tally f n) + 1) (sym at))))
    (λ y.
    let same : g n ≡ f n = here ∙ cond-false (eqb k n) true (f n) y.0 in
    let rest : tally g n ≡ tally f n + 1 = tally_more f g k n (omega (arith, y.1)) none e in
    grind (arith, nat_tests, same, rest))
    (eqb_tells k n)

pub count-clean : (capacity : ℕ) → count (clean capacity) ≡ 0
unfolding count
count-clean capacity = tally_none max_strands

pub count-widened : (m : Meaning) (row column : ℕ) → count (widened m row column) ≡ count m
unfolding count
count-widened m row column = ap (λ (f : ℕ → Bool). tally f max_strands) (fun_ext (λ label. some_moved row column (place_at m label)))

some_cond : (c : Bool) (place : ℕ × ℕ) (o : Option (ℕ × ℕ)) → is_some (cond c (Some place) o) ≡ cond c true (is_some o)
some_cond true place o = refl
some_cond false place o = refl

pub count-placed : (m : Meaning) (row column label : ℕ) → label < max_strands → stands m label ≡ false → count (placed m row column label) ≡ count m + 1
unfolding count
count-placed m row column label low free = tally_more (stands m) (stands (placed m row column label)) label max_strands low free (λ j. some_cond (eqb label j) (row, column) (place_at m j))

pub clean_proper : (capacity : ℕ) → capacity ≤ max_strands → Proper (clean capacity)
clean_proper capacity few =
    record {
      rows_few = omega arith;
      columns_few = omega arith;
      capacity_few = few;
      points_few = omega (arith, count-clean capacity);
      labels_low = λ label h. refl;
      on_board = λ label row column e. absurd (cc);
    }

pub some_pair : (a b : ℕ × ℕ) → Some a ≡ Some b → (a.0 ≡ b.0) × (a.1 ≡ b.1)
some_pair a b e =
    let same : a ≡ b = cc in
    (ap (λ (p : ℕ × ℕ). p.0) same, ap (λ (p : ℕ × ℕ). p.1) same)

moved_on_board : (rows columns a b row column : ℕ) (o : Option (ℕ × ℕ)) → ((r c : ℕ) → o ≡ Some (r, c) → (r < rows) × (c < columns)) → moved_point a b o ≡ Some (row, column) → (row < rows + 1) × (column < columns + 1)
moved_on_board rows columns a b row column None old e = absurd (cc)
moved_on_board rows columns a b row column (Some place) old e =
    let at : (place.0 < rows) × (place.1 < columns) = old place.0 place.1 refl in
    let same : (moved a place.0 ≡ row) × (moved b place.1 ≡ column) = some_pair (moved a place.0, moved b place.1) (row, column) e in
    (omega (arith, at.0, same.0, moved_most a place.0), omega (arith, at.1, same.1, moved_most b place.1))

pub widened_proper : (m : Meaning) (row column : ℕ) → m.rows < max_strands → m.columns < max_strands → Proper m → Proper (widened m row column)
widened_proper m row column rows columns w =
    record {
      rows_few = omega arith;
      columns_few = omega arith;
      capacity_few = w.capacity_few;
      points_few = omega (arith, count-widened m row column, w.points_few);
      labels_low = λ label h. ap (moved_point row column) (w.labels_low label h);
      on_board = λ label r c e. moved_on_board m.rows m.columns row column r c (place_at m label) (w.on_board label) e;
    }

pub placed_proper : (m : Meaning) (row column label : ℕ) → row < m.rows → column < m.columns → label < max_strands → stands m label ≡ false → count m < m.capacity → Proper m → Proper (placed m row column label)
placed_proper m row column label on_row on_column low free room w =
    record {
      rows_few = w.rows_few;
      columns_few = w.columns_few;
      capacity_few = w.capacity_few;
      points_few = omega (arith, count-placed m row column label low free);
      labels_low = λ other h. ⊎_elim (λ e. absurd (omega (arith, e.1))) (λ e. cond-false (eqb label other) (Some (row, column)) (place_at m other) e.0 ∙ w.labels_low other h) (eqb_tells label other);
      on_board = λ other r c is. ⊎_elim
          (λ e.
          let same : (row ≡ r) × (column ≡ c) = some_pair (row, column) (r, c) (sym (cond-true (eqb label other) (Some (row, column)) (place_at m other) e.0) ∙ is) in
          (omega (arith, same.0), omega (arith, same.1)))
          (λ e. w.on_board other r c (sym (cond-false (eqb label other) (Some (row, column)) (place_at m other) e.0) ∙ is))
          (eqb_tells label other);
    }

pub widen_allowed : (m : Meaning) (row column : ℕ) → m.rows < max_strands → m.columns < max_strands → row ≤ m.rows → column ≤ m.columns → widen_refusal m row column ≡ None
widen_allowed m row column rows columns on_row on_column = grind (arith, nat_tests)

pub put_allowed : (m : Meaning) (row column label : ℕ) → row < m.rows → column < m.columns → label < max_strands → stands m label ≡ false → count m < m.capacity → put_refusal m row column label ≡ None
put_allowed m row column label on_row on_column low free room = grind (arith, nat_tests)

-- a call that is accepted
pub accepted : (refusal : Option Refusal) (m changed after : Meaning) → refusal ≡ None → after ≡ changed → Settles refusal m changed (Ok tt) after
accepted refusal m changed after none is = record { answer_is = sym (ap settled none); after_is = is ∙ sym (ap (λ (o : Option Refusal). kept o m changed) none) }

-- a board that means a widened or a fuller one has its count and is proper
pub widened_as : (m after : Meaning) (row column n : ℕ) → after ≡ widened m row column → m.rows < max_strands → m.columns < max_strands → count m ≡ n → Proper m → (count after ≡ n) × Proper after
widened_as m after row column n is rows columns counted w =
    let P : Meaning → Type 0 = Proper in
    (ap count is ∙ (count-widened m row column ∙ counted), subst P (sym is) (widened_proper m row column rows columns w))

pub placed_as : (m after : Meaning) (row column label n : ℕ) → after ≡ placed m row column label → row < m.rows → column < m.columns → label < max_strands → stands m label ≡ false → n < m.capacity → count m ≡ n → Proper m → (count after ≡ n + 1) × Proper after
placed_as m after row column label n is on_row on_column low free room counted w =
    let P : Meaning → Type 0 = Proper in (
      ap count is ∙ (count-placed m row column label low free ∙ ap (λ (k : ℕ). k + 1) counted),
      subst P (sym is) (placed_proper m row column label on_row on_column low free (omega (arith, counted)) w),
    )

-- what a widening that is accepted says of its places
pub wide : (m : Meaning) (a b : ℕ) → widen_refusal m a b ≡ None → (m.rows < max_strands) × (m.columns < max_strands) × (a ≤ m.rows) × (b ≤ m.columns)
wide m a b e = (grind (arith, nat_tests, e), grind (arith, nat_tests, e), grind (arith, nat_tests, e), grind (arith, nat_tests, e))

-- what a put that is accepted says of its point
pub free : (m : Meaning) (row column label : ℕ) → put_refusal m row column label ≡ None → (row < m.rows) × (column < m.columns) × (label < max_strands) × (stands m label ≡ false) × (count m < m.capacity)
free m row column label e = (grind (arith, nat_tests, e), grind (arith, nat_tests, e), grind (arith, nat_tests, e), grind (arith, nat_tests, e), grind (arith, nat_tests, e))

mapped_some : (o : Option (ℕ × ℕ)) → is_some (option_map ranked o) ≡ is_some o
mapped_some None = refl
mapped_some (Some place) = refl

-- a call that is not refused
not_refused : (refusal : Option Refusal) (done : Unit {0}) → Ok done ≡ settled refusal → refusal ≡ None
not_refused None done e = refl
not_refused (Some refusal) done e = absurd (cc)

-- a call that is refused
declined : (refusal : Option Refusal) (m changed : Meaning) (answer : Result (Unit {0}) Refusal) (e : Refusal) → answer ≡ Err e → Err e ≡ settled refusal → Settles refusal m changed answer m
declined None m changed answer e is told = absurd (cc)
declined (Some r) m changed answer e is told = record { answer_is = is ∙ told; after_is = refl }

-- what a size allows, every board of that size allows
pub widen_clear : {size : Size} {done : Unit {0}} (m : Meaning) (row column : ℕ) → Sizes m size → Ok done ≡ settled (widen_fault size row column) → widen_refusal m row column ≡ None
widen_clear m row column is told = not_refused _ _ (told ∙ ap (λ (s : Size). settled (widen_fault s row column)) is)

found_stands : (m : Meaning) (label : Strand) (found : Option (BackRank × ForeRank)) → Locates m label found → is_some found ≡ stands m label.0
found_stands m label found at = ap is_some at ∙ mapped_some (place_at m label.0)

put_told : (m : Meaning) (size : Size) (point : Point) (found : Option (BackRank × ForeRank)) → Sizes m size → Locates m point.label found → put_fault size (is_some found) point.row.0 point.column.0 point.label.0 ≡ put_refusal m point.row.0 point.column.0 point.label.0
put_told m size point found is at =
    let stand = found_stands m point.label found at in
    cc

-- a point that a size does not cover is declined alike, whether its label stands or not
uncovered : (size : Size) (taken other : Bool) (row column label : ℕ) → covered size row column label ≡ false → put_fault size taken row column label ≡ put_fault size other row column label
uncovered size taken other row column label h = grind (arith, nat_tests, h)

pub put_clear : {size : Size} {found : Option (BackRank × ForeRank)} {done : Unit {0}} (m : Meaning) (point : Point) → Sizes m size → Locates m point.label found → Ok done ≡ settled (put_fault size (is_some found) point.row.0 point.column.0 point.label.0) → put_refusal m point.row.0 point.column.0 point.label.0 ≡ None
put_clear {size = size} {found = found} m point is at told = not_refused _ _ (told ∙ ap settled (put_told m size point found is at))

-- also where the label was looked for only if the size covers the point
pub put_looked_clear : {size : Size} {found : Option (BackRank × ForeRank)} {done : Unit {0}} (m : Meaning) (point : Point) → Sizes m size → Locates m point.label found ⊎ (covered size point.row.0 point.column.0 point.label.0 ≡ false) → Ok done ≡ settled (put_fault size (is_some found) point.row.0 point.column.0 point.label.0) → put_refusal m point.row.0 point.column.0 point.label.0 ≡ None
put_looked_clear m point is (inl at) told = put_clear m point is at told
put_looked_clear {size = size} m point is (inr other) told =
    let taken = stands m point.label.0 in
    let same = ap (λ (s : Size). put_fault s taken point.row.0 point.column.0 point.label.0) is in
    not_refused _ _ (told ∙ ap settled (uncovered size _ taken point.row.0 point.column.0 point.label.0 other ∙ same))

-- and what it declines, they decline
pub put_declined : {size : Size} {found : Option (BackRank × ForeRank)} {changed : Meaning} {answer : Result (Unit {0}) Refusal} {e : Refusal} (m : Meaning) (point : Point) → Sizes m size → Locates m point.label found → answer ≡ Err e → Err e ≡ settled (put_fault size (is_some found) point.row.0 point.column.0 point.label.0) → Settles (put_refusal m point.row.0 point.column.0 point.label.0) m changed answer m
put_declined {size = size} {found = found} m point is at answers told = declined _ m _ _ _ answers (told ∙ ap settled (put_told m size point found is at))
