-- The laws of a board that grows.
use Rattle.std.proofs.Common.{◌≡◌, ℕ, ◌+◌, ◌<◌, Bool, true, false, ◌&&◌, ◌||◌, eqb, ltb, leb, is_some, Some, None, Err, Option, Result, sym, refl, ap, ◌∙◌, subst, ⊎_elim, arith}
use Rattle.std.proofs.lemmas.Bool.Decides.{nat_tests, eqb_tells}
use Rattle.std.proofs.lemmas.Bool.{cases_order, cond-true, cond-false, eq-eqb, ne_eqb}
use Rattle.grammar.specs.declared.refusals.Refusal.{Refusal}
use Rattle.board.specs.declared.rectangles.Rectangle.{Rectangle}
use Rattle.board.specs.declared.calls.Call.TheVariants.{AskSize, Widen, Put, Locate, First}
use Rattle.board.specs.declared.calls.Answer.TheVariants.{Settled}
use Rattle.board.specs.declared.calls.Call.{Call}
use Rattle.board.specs.declared.calls.Answer.{Answer}
use Rattle.board.specs.Serving.{Serves}
use Rattle.board.specs.Laws.{CallsKeepProper, CallsKeepPoints, CallsKeepCapacity, RefusalsChangeNothing, PutCountsOneMore, WidenThenPut, OpenedAreEmpty, FirstAfterWiden, FirstAfterPut, FirstThenTheRest, moved_rectangle}
use Rattle.board.specs.Meaning.{Meaning, Proper, place_at, stands, count, moved, moved_point, widened, placed, stands_inside, hits}
use Rattle.board.specs.Answering.{settled, kept, widen_refusal, put_refusal}
use Rattle.board.proofs.Meanings.{some_moved, some_pair, count-widened, count-placed, widened_proper, placed_proper, put_allowed, wide, free}
use Rattle.board.proofs.Least.{first_more, same_least}

kept_is : (P : Meaning → Type 0) (refusal : Option Refusal) (m changed : Meaning) → (refusal ≡ None → P changed) → P m → P (kept refusal m changed)
kept_is P None m changed new old = new refl
kept_is P (Some refusal) m changed new old = old

-- what a widening and a put that are accepted keep, every call keeps
calls_keep : (P : Meaning → Type 0) (m after : Meaning) (call : Call) (answer : Answer)
    → ((row column : ℕ) → widen_refusal m row column ≡ None → P (widened m row column))
    → ((row column label : ℕ) → put_refusal m row column label ≡ None → P (placed m row column label))
    → P m → Serves m call answer after → P after
calls_keep P m after AskSize answer widens puts h s = subst P (sym s.1) h
calls_keep P m after (Widen row column) answer widens puts h s = subst P (sym s.1.1.after_is) (kept_is P (widen_refusal m row.0 column.0) m (widened m row.0 column.0) (widens row.0 column.0) h)
calls_keep P m after (Put p) answer widens puts h s = subst P (sym s.1.1.after_is) (kept_is P (put_refusal m p.row.0 p.column.0 p.label.0) m (placed m p.row.0 p.column.0 p.label.0) (puts p.row.0 p.column.0 p.label.0) h)
calls_keep P m after (Locate label) answer widens puts h s = subst P (sym s.1) h
calls_keep P m after (First within floor) answer widens puts h s = subst P (sym s.1) h

kept_refused : (refusal : Option Refusal) (m changed : Meaning) (e : Refusal) → Err e ≡ settled refusal → kept refusal m changed ≡ m
kept_refused None m changed e is = absurd (cc)
kept_refused (Some refusal) m changed e is = refl

pub calls_keep_proper : CallsKeepProper
calls_keep_proper m after call answer s w =
    let P : Meaning → Type 0 = Proper in
    calls_keep P m after call answer
    (λ row column e. let h = wide m row column e in widened_proper m row column h.0 h.1 w)
    (λ row column label e. let h = free m row column label e in placed_proper m row column label h.0 h.1 h.2 h.3 h.4 w)
    w s

some_placed : (m : Meaning) (row column label other : ℕ) → stands m other ≡ true → stands (placed m row column label) other ≡ true
some_placed m row column label other h = ⊎_elim
    (λ e. ap is_some (cond-true (eqb label other) (Some (row, column)) (place_at m other) e.0))
    (λ e. ap is_some (cond-false (eqb label other) (Some (row, column)) (place_at m other) e.0) ∙ h)
    (eqb_tells label other)

pub calls_keep_points : CallsKeepPoints
calls_keep_points m after call answer label s h =
    let P : Meaning → Type 0 = λ k. stands k label ≡ true in
    calls_keep P m after call answer (λ row column e. some_moved row column (place_at m label) ∙ h) (λ row column new e. some_placed m row column new label h) h s

pub calls_keep_capacity : CallsKeepCapacity
calls_keep_capacity m after call answer s =
    let P : Meaning → Type 0 = λ k. k.capacity ≡ m.capacity in
    calls_keep P m after call answer (λ row column e. refl) (λ row column label e. refl) refl s

settled_err : (told : Result (Unit {0}) Refusal) (e : Refusal) → Settled (Err e) ≡ Settled told → Err e ≡ told
settled_err told e is = cc

pub refusals_change_nothing : RefusalsChangeNothing
refusals_change_nothing m after AskSize refusal s = s.1
refusals_change_nothing m after (Widen row column) refusal s = s.1.1.after_is ∙ kept_refused (widen_refusal m row.0 column.0) m (widened m row.0 column.0) refusal (settled_err s.0 refusal s.1.0 ∙ s.1.1.answer_is)
refusals_change_nothing m after (Put p) refusal s = s.1.1.after_is ∙ kept_refused (put_refusal m p.row.0 p.column.0 p.label.0) m (placed m p.row.0 p.column.0 p.label.0) refusal (settled_err s.0 refusal s.1.0 ∙ s.1.1.answer_is)
refusals_change_nothing m after (Locate label) refusal s = s.1
refusals_change_nothing m after (First within floor) refusal s = s.1

pub put_counts_one_more : PutCountsOneMore
put_counts_one_more m row column label e = let h = free m row column label e in count-placed m row column label h.2 h.3

pub widen_then_put : WidenThenPut
widen_then_put m a b row column label w on_row on_column low none room =
    let n : Meaning = widened m a b in
    let same : count n ≡ count m = count-widened m a b in
    let gone : stands n label ≡ false = some_moved a b (place_at m label) ∙ none in (
      put_allowed n row column label (omega arith) (omega arith) low gone (omega (arith, same)),
      record {
        rows_are = refl;
        columns_are = refl;
        capacity_is = refl;
        count_is = count-placed n row column label low gone ∙ ap (λ (k : ℕ). k + 1) same;
        label_at = cond-true (eqb label label) (Some (row, column)) (place_at n label) (eq-eqb label label refl);
        others_at = λ other ne. cond-false (eqb label other) (Some (row, column)) (place_at n other) (ne_eqb label other (λ e. ne (sym e)));
      },
    )

moved_off : (a x : ℕ) → moved a x ≡ a → ⊥
moved_off a x e = grind (arith, nat_tests, e)

opened_empty : (a b row column : ℕ) (o : Option (ℕ × ℕ)) → moved_point a b o ≡ Some (row, column) → (row ≡ a → ⊥) × (column ≡ b → ⊥)
opened_empty a b row column None e = absurd (cc)
opened_empty a b row column (Some place) e =
    let same : (moved a place.0 ≡ row) × (moved b place.1 ≡ column) = some_pair (moved a place.0, moved b place.1) (row, column) e in
    (λ h. moved_off a place.0 (same.0 ∙ h), λ h. moved_off b place.1 (same.1 ∙ h))

pub opened_are_empty : OpenedAreEmpty
opened_are_empty m a b label row column e = opened_empty a b row column (place_at m label) e

moved_leb : (a x y : ℕ) → leb (moved a x) (moved a y) ≡ leb x y
moved_leb a x y = grind (arith, nat_tests)

moved_ltb : (a x y : ℕ) → ltb (moved a x) (moved a y) ≡ ltb x y
moved_ltb a x y = grind (arith, nat_tests)

inside_moved : (a b : ℕ) (within : Rectangle) (o : Option (ℕ × ℕ)) → stands_inside (moved_rectangle a b within) (moved_point a b o) ≡ stands_inside within o
inside_moved a b within None = refl
inside_moved a b within (Some place) =
    let top = moved_leb a within.top.0 place.0 in
    let bottom = moved_ltb a place.0 within.bottom.0 in
    let left = moved_leb b within.left.0 place.1 in
    let right = moved_ltb b place.1 within.right.0 in
    cc

pub first_after_widen : FirstAfterWiden
first_after_widen m a b within floor answer h =
    same_least (hits within floor.0 (place_at m)) (hits (moved_rectangle a b within) floor.0 (place_at (widened m a b))) answer
    (λ k. ap (λ (q : Bool). leb floor.0 k && q) (inside_moved a b within (place_at m k))) h

pub first_after_put : FirstAfterPut
first_after_put m row column label within floor answer none h = first_more within floor.0 (place_at m) (place_at (placed m row column label.0)) (row, column) label answer (λ k. refl) none h

rest_at : (floor l k : ℕ) (here there : Bool) → (leb floor l && here) ≡ true → (k < l → (leb floor k && there) ≡ false) → (l ≡ k → here ≡ there) → (leb floor k && there) ≡ (eqb l k || (leb (l + 1) k && there))
rest_at floor l k here there on below same = ⊎_elim
    (λ e. let is : here ≡ there = same e in grind (arith, nat_tests, on, is, e))
    (⊎_elim
    (λ lt. let far : leb floor k ≡ true = grind (arith, nat_tests, on, lt) in grind (arith, nat_tests, far, lt))
    (λ gt. let off : (leb floor k && there) ≡ false = below gt in grind (arith, nat_tests, off, gt)))
    (cases_order l k)

pub first_then_the_rest : FirstThenTheRest
first_then_the_rest m within floor label h k =
    rest_at floor.0 label.0 k (stands_inside within (place_at m label.0)) (stands_inside within (place_at m k)) h.0 (h.1 k) (λ e. ap (λ (j : ℕ). stands_inside within (place_at m j)) e)
