-- The least label so far, with one record more looked at.
use Rattle.std.proofs.Common.{◌≡◌, ℕ, ◌+◌, ◌<◌, Bool, true, false, cond, ◌&&◌, leb, List, [], ◌∷◌, ◌++◌, length, get_or, take, is_some, Option, sym, ap, ◌∙◌, subst}
use Rattle.std.proofs.lemmas.List.{take_more}
use Rattle.grammar.specs.declared.strands.Strand.{Strand}
use Rattle.board.specs.declared.points.Point.{Point}
use Rattle.board.specs.declared.rectangles.Rectangle.{Rectangle}
use Rattle.board.specs.Meaning.{hits, inside}
use Rattle.board.specs.Answering.{LeastOf, lowest}
use Rattle.board.proofs.Least.{first_more}
use Rattle.list_board.specs.Listing.{place_in, distinct, zero_point}
use Rattle.list_board.proofs.Places.{place_more, free_before}

pub least_after : (within : Rectangle) (floor i : ℕ) (ps : List Point) (p : Point) (least after : Option Strand) (hit : Bool) → distinct ps ≡ true → i < length ps → p ≡ get_or ps i zero_point → LeastOf (hits within floor (place_in (take i ps))) least → hit ≡ (leb floor p.label.0 && inside within (p.row.0, p.column.0)) → after ≡ cond hit (lowest least p.label) least → LeastOf (hits within floor (place_in (take (i + 1) ps))) after
least_after within floor i ps p least after hit once h is old hit_is after_is =
    let front : List Point = take i ps in
    let P : Point → Type 0 = λ q. is_some (place_in front q.label.0) ≡ false in
    let free : P p = subst P (sym is) (free_before ps i zero_point once h) in
    let more = first_more within floor (place_in front) (place_in (front ++ p ∷ [])) (p.row.0, p.column.0) p.label least (λ k. place_more front p k free) free old in
    let Q : Option Strand → Type 0 = LeastOf (hits within floor (place_in (front ++ p ∷ []))) in
    let found : Q after = subst Q (ap (λ (x : Bool). cond x (lowest least p.label) least) (sym hit_is) ∙ sym after_is) more in
    let R : List Point → Type 0 = λ xs. LeastOf (hits within floor (place_in xs)) after in
    subst R (ap (λ (x : Point). front ++ x ∷ []) is ∙ sym (take_more ps i zero_point h)) found
