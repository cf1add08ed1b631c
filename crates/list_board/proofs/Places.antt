-- Where the points of a list of records stand.
use Rattle.std.proofs.Common.{◌≡◌, ℕ, zero, suc, ◌<◌, Bool, true, false, cond, eqb, List, [], ◌∷◌, ◌++◌, map, length, get_or, take, is_some, Some, Option, sym, refl, ap, ◌∙◌, le_of_suc-le-suc, not-suc-le-zero, arith}
use Rattle.std.proofs.lemmas.Bool.Decides.{nat_tests}
use Rattle.std.proofs.lemmas.Bool.{cond-true, cond-false, eq-eqb, ne_eqb}
use Rattle.grammar.specs.Limits.{max_strands}
use Rattle.board.specs.Meaning.{moved, held_rank, moved_point}
use Rattle.board.proofs.Parts.{map_same}
use Rattle.board.proofs.Meanings.{some_moved, held_is_moved}
use Rattle.board.specs.declared.points.Point.{Point}
use Rattle.list_board.specs.Listing.{place_in, distinct, moved_record, zero_point}

-- a point moved, as far as a rank's type goes
abbrev pub held_point : ℕ → ℕ → Point → Point
held_point row column p = record { row = record { 0 = held_rank row p.row.0 }; column = record { 0 = held_rank column p.column.0 }; label = p.label }

-- a record more, behind the others
pub place_more : (ps : List Point) (p : Point) (label : ℕ) → is_some (place_in ps p.label.0) ≡ false → place_in (ps ++ p ∷ []) label ≡ cond (eqb p.label.0 label) (Some (p.row.0, p.column.0)) (place_in ps label)
place_more [] p label free = refl
place_more (q ∷ ps) p label free =
    let e : place_in (ps ++ p ∷ []) label ≡ cond (eqb p.label.0 label) (Some (p.row.0, p.column.0)) (place_in ps label) = place_more ps p label (grind (arith, nat_tests, free)) in
    grind (arith, nat_tests, e, free)

pub distinct_more : (ps : List Point) (p : Point) → distinct ps ≡ true → is_some (place_in ps p.label.0) ≡ false → distinct (ps ++ p ∷ []) ≡ true
distinct_more [] p once free = refl
distinct_more (q ∷ ps) p once free =
    let rest : distinct (ps ++ p ∷ []) ≡ true = distinct_more ps p (grind (arith, nat_tests, once)) (grind (arith, nat_tests, free)) in
    let none : is_some (place_in ps p.label.0) ≡ false = grind (arith, nat_tests, free) in
    let e : is_some (place_in (ps ++ p ∷ []) q.label.0) ≡ is_some (cond (eqb p.label.0 q.label.0) (Some (p.row.0, p.column.0)) (place_in ps q.label.0)) = ap is_some (place_more ps p q.label.0 none) in
    grind (arith, nat_tests, rest, e, once, free)

-- every record moved
moved_cond : (row column : ℕ) (c : Bool) (x y : Option (ℕ × ℕ)) → moved_point row column (cond c x y) ≡ cond c (moved_point row column x) (moved_point row column y)
moved_cond row column true x y = refl
moved_cond row column false x y = refl

pub place_moved : (row column : ℕ) (ps : List Point) (label : ℕ) → place_in (map (moved_record row column) ps) label ≡ moved_point row column (place_in ps label)
place_moved row column [] label = refl
place_moved row column (p ∷ ps) label = ap (cond (eqb p.label.0 label) (Some (moved row p.row.0, moved column p.column.0))) (place_moved row column ps label) ∙ sym (moved_cond row column (eqb p.label.0 label) (Some (p.row.0, p.column.0)) (place_in ps label))

pub distinct_moved : (row column : ℕ) (ps : List Point) → distinct (map (moved_record row column) ps) ≡ distinct ps
distinct_moved row column [] = refl
distinct_moved row column (p ∷ ps) =
    let e : is_some (place_in (map (moved_record row column) ps) p.label.0) ≡ is_some (place_in ps p.label.0) = ap is_some (place_moved row column ps p.label.0) ∙ some_moved row column (place_in ps p.label.0) in
    let rest = distinct_moved row column ps in
    cc

-- a record's label leads to it
apart : (ps : List Point) (p : Point) (label : ℕ) (place : ℕ × ℕ) → distinct (p ∷ ps) ≡ true → place_in ps label ≡ Some place → p.label.0 ≡ label → ⊥
apart ps p label place once is same =
    let none : is_some (place_in ps p.label.0) ≡ false = grind (arith, nat_tests, once) in
    let z : true ≡ false = sym (ap is_some is) ∙ (ap (λ (k : ℕ). is_some (place_in ps k)) (sym same) ∙ none) in
    cc

skipped : (ps : List Point) (p : Point) (label : ℕ) (place : ℕ × ℕ) → distinct (p ∷ ps) ≡ true → place_in ps label ≡ Some place → place_in (p ∷ ps) label ≡ place_in ps label
skipped ps p label place once is = cond-false (eqb p.label.0 label) (Some (p.row.0, p.column.0)) (place_in ps label) (ne_eqb p.label.0 label (apart ps p label place once is))

pub place_of : (ps : List Point) (i : ℕ) (d : Point) → distinct ps ≡ true → i < length ps → place_in ps (get_or ps i d).label.0 ≡ Some ((get_or ps i d).row.0, (get_or ps i d).column.0)
place_of [] i d once h = absurd (not-suc-le-zero h)
place_of (p ∷ ps) zero d once h = cond-true (eqb p.label.0 p.label.0) (Some (p.row.0, p.column.0)) (place_in ps p.label.0) (eq-eqb p.label.0 p.label.0 refl)
place_of (p ∷ ps) (suc i) d once h =
    let e = place_of ps i d (grind (arith, nat_tests, once)) (le_of_suc-le-suc h) in
    skipped ps p (get_or ps i d).label.0 ((get_or ps i d).row.0, (get_or ps i d).column.0) once e ∙ e

-- and no record before has the label
pub free_before : (ps : List Point) (i : ℕ) (d : Point) → distinct ps ≡ true → i < length ps → is_some (place_in (take i ps) (get_or ps i d).label.0) ≡ false
free_before [] i d once h = absurd (not-suc-le-zero h)
free_before (p ∷ ps) zero d once h = refl
free_before (p ∷ ps) (suc i) d once h =
    let label : ℕ = (get_or ps i d).label.0 in
    let rest : distinct ps ≡ true = grind (arith, nat_tests, once) in
    let other : eqb p.label.0 label ≡ false = ne_eqb p.label.0 label (apart ps p label ((get_or ps i d).row.0, (get_or ps i d).column.0) once (place_of ps i d rest (le_of_suc-le-suc h))) in
    ap is_some (cond-false (eqb p.label.0 label) (Some (p.row.0, p.column.0)) (place_in (take i ps) label) other) ∙ free_before ps i d rest (le_of_suc-le-suc h)

-- on ranks within the limit no rank is held
pub held_are_moved : (row column : ℕ) (ps : List Point) → distinct ps ≡ true → ((label r c : ℕ) → place_in ps label ≡ Some (r, c) → (r < max_strands) × (c < max_strands)) → map (held_point row column) ps ≡ map (moved_record row column) ps
held_are_moved row column ps once low =
    map_same (held_point row column) (moved_record row column) ps zero_point
    (λ k h.
    let p : Point = get_or ps k zero_point in
    let at : (p.row.0 < max_strands) × (p.column.0 < max_strands) = low p.label.0 p.row.0 p.column.0 (place_of ps k zero_point once h) in
    let a = held_is_moved row p.row.0 at.0 in
    let b = held_is_moved column p.column.0 at.1 in
    cc)
