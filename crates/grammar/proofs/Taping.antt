-- Laws of tapes.
use Rattle.std.proofs.Common.{◌≡◌, ℕ, zero, suc, ◌+◌, ◌-◌, ◌<◌, true, ◌&&◌, ltb, List, [], ◌∷◌, ◌++◌, length, get_or, sym, refl, ap, ◌∙◌, subst, arith, length-append}
use Rattle.std.proofs.lemmas.List.FromFn.{length-map-range_with_len, get_or-map-range_with_len}
use Rattle.std.proofs.lemmas.List.{get_or_append_left, get_or-append_right}
use Rattle.std.proofs.lemmas.Bool.{and_parts, ltb-true}
use Rattle.grammar.specs.Laws.{ByteTapes, PairTapes, OlderTapesStay}
use Rattle.grammar.specs.Tapes.{byte_tapes, with_pair, tapes_from, tapes, older_from, well_joined}

length-tapes_from : (ts : List (List ℕ)) (ps : List (ℕ × ℕ)) → length (tapes_from ts ps) ≡ length ts + length ps
length-tapes_from ts [] = omega arith
length-tapes_from ts (p ∷ ps) = length-tapes_from (with_pair ts p) ps ∙ simp length-append (omega arith)

length-byte_tapes : length byte_tapes ≡ 256
unfolding byte_tapes
length-byte_tapes = length-map-range_with_len (λ c. c ∷ []) 0 256

pub length-tapes : (ps : List (ℕ × ℕ)) → length (tapes ps) ≡ 256 + length ps
unfolding tapes
length-tapes ps = length-tapes_from byte_tapes ps ∙ ap (λ n. n + length ps) length-byte_tapes

-- what stands stays
tapes_from_stays : (ts : List (List ℕ)) (ps : List (ℕ × ℕ)) (s : ℕ) → s < length ts → get_or (tapes_from ts ps) s [] ≡ get_or ts s []
tapes_from_stays ts [] s h = refl
tapes_from_stays ts (p ∷ ps) s h = tapes_from_stays (with_pair ts p) ps s (simp length-append (omega arith)) ∙ get_or_append_left _ _ [] s h

tapes_from-append : (ts : List (List ℕ)) (ps qs : List (ℕ × ℕ)) → tapes_from ts (ps ++ qs) ≡ tapes_from (tapes_from ts ps) qs
tapes_from-append ts [] qs = refl
tapes_from-append ts (p ∷ ps) qs = tapes_from-append (with_pair ts p) ps qs

pub older_tapes_stay : OlderTapesStay
unfolding tapes
older_tapes_stay ps qs s h = ap (λ ts. get_or ts s []) (tapes_from-append byte_tapes ps qs) ∙ tapes_from_stays (tapes ps) qs s (omega (arith, length-tapes ps))

pub byte_tapes_lem : ByteTapes
unfolding tapes byte_tapes
byte_tapes_lem ps c h = tapes_from_stays byte_tapes ps c (omega (arith, length-byte_tapes)) ∙ get_or-map-range_with_len (λ k. k ∷ []) 0 256 c c [] h (omega arith)

older_parts : (n : ℕ) (p : ℕ × ℕ) (ps : List (ℕ × ℕ)) → older_from n (p ∷ ps) ≡ true → (p.0 < n) × (p.1 < n) × (older_from (n + 1) ps ≡ true)
older_parts n p ps h =
    let a = and_parts (ltb p.0 n) (ltb p.1 n && older_from (n + 1) ps) h in
    let b = and_parts (ltb p.1 n) (older_from (n + 1) ps) a.1 in
    (ltb-true _ _ a.0, ltb-true _ _ b.0, b.1)

Whole : List (List ℕ) → ℕ → ℕ × ℕ → Type 0
Whole ts n p = get_or ts n [] ≡ get_or ts p.0 [] ++ get_or ts p.1 []

-- the pair k of those that follow n strands
whole_from : (ts : List (List ℕ)) (n k : ℕ) (ps : List (ℕ × ℕ)) → length ts ≡ n → older_from n ps ≡ true → k < length ps → Whole (tapes_from ts ps) (n + k) (get_or ps k (0, 0))
unfolding Whole
whole_from ts n k [] e o h = absurd (omega arith)
whole_from ts n zero (p ∷ ps) e o h =
    let (left, right, rest) = older_parts n p ps o in
    let g : n < length (with_pair ts p) = simp length-append (omega arith) in
    let l = tapes_from_stays (with_pair ts p) ps p.0 (omega arith) ∙ get_or_append_left ts _ [] p.0 (omega arith) in
    let r = tapes_from_stays (with_pair ts p) ps p.1 (omega arith) ∙ get_or_append_left ts _ [] p.1 (omega arith) in
    let z : n + 0 ≡ n = omega arith in
    let y : n - n ≡ 0 = omega arith in
    let new = get_or ts p.0 [] ++ get_or ts p.1 [] in
    let at = tapes_from_stays (with_pair ts p) ps n g ∙ get_or-append_right ts (new ∷ []) n n [] e (omega arith) ∙ ap (λ i. get_or (new ∷ []) i []) y in
    ap (λ i. get_or (tapes_from (with_pair ts p) ps) i []) z ∙ at ∙ sym (ap (λ x. x ++ get_or (tapes_from (with_pair ts p) ps) p.1 []) l ∙ ap (λ x. get_or ts p.0 [] ++ x) r)
whole_from ts n (suc k) (p ∷ ps) e o h =
    let (left, right, rest) = older_parts n p ps o in
    let z : (n + 1) + k ≡ n + suc k = omega arith in
    subst (λ i. Whole (tapes_from (with_pair ts p) ps) i (get_or ps k (0, 0))) z (whole_from (with_pair ts p) (n + 1) k ps (simp length-append (omega arith)) rest (omega arith))

pub pair_tapes : PairTapes
unfolding tapes well_joined Whole
pair_tapes ps k o h = whole_from byte_tapes 256 k ps length-byte_tapes o h
