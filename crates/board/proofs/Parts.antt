-- Tables whose elements are changed.
use Rattle.std.proofs.Common.{◌≡◌, ℕ, suc, ◌+◌, ◌<◌, List, [], ◌∷◌, ◌++◌, map, length, set, get_or, take, drop, refl, sym, ◌∙◌, subst, arith, add-one, drop-cons}
use Rattle.std.specs.List.{AllZip}
use Rattle.std.proofs.lemmas.List.{take_more, take_more_set, drop-set-lt}
use Rattle.std.proofs.lemmas.Slice.Zip.{all_zipped_more}

-- one element more is changed
pub part_more : {X : Type 0} (R : X → X → Type 0) (xs ys : List X) (i : ℕ) (x y : X) → i < length xs → length ys ≡ length xs → AllZip R (take i xs) (take i ys) × (drop i ys ≡ drop i xs) → x ≡ get_or ys i x → R x y → AllZip R (take (i + 1) xs) (take (i + 1) (set ys i y)) × (drop (i + 1) (set ys i y) ≡ drop (i + 1) xs)
part_more R xs ys i x y h long part is changed =
    let low : i < length ys = omega arith in
    let of_xs : drop i xs ≡ get_or xs i x ∷ drop (i + 1) xs = rw add-one (drop-cons xs i x h) in
    let of_ys : drop i ys ≡ get_or ys i x ∷ drop (i + 1) ys = rw add-one (drop-cons ys i x low) in
    let rest : get_or ys i x ∷ drop (i + 1) ys ≡ get_or xs i x ∷ drop (i + 1) xs = sym of_ys ∙ (part.1 ∙ of_xs) in
    let same : get_or xs i x ≡ x = cc in
    let after : drop (i + 1) ys ≡ drop (i + 1) xs = cc in
    let front : take (i + 1) xs ≡ take i xs ++ x ∷ [] = rw same at (take_more xs i x h) in
    let P : List _ → Type 0 = λ zs. AllZip R zs (take i ys ++ y ∷ []) in
    let Q : List _ → Type 0 = λ zs. AllZip R (take (i + 1) xs) zs in
    (subst Q (sym (take_more_set ys i y low)) (subst P (sym front) (all_zipped_more R (take i xs) (take i ys) x y part.0 changed)), drop-set-lt (i + 1) ys i y (omega arith) ∙ after)

-- a change that is a function of the element
pub changed_by : {X : Type 0} (R : X → X → Type 0) (f : X → X) (xs ys : List X) → ((x y : X) → R x y → y ≡ f x) → AllZip R xs ys → ys ≡ map f xs
changed_by R f [] [] is h = refl
changed_by R f [] (y ∷ ys) is h = absurd h
changed_by R f (x ∷ xs) [] is h = absurd h
changed_by R f (x ∷ xs) (y ∷ ys) is h =
    let here : y ≡ f x = is x y h.0 in
    let rest : ys ≡ map f xs = changed_by R f xs ys is h.1 in
    cc

-- two changes that agree on each element of a table
pub map_same : {X : Type 0} (f g : X → X) (xs : List X) (d : X) → ((k : ℕ) → k < length xs → f (get_or xs k d) ≡ g (get_or xs k d)) → map f xs ≡ map g xs
map_same f g [] d h = refl
map_same f g (x ∷ xs) d h =
    let here : f x ≡ g x = h 0 (omega arith) in
    let rest : map f xs ≡ map g xs = map_same f g xs d (λ k lt. h (suc k) (omega arith)) in
    cc
