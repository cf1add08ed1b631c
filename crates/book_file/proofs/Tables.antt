-- Tables of records of one width.
use Rattle.std.proofs.Common.{◌≡◌, ℕ, ◌*◌, List, [], ◌∷◌, ◌++◌, length, take, drop, sym, refl, ap, ◌∙◌, mul-zero, mul-suc, arith, length-append}
use Rattle.std.specs.List.{flat_map}
use Rattle.std.proofs.lemmas.List.{take_at, drop_at}

-- two lists cut at the same length
pub same_parts : {X : Type 0} (xs ys us vs : List X) → length xs ≡ length ys → xs ++ us ≡ ys ++ vs → (xs ≡ ys) × (us ≡ vs)
same_parts xs ys us vs l e = (
  sym (take_at xs us (length ys) l) ∙ ap (take (length ys)) e ∙ take_at ys vs (length ys) refl,
  sym (drop_at xs us (length ys) l) ∙ ap (drop (length ys)) e ∙ drop_at ys vs (length ys) refl,
)

module _ {X : Type 0} (f : X → List ℕ) (w : ℕ) (fixed : (x : X) → length (f x) ≡ w) where
  pub length_table : (xs : List X) → length (flat_map f xs) ≡ w * length xs
  length_table [] = sym (mul-zero w)
  length_table (x ∷ xs) = length-append (f x) (flat_map f xs) ∙ omega (arith, fixed x, length_table xs, mul-suc w (length xs))

  -- a table tells its records
  pub same_table : ((x y : X) → f x ≡ f y → x ≡ y) → (xs ys : List X) → length xs ≡ length ys → flat_map f xs ≡ flat_map f ys → xs ≡ ys
  same_table one [] [] l e = refl
  same_table one [] (y ∷ ys) l e = absurd (omega arith)
  same_table one (x ∷ xs) [] l e = absurd (omega arith)
  same_table one (x ∷ xs) (y ∷ ys) l e =
      let p = same_parts (f x) (f y) (flat_map f xs) (flat_map f ys) (fixed x ∙ sym (fixed y)) e in
      let head = one x y p.0 in
      let tail = same_table one xs ys (omega arith) p.1 in cc
