-- Numbers of two and four bytes, low byte first.
use Rattle.std.proofs.Common.{◌≡◌, ℕ, ◌+◌, ◌*◌, ◌/◌, ◌%◌, ◌<◌, ◌≤◌, List, [], ◌∷◌, ◌++◌, length, get_or, drop, ap, arith}
use Rattle.std.proofs.lemmas.List.{drop_more}
use Rattle.book_file.specs.Layout.{two, four, field}

pub two_is : (a b n : ℕ) → a < 256 → n ≡ a + b * 256 → two n ≡ a ∷ b ∷ []
two_is a b n h e =
    let low : n % 256 ≡ a = omega arith in
    let high : n / 256 ≡ b = omega arith in cc

-- a list of bytes
abbrev pub Bytes : List ℕ → Type 0
Bytes bs = (i : ℕ) → get_or bs i 0 < 256

-- the number in a field, and the rest
module _ (bs : List ℕ) (bytes : Bytes bs) where
  pub two_at : (k n : ℕ) → k + 2 ≤ length bs → n ≡ field 2 k bs → drop k bs ≡ two n ++ drop (k + 2) bs
  two_at k n h e =
      let first = drop_more bs k 0 (omega arith) in
      let second = drop_more bs (k + 1) 0 (omega arith) in
      let z : k + 1 + 1 ≡ k + 2 = omega arith in
      let t = two_is (get_or bs k 0) (get_or bs (k + 1) 0) n (bytes k) (omega arith) in cc

  pub four_at : (k n : ℕ) → k + 4 ≤ length bs → n ≡ field 4 k bs → drop k bs ≡ four n ++ drop (k + 4) bs
  four_at k n h e =
      let a = bytes k in
      let b = bytes (k + 1) in
      let z : k + 1 + 1 ≡ k + 2 = omega arith in
      let tail = ap (λ i. field 2 i bs) z in
      let low = two_at k (n % 65536) (omega arith) (omega arith) in
      let y : k + 2 + 2 ≡ k + 4 = omega arith in
      let high = two_at (k + 2) (n / 65536) (omega arith) (omega arith) in
      let rest = ap (λ i. drop i bs) y in cc

-- the bytes of a number that fits them
pub bytes_of_two : (n : ℕ) → n < 65536 → n % 256 ∷ n / 256 % 256 ∷ [] ≡ two n
bytes_of_two n h = let high : n / 256 % 256 ≡ n / 256 = omega arith in cc

pub bytes_of_four : (n : ℕ) → n < 4294967296 → n % 256 ∷ n / 256 % 256 ∷ n / 65536 % 256 ∷ n / 16777216 % 256 ∷ [] ≡ four n
bytes_of_four n h =
    let first : n % 65536 % 256 ≡ n % 256 = omega arith in
    let second : n % 65536 / 256 ≡ n / 256 % 256 = omega arith in
    let top : n / 65536 / 256 ≡ n / 16777216 % 256 = omega arith in cc
