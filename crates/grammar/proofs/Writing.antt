-- What one write after another leaves in a buffer.
use Rattle.std.proofs.Common.{◌≡◌, ℕ, ◌+◌, ◌≤◌, List, [], ◌++◌, length, take, drop, sym, ap, ◌∙◌, append_assoc, arith, length-append, take-append-drop}
use borrow.Rule.Slice.PartMut.{put_mid}
use Rattle.std.proofs.lemmas.List.{take_at, drop_at, drop-drop, length-take-le}
use Rattle.grammar.specs.Buffers.{written}

-- a second write directly behind the first
pub written_more : (xs : List ℕ) (at n : ℕ) (ys zs : List ℕ) → at ≤ length xs → n ≡ at + length ys → written (written xs at ys) n zs ≡ written xs at (ys ++ zs)
unfolding written
written_more xs at n ys zs h e =
    let front = take at xs ++ ys in
    let rest = drop (at + length ys) xs in
    let long : length front ≡ n = length-append (take at xs) ys ∙ omega (arith, length-take-le at xs h) in
    let whole : written xs at ys ≡ front ++ rest = sym (append_assoc (take at xs) ys rest) in
    let kept : take n (written xs at ys) ≡ front = ap (take n) whole ∙ take_at front rest n long in
    let more : drop (n + length zs) (written xs at ys) ≡ drop (at + length (ys ++ zs)) xs =
    ap (drop (n + length zs)) whole ∙ sym (drop-drop (length zs) n (front ++ rest)) ∙ ap (drop (length zs)) (drop_at front rest n long)
    ∙ drop-drop (length zs) (at + length ys) xs ∙ ap (λ k. drop k xs) (omega (arith, length-append ys zs)) in
    ap (λ l. l ++ (zs ++ drop (n + length zs) (written xs at ys))) kept
    ∙ ap (λ l. front ++ (zs ++ l)) more
    ∙ append_assoc (take at xs) ys (zs ++ drop (at + length (ys ++ zs)) xs)
    ∙ ap (λ l. take at xs ++ l) (sym (append_assoc ys zs (drop (at + length (ys ++ zs)) xs)))

-- what a write to a part `buffer[at..at + k]` leaves
pub written_part : (xs : List ℕ) (at k : ℕ) (ys zs : List ℕ) → ys ≡ zs → k ≡ length zs → put_mid at k xs ys ≡ written xs at zs
unfolding written
written_part xs at k ys zs e l =
    let rest : drop k (drop at xs) ≡ drop (at + length zs) xs = drop-drop k at xs ∙ ap (λ n. drop (at + n) xs) l in cc

-- the same of buffers that are known by what was written: ys after the first write to xs, zs after the second
pub then_written : (xs front back : List ℕ) {ys zs : List ℕ} {at n : ℕ} → at ≤ length xs → n ≡ at + length front → ys ≡ written xs at front → zs ≡ written ys n back → zs ≡ written xs at (front ++ back)
then_written xs front back {ys} {zs} {at} {n} h e first second = second ∙ ap (λ b. written b n back) first ∙ written_more xs at n front back h e

-- to write nothing changes nothing
pub written_none : (xs : List ℕ) (at : ℕ) → written xs at [] ≡ xs
unfolding written
written_none xs at = ap (λ n. take at xs ++ drop n xs) (omega arith) ∙ take-append-drop at xs

-- what was written at the beginning is read there
pub written_front : (xs ys : List ℕ) (n : ℕ) → n ≡ length ys → take n (written xs 0 ys) ≡ ys
unfolding written
written_front xs ys n e = take_at ys (drop (0 + length ys) xs) n (sym e)
