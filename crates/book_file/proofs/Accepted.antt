-- What is accepted is the file of a content, and no longer than the largest.
use Rattle.std.proofs.Common.{◌≡◌, ℕ, zero, suc, ◌+◌, ◌*◌, ◌≤◌, List, [], ◌∷◌, ◌++◌, length, take, drop, None, sym, refl, ap, ◌∙◌, ⊎_elim, mul-zero, mul-suc, arith, length-drop, take-append-drop}
use Rattle.std.specs.List.{flat_map}
use Rattle.std.proofs.lemmas.List.{append-nil, nil_from_length, get_or-drop, get_or-take, get_or_past, length-take-le}
use Rattle.std.proofs.lemmas.Bool.{cases_lt}
use Rattle.std.proofs.lemmas.Bool.Decides.{nat_tests}
use Rattle.grammar.specs.Refusals.{first_of}
use Rattle.grammar.specs.declared.strands.Pair.{Pair}
use Rattle.book_file.specs.Laws.{AcceptedBytesAreFiles, LargestFile}
use Rattle.book_file.specs.Layout.{pair_bytes, line_bytes, field, header_in, header_faults, layout_fault}
use Rattle.book_file.specs.declared.records.LineRecord.{LineRecord}
use Rattle.book_file.proofs.Files.{faultless, limits, opened, spelled}
use Rattle.book_file.proofs.Numbers.{Bytes}
use Rattle.book_file.proofs.Fronts.{pair_at, line_at, header_at}

bytes_drop : (n : ℕ) (bs : List ℕ) → Bytes bs → Bytes (drop n bs)
bytes_drop n bs b i = rw (get_or-drop n bs i 0) (b (n + i))

bytes_take : (n : ℕ) (bs : List ℕ) → n ≤ length bs → Bytes bs → Bytes (take n bs)
bytes_take n bs h b i =
    ⊎_elim
    (λ l. rw (get_or-take n bs i 0 l) (b i))
    (λ l. rw (get_or_past (take n bs) i 0 (omega (arith, length-take-le n bs h))) (omega arith))
    (cases_lt i n)

-- a table of n records, where each can be read
table_of : {X : Type 0} (f : X → List ℕ) (w : ℕ) → ((bs : List ℕ) → Bytes bs → w ≤ length bs → (x : X) × (bs ≡ f x ++ drop w bs)) → (n : ℕ) (bs : List ℕ) → Bytes bs → length bs ≡ w * n → (xs : List X) × (flat_map f xs ≡ bs)
table_of f w read zero bs b l = ([], sym (nil_from_length bs (l ∙ mul-zero w)))
table_of f w read (suc n) bs b l =
    let h : w ≤ length bs = omega (arith, mul-suc w n) in
    let (x, cut) = read bs b h in
    let (xs, rest) = table_of f w read n (drop w bs) (bytes_drop w bs b) (length-drop w bs ∙ omega (arith, mul-suc w n)) in
    (x ∷ xs, ap (λ t. f x ++ t) rest ∙ sym cut)

read_pair : (bs : List ℕ) → Bytes bs → 4 ≤ length bs → (x : Pair) × (bs ≡ pair_bytes x ++ drop 4 bs)
read_pair bs b h = let x : Pair = record { left = record { 0 = field 2 0 bs }; right = record { 0 = field 2 2 bs } } in (x, pair_at bs (drop 4 bs) b x h refl refl refl)

read_line : (bs : List ℕ) → Bytes bs → 8 ≤ length bs → (x : LineRecord) × (bs ≡ line_bytes x ++ drop 8 bs)
read_line bs b h = let x : LineRecord = record { number = field 2 0 bs; strand = record { 0 = field 2 2 bs }; length = field 4 4 bs } in (x, line_at bs (drop 8 bs) b x h refl refl refl refl)

accepted_parts : (bytes : List ℕ) → layout_fault bytes ≡ None → (16 ≤ length bytes) × (first_of (header_faults (header_in bytes) (length bytes)) ≡ None)
unfolding layout_fault
accepted_parts bytes e = (grind (arith, nat_tests), grind (arith, nat_tests))

pub largest_file : LargestFile
largest_file = (
  refl,
  λ bytes e.
      let p = accepted_parts bytes e in
      let is = faultless (header_in bytes) (length bytes) p.1 in
      let most = limits (header_in bytes) (length bytes) p.1 in
      omega (arith, is.1, most.0, most.1),
)

pub accepted_bytes_are_files : AcceptedBytesAreFiles
accepted_bytes_are_files bytes b e =
    let p = accepted_parts bytes e in
    let h = header_in bytes in
    let rest = drop 16 bytes in
    let cut = 4 * h.pairs in
    let is = faultless h (length bytes) p.1 in
    let long = length-drop 16 bytes in
    let inside : cut ≤ length rest = omega (arith, is.1, long) in
    let front = length-take-le cut rest inside in
    let back = length-drop cut rest in
    let o = opened bytes h rest (take cut rest) (drop cut rest) (header_at bytes rest b h p.0 refl refl refl refl refl refl) p.1 (sym (take-append-drop cut rest)) front in
    let (pairs, pairs_table) = table_of pair_bytes 4 read_pair h.pairs (take cut rest) (bytes_take cut rest inside (bytes_drop 16 bytes b)) front in
    let (lines, lines_table) = table_of line_bytes 8 read_line h.lines (drop cut rest) (bytes_drop cut rest (bytes_drop 16 bytes b)) o.lines in
    (pairs, lines, spelled o pairs [] (append-nil (flat_map pair_bytes pairs) ∙ pairs_table) (omega arith) lines [] (append-nil (flat_map line_bytes lines) ∙ lines_table) (omega arith))
