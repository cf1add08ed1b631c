-- Laws of the file of a content.
use Rattle.std.proofs.Common.{◌≡◌, ℕ, zero, suc, ◌+◌, ◌*◌, ◌/◌, ◌%◌, ◌<◌, ◌≤◌, List, ◌++◌, length, take, Some, None, sym, refl, ap, ◌∙◌, ⊎_elim, arith, length-append}
use Rattle.std.specs.List.{flat_map}
use Rattle.std.proofs.lemmas.List.{append-nil, nil_from_length, take_all, get_or-take, length-take-le}
use Rattle.std.proofs.lemmas.Bool.{cases_lt, le-ltb, lt-ltb}
use Rattle.std.proofs.lemmas.Bool.Decides.{nat_tests}
use Rattle.grammar.specs.Limits.{max_pairs, max_lines, max_file}
use Rattle.grammar.specs.Refusals.{first_of}
use Rattle.grammar.specs.declared.refusals.Refusal.TheVariants.{FileShort}
use Rattle.grammar.specs.declared.strands.Pair.{Pair}
use Rattle.grammar.specs.declared.strands.Strand.{Strand}
use Rattle.book_file.specs.Contents.{Opened}
use Rattle.book_file.specs.Laws.{FileTellsContent, FilesAreAccepted, LongFilesReadAlike}
use Rattle.book_file.specs.Layout.{two, four, pair_bytes, line_bytes, header_bytes, header_of, size_of, file_of, field, header_in, header_faults, layout_fault, encode_fault}
use Rattle.book_file.specs.declared.records.Header.{Header}
use Rattle.book_file.specs.declared.records.LineRecord.{LineRecord}
use Rattle.book_file.proofs.Tables.{same_parts, length_table, same_table}

-- a number is told by its bytes
two_tells : (m n : ℕ) → two m ≡ two n → m ≡ n
two_tells m n e =
    let low : m % 256 ≡ n % 256 = cc in
    let high : m / 256 ≡ n / 256 = cc in omega arith

four_tells : (m n : ℕ) → four m ≡ four n → m ≡ n
four_tells m n e =
    let p = same_parts (two (m % 65536)) (two (n % 65536)) (two (m / 65536)) (two (n / 65536)) refl e in
    let low = two_tells (m % 65536) (n % 65536) p.0 in
    let high = two_tells (m / 65536) (n / 65536) p.1 in omega arith

same_strand : (a b : Strand) → a.0 ≡ b.0 → a ≡ b
same_strand a b e = ap (λ n. record { 0 = n }) e

pair_tells : (x y : Pair) → pair_bytes x ≡ pair_bytes y → x ≡ y
pair_tells x y e =
    let p = same_parts (two x.left.0) (two y.left.0) (two x.right.0) (two y.right.0) refl e in
    let left = same_strand x.left y.left (two_tells _ _ p.0) in
    let right = same_strand x.right y.right (two_tells _ _ p.1) in
    let same : ◌≡◌ {A = Pair} (record { left = x.left; right = x.right }) (record { left = y.left; right = y.right }) = cc in same

line_tells : (x y : LineRecord) → line_bytes x ≡ line_bytes y → x ≡ y
line_tells x y e =
    let p = same_parts (two x.number) (two y.number) (two x.strand.0 ++ four x.length) (two y.strand.0 ++ four y.length) refl e in
    let q = same_parts (two x.strand.0) (two y.strand.0) (four x.length) (four y.length) refl p.1 in
    let number = two_tells x.number y.number p.0 in
    let strand = same_strand x.strand y.strand (two_tells _ _ q.0) in
    let tape = four_tells x.length y.length q.1 in
    let same : ◌≡◌ {A = LineRecord} (record { number = x.number; strand = x.strand; length = x.length }) (record { number = y.number; strand = y.strand; length = y.length }) = cc in same

-- the number in a field that was written
two_reads : (n : ℕ) → n % 256 + 256 * (n / 256 + 256 * 0) ≡ n
two_reads n = omega arith

four_reads : (n : ℕ) → n % 65536 % 256 + 256 * (n % 65536 / 256 + 256 * (n / 65536 % 256 + 256 * (n / 65536 / 256 + 256 * 0))) ≡ n
four_reads n =
    let low = two_reads (n % 65536) in
    let high = two_reads (n / 65536) in omega arith

same_header : (g h : Header) → g.size ≡ h.size → g.pairs ≡ h.pairs → g.lines ≡ h.lines → g.pair_table ≡ h.pair_table → g.line_table ≡ h.line_table → g ≡ h
same_header g h a b c d e =
    let same : ◌≡◌ {A = Header}
    (record { size = g.size; pairs = g.pairs; lines = g.lines; pair_table = g.pair_table; line_table = g.line_table })
    (record { size = h.size; pairs = h.pairs; lines = h.lines; pair_table = h.pair_table; line_table = h.line_table }) = cc in same

-- the header that a file's first bytes spell is the one that was written
pub header_in_lem : (h : Header) (rest : List ℕ) → header_in (header_bytes h ++ rest) ≡ h
header_in_lem h rest = same_header (header_in (header_bytes h ++ rest)) h (four_reads h.size) (two_reads h.pairs) (two_reads h.lines) (four_reads h.pair_table) (four_reads h.line_table)

pub length_pairs : (ps : List Pair) → length (flat_map pair_bytes ps) ≡ 4 * length ps
length_pairs ps = length_table pair_bytes 4 (λ p. refl) ps

length_lines : (ls : List LineRecord) → length (flat_map line_bytes ls) ≡ 8 * length ls
length_lines ls = length_table line_bytes 8 (λ l. refl) ls

pub length_file : (ps : List Pair) (ls : List LineRecord) → length (file_of ps ls) ≡ size_of (length ps) (length ls)
unfolding file_of
length_file ps ls = omega (arith, length-append (flat_map pair_bytes ps) (flat_map line_bytes ls), length_pairs ps, length_lines ls)

pub file_tells_content : FileTellsContent
unfolding file_of
file_tells_content ps ps' ls ls' e =
    let h = header_of (length ps) (length ls) in
    let h' = header_of (length ps') (length ls') in
    let tables = flat_map pair_bytes ps ++ flat_map line_bytes ls in
    let tables' = flat_map pair_bytes ps' ++ flat_map line_bytes ls' in
    let same : h ≡ h' = sym (header_in_lem h tables) ∙ ap header_in e ∙ header_in_lem h' tables' in
    let pairs : length ps ≡ length ps' = ap (λ g. g.pairs) same in
    let lines : length ls ≡ length ls' = ap (λ g. g.lines) same in
    let behind = same_parts (header_bytes h) (header_bytes h') tables tables' refl e in
    let parts = same_parts (flat_map pair_bytes ps) (flat_map pair_bytes ps') (flat_map line_bytes ls) (flat_map line_bytes ls') (length_pairs ps ∙ ap (λ n. 4 * n) pairs ∙ sym (length_pairs ps')) behind.1 in
    (same_table pair_bytes 4 (λ p. refl) pair_tells ps ps' pairs parts.0, same_table line_bytes 8 (λ l. refl) line_tells ls ls' lines parts.1)

-- the checks pass on the header of a file and its size
sound_header : (p q n : ℕ) → p ≤ max_pairs → q ≤ max_lines → n ≡ size_of p q → first_of (header_faults (header_of p q) n) ≡ None
sound_header p q n a b e = grind (arith, nat_tests)

pub files_are_accepted : FilesAreAccepted
unfolding file_of layout_fault
files_are_accepted ps ls a b =
    let file = file_of ps ls in
    let h = header_of (length ps) (length ls) in
    let header : header_in file ≡ h = header_in_lem h (flat_map pair_bytes ps ++ flat_map line_bytes ls) in
    let long = le-ltb (length file) 16 (omega (arith, length_file ps ls)) in
    let sound = sound_header (length ps) (length ls) (length file) a b (length_file ps ls) in
    let faults : first_of (header_faults (header_in file) (length file)) ≡ None = ap (λ g. first_of (header_faults g (length file))) header ∙ sound in cc

-- what is encoded is within the limits and fits the buffer
pub encodes : (p q n : ℕ) → encode_fault p q n ≡ None → (p ≤ max_pairs) × (q ≤ max_lines) × (size_of p q ≤ n)
encodes p q n e = (grind (arith, nat_tests), grind (arith, nat_tests), grind (arith, nat_tests))

-- bytes that begin with a header have the faults of that header
pub header_faults_lem : (bytes : List ℕ) (h : Header) (rest : List ℕ) → bytes ≡ header_bytes h ++ rest → layout_fault bytes ≡ first_of (header_faults h (length bytes))
unfolding layout_fault
header_faults_lem bytes h rest e =
    let header : header_in bytes ≡ h = ap header_in e ∙ header_in_lem h rest in
    let long = le-ltb (length bytes) 16 (omega (arith, ap length e)) in
    let faults = ap (λ g. first_of (header_faults g (length bytes))) header in cc

-- a header with no fault is that of a file of its pairs and lines
pub faultless : (h : Header) (n : ℕ) → first_of (header_faults h n) ≡ None → (h ≡ header_of h.pairs h.lines) × (n ≡ size_of h.pairs h.lines)
faultless h n e =
    let pairs : h.pair_table ≡ 16 = grind (arith, nat_tests) in
    let lines : h.line_table ≡ 16 + 4 * h.pairs = grind (arith, nat_tests) in
    let size : h.size ≡ size_of h.pairs h.lines = grind (arith, nat_tests) in
    let all : n ≡ h.size = grind (arith, nat_tests) in
    (same_header h (header_of h.pairs h.lines) size refl refl pairs lines, omega arith)

-- the tables of a file
pub opened : (bytes : List ℕ) (h : Header) (rest pairs lines : List ℕ) → bytes ≡ header_bytes h ++ rest → first_of (header_faults h (length bytes)) ≡ None → rest ≡ pairs ++ lines → length pairs ≡ 4 * h.pairs → Opened bytes h.pairs h.lines pairs lines
opened bytes h rest pairs lines e none cut long =
    let is = faultless h (length bytes) none in
    let all = ap length e in
    let parts = ap length cut ∙ length-append pairs lines in
    record {
      accepted = header_faults_lem bytes h rest e ∙ none;
      pairs = long;
      lines = omega (arith, is.1);
      whole = e ∙ ap (λ r. header_bytes h ++ r) cut ∙ ap (λ g. header_bytes g ++ (pairs ++ lines)) is.0;
    }

-- the lengths of its tables tell how many pairs and lines a file has
pub opened_lengths : {bytes : List ℕ} {p q : ℕ} {pairs lines : List ℕ} → Opened bytes p q pairs lines → Opened bytes (length pairs / 4) (length lines / 8) pairs lines
opened_lengths {bytes} {p} {q} {pairs} {lines} o =
    let pair_count : length pairs / 4 ≡ p = omega (arith, o.pairs) in
    let line_count : length lines / 8 ≡ q = omega (arith, o.lines) in rw (pair_count, line_count) o

-- tables read whole are those of a file
pub spelled : {bytes : List ℕ} {p q : ℕ} {pairs_table lines_table : List ℕ} → Opened bytes p q pairs_table lines_table
    → (ps : List Pair) (pair_rest : List ℕ) → flat_map pair_bytes ps ++ pair_rest ≡ pairs_table → length pair_rest < 4
    → (ls : List LineRecord) (line_rest : List ℕ) → flat_map line_bytes ls ++ line_rest ≡ lines_table → length line_rest < 8
    → file_of ps ls ≡ bytes
unfolding file_of
spelled {bytes} {p} {q} {pairs_table} {lines_table} o ps pair_rest a pair_short ls line_rest b line_short =
    let pairs = ap length a ∙ o.pairs in
    let lines = ap length b ∙ o.lines in
    let pair_count : length ps ≡ p = omega (arith, pairs, length-append (flat_map pair_bytes ps) pair_rest, length_pairs ps) in
    let line_count : length ls ≡ q = omega (arith, lines, length-append (flat_map line_bytes ls) line_rest, length_lines ls) in
    let no_pairs = nil_from_length pair_rest (omega (arith, pairs, length-append (flat_map pair_bytes ps) pair_rest, length_pairs ps)) in
    let no_lines = nil_from_length line_rest (omega (arith, lines, length-append (flat_map line_bytes ls) line_rest, length_lines ls)) in
    let whole_pairs : flat_map pair_bytes ps ≡ pairs_table = sym (append-nil (flat_map pair_bytes ps)) ∙ ap (λ r. flat_map pair_bytes ps ++ r) (sym no_pairs) ∙ a in
    let whole_lines : flat_map line_bytes ls ≡ lines_table = sym (append-nil (flat_map line_bytes ls)) ∙ ap (λ r. flat_map line_bytes ls ++ r) (sym no_lines) ∙ b in
    let header : header_of (length ps) (length ls) ≡ header_of p q = ap (λ n. header_of n (length ls)) pair_count ∙ ap (header_of p) line_count in
    ap (λ g. header_bytes g ++ (flat_map pair_bytes ps ++ flat_map line_bytes ls)) header
    ∙ ap (λ t. header_bytes (header_of p q) ++ (t ++ flat_map line_bytes ls)) whole_pairs
    ∙ ap (λ t. header_bytes (header_of p q) ++ (pairs_table ++ t)) whole_lines
    ∙ sym o.whole

-- fewer bytes than a header has
pub too_short : (bytes : List ℕ) → length bytes < 16 → layout_fault bytes ≡ Some (FileShort (length bytes))
unfolding layout_fault
too_short bytes h = let short = lt-ltb (length bytes) 16 h in cc

-- a header with no fault is within the limits
pub limits : (h : Header) (n : ℕ) → first_of (header_faults h n) ≡ None → (h.pairs ≤ max_pairs) × (h.lines ≤ max_lines)
limits h n none = (grind (arith, nat_tests), grind (arith, nat_tests))

-- a file that is accepted is within the limits
pub within_limits : (ps : List Pair) (ls : List LineRecord) → layout_fault (file_of ps ls) ≡ None → (length ps ≤ max_pairs) × (length ls ≤ max_lines)
unfolding file_of
within_limits ps ls e =
    let h = header_of (length ps) (length ls) in
    let none : first_of (header_faults h (length (file_of ps ls))) ≡ None = sym (header_faults_lem (file_of ps ls) h (flat_map pair_bytes ps ++ flat_map line_bytes ls) refl) ∙ e in
    limits h (length (file_of ps ls)) none

-- beyond the largest file the byte count does not matter
long_alike : (h : Header) (m n : ℕ) → max_file < m → max_file < n → first_of (header_faults h m) ≡ first_of (header_faults h n)
long_alike h m n a b = grind (arith, nat_tests)

-- a field within the first n bytes
field_take : (w k n : ℕ) (bytes : List ℕ) → k + w ≤ n → field w k (take n bytes) ≡ field w k bytes
field_take zero k n bytes h = refl
field_take (suc w) k n bytes h =
    let first = get_or-take n bytes k 0 (omega arith) in
    let rest = field_take w (k + 1) n bytes (omega arith) in cc

same_header_in : (n : ℕ) (bytes : List ℕ) → 16 ≤ n → header_in (take n bytes) ≡ header_in bytes
same_header_in n bytes h =
    same_header (header_in (take n bytes)) (header_in bytes)
    (field_take 4 0 n bytes (omega arith)) (field_take 2 4 n bytes (omega arith)) (field_take 2 6 n bytes (omega arith))
    (field_take 4 8 n bytes (omega arith)) (field_take 4 12 n bytes (omega arith))

pub long_files_read_alike_lem : LongFilesReadAlike
unfolding layout_fault
long_files_read_alike_lem bytes = ⊎_elim whole cut (cases_lt (length bytes) (max_file + 1))
  where
    whole : length bytes < max_file + 1 → layout_fault (take (max_file + 1) bytes) ≡ layout_fault bytes
    whole h = ap layout_fault (take_all (max_file + 1) bytes (omega arith))

    cut : max_file + 1 ≤ length bytes → layout_fault (take (max_file + 1) bytes) ≡ layout_fault bytes
    cut h =
        let front = take (max_file + 1) bytes in
        let long : length front ≡ max_file + 1 = length-take-le (max_file + 1) bytes h in
        let a = le-ltb (length front) 16 (omega arith) in
        let b = le-ltb (length bytes) 16 (omega arith) in
        let header = ap (λ g. first_of (header_faults g (length front))) (same_header_in (max_file + 1) bytes (omega arith)) in
        let alike = long_alike (header_in bytes) (length front) (length bytes) (omega arith) (omega arith) in cc
