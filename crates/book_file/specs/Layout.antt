-- The book file: which bytes a content has, and why bytes are no book file.
use Rattle.std.specs.Prelude.{ℕ, zero, suc, ◌+◌, ◌*◌, ◌/◌, ◌%◌, Bool, not, List, [], ◌∷◌, ◌++◌, length, Option, ◌==◌, nat_lt, slice_index}
use Rattle.std.specs.List.{flat_map}
use Rattle.grammar.specs.Limits.{max_pairs, max_lines}
use Rattle.grammar.specs.Refusals.{first_of}
use Rattle.grammar.specs.declared.refusals.Refusal.{Refusal}
use Rattle.grammar.specs.declared.refusals.Refusal.TheVariants.{FileShort, BadHeader, TooSmall}
use Rattle.grammar.specs.declared.strands.Pair.{Pair}
use Rattle.book_file.specs.declared.records.Header.{Header}
use Rattle.book_file.specs.declared.records.LineRecord.{LineRecord}

-- a number of two bytes, and one of four: low byte first. The top byte is all that is left, a byte where the number fits
abbrev pub two : ℕ → List ℕ
two n = n % 256 ∷ n / 256 ∷ []

abbrev pub four : ℕ → List ℕ
four n = two (n % 65536) ++ two (n / 65536)

-- a pair record: left, right
abbrev pub pair_bytes : Pair → List ℕ
pair_bytes pair = two pair.left.0 ++ two pair.right.0

-- a line record: line number, strand, tape length
abbrev pub line_bytes : LineRecord → List ℕ
line_bytes line = two line.number ++ (two line.strand.0 ++ four line.length)

-- a header: file size, pairs, lines, offset of the pair table, offset of the line table
abbrev pub header_bytes : Header → List ℕ
header_bytes h = four h.size ++ (two h.pairs ++ (two h.lines ++ (four h.pair_table ++ four h.line_table)))

-- the size of the file of p pairs and q lines
abbrev pub size_of : ℕ → ℕ → ℕ
size_of p q = 16 + 4 * p + 8 * q

-- the header of the file of p pairs and q lines
abbrev pub header_of : ℕ → ℕ → Header
header_of p q = record { size = size_of p q; pairs = p; lines = q; pair_table = 16; line_table = 16 + 4 * p }

-- the file of a content: its header, the pair records, the line records
unfoldable pub file_of : List Pair → List LineRecord → List ℕ
file_of pairs lines = header_bytes (header_of (length pairs) (length lines)) ++ (flat_map pair_bytes pairs ++ flat_map line_bytes lines)

-- the number that w bytes from the offset k on spell, low byte first
abbrev pub field : ℕ → ℕ → List ℕ → ℕ
field zero k bytes = 0
field (suc w) k bytes = slice_index bytes k + 256 * field w (k + 1) bytes

-- the header that the first 16 bytes spell
abbrev pub header_in : List ℕ → Header
header_in bytes = record { size = field 4 0 bytes; pairs = field 2 4 bytes; lines = field 2 6 bytes; pair_table = field 4 8 bytes; line_table = field 4 12 bytes }

-- more pairs or lines than there may be
abbrev pub limit_faults : ℕ → ℕ → List (Bool × Refusal)
limit_faults p q = (nat_lt max_pairs p, BadHeader 4) ∷ (nat_lt max_lines q, BadHeader 6) ∷ []

-- what can be wrong with a file of n bytes by its header, in the order of the checks
abbrev pub header_faults : Header → ℕ → List (Bool × Refusal)
header_faults h n =
    limit_faults h.pairs h.lines
    ++ ((not (h.pair_table == 16), BadHeader 8)
    ∷ (not (h.line_table == 16 + 4 * h.pairs), BadHeader 12)
    ∷ (not (h.size == size_of h.pairs h.lines), BadHeader 0)
    ∷ (nat_lt n h.size, FileShort n)
    ∷ (nat_lt h.size n, BadHeader h.size)
    ∷ [])

-- what can be wrong with a file, in the order of the checks
abbrev pub layout_faults : List ℕ → List (Bool × Refusal)
layout_faults bytes = (nat_lt (length bytes) 16, FileShort (length bytes)) ∷ header_faults (header_in bytes) (length bytes)

-- why bytes are no book file: the first fault, with its offset
unfoldable pub layout_fault : List ℕ → Option Refusal
layout_fault bytes = first_of (layout_faults bytes)

-- why a content of p pairs and q lines is not written to a buffer of n bytes
abbrev pub encode_fault : ℕ → ℕ → ℕ → Option Refusal
encode_fault p q n = first_of (limit_faults p q ++ ((nat_lt n (size_of p q), TooSmall) ∷ []))
