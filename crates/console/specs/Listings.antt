-- What is printed of a book file.
use Rattle.std.specs.Prelude.{◌≡◌, ℕ, ◌+◌, List, ◌++◌, length, take, codes, decimal, MatchOption}
use Rattle.std.specs.List.{flat_map}
use Rattle.grammar.specs.Limits.{max_file}
use Rattle.grammar.specs.Refusals.{number_of, layer_of, layer_number, place_of}
use Rattle.grammar.specs.declared.refusals.Refusal.{Refusal}
use Rattle.grammar.specs.declared.strands.Pair.{Pair}
use Rattle.book_file.specs.Layout.{file_of, layout_fault}
use Rattle.book_file.specs.declared.records.LineRecord.{LineRecord}

-- a refusal: its layer, its number, its place
abbrev pub refusal_row : Refusal → List ℕ
refusal_row r = codes "no " ++ (decimal (layer_number (layer_of r)) ++ (codes " " ++ (decimal (number_of r) ++ (codes " " ++ (decimal (place_of r) ++ codes "\n")))))

-- a line of the survey: its number, its strand, its length
abbrev pub line_row : LineRecord → List ℕ
line_row l = codes "line " ++ (decimal l.number ++ (codes " strand " ++ (decimal l.strand.0 ++ (codes " length " ++ (decimal l.length ++ codes "\n")))))

-- how many pairs and lines
abbrev pub count_rows : ℕ → ℕ → List ℕ
count_rows pairs lines = codes "pairs " ++ (decimal pairs ++ (codes "\nlines " ++ (decimal lines ++ codes "\n")))

-- a content: how many pairs and lines, then each line
abbrev pub text_of_content : List Pair → List LineRecord → List ℕ
text_of_content pairs lines = count_rows (length pairs) (length lines) ++ flat_map line_row lines

-- the text is that of the content whose file the bytes are
abbrev pub Told : List ℕ → List ℕ → Type 0
Told file text = (pairs : List Pair) × (lines : List LineRecord) × (file_of pairs lines ≡ file) × (text ≡ text_of_content pairs lines)

-- the text for the bytes of a file: the refusal that is due, or what the file holds
abbrev pub Listing : List ℕ → List ℕ → Type 0
Listing file text = MatchOption (layout_fault file) (Told file text) (λ refusal. text ≡ refusal_row refusal)

-- whoever reads one byte more than the largest file has, and no further, prints the text for the whole
abbrev pub LongFilesListAlike : Type 0
LongFilesListAlike = (file text : List ℕ) → Listing (take (max_file + 1) file) text → Listing file text
