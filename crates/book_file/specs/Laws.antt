-- One content has exactly one file, the files are just the bytes that are accepted, and none need be read beyond the largest.
use Rattle.std.specs.Prelude.{◌≡◌, ℕ, ◌+◌, ◌<◌, ◌≤◌, List, length, take, None, slice_index}
use Rattle.grammar.specs.Limits.{max_pairs, max_lines, max_file}
use Rattle.grammar.specs.declared.strands.Pair.{Pair}
use Rattle.book_file.specs.Layout.{file_of, size_of, layout_fault}
use Rattle.book_file.specs.declared.records.LineRecord.{LineRecord}

-- two contents with one file are one content
abbrev pub FileTellsContent : Type 0
FileTellsContent =
    (pairs other_pairs : List Pair) (lines other_lines : List LineRecord)
    → file_of pairs lines ≡ file_of other_pairs other_lines → (pairs ≡ other_pairs) × (lines ≡ other_lines)

-- the file of a content within the limits is accepted
abbrev pub FilesAreAccepted : Type 0
FilesAreAccepted = (pairs : List Pair) (lines : List LineRecord) → length pairs ≤ max_pairs → length lines ≤ max_lines → layout_fault (file_of pairs lines) ≡ None

-- bytes that are accepted are the file of a content
abbrev pub AcceptedBytesAreFiles : Type 0
AcceptedBytesAreFiles =
    (bytes : List ℕ) → ((i : ℕ) → slice_index bytes i < 256) → layout_fault bytes ≡ None
    → (pairs : List Pair) × (lines : List LineRecord) × (file_of pairs lines ≡ bytes)

-- the largest file has as many pairs and lines as there can be, and no longer one is accepted
abbrev pub LargestFile : Type 0
LargestFile = (max_file ≡ size_of max_pairs max_lines) × ((bytes : List ℕ) → layout_fault bytes ≡ None → length bytes ≤ max_file)

-- of bytes that go on beyond the largest file only one more counts
abbrev pub LongFilesReadAlike : Type 0
LongFilesReadAlike = (bytes : List ℕ) → layout_fault (take (max_file + 1) bytes) ≡ layout_fault bytes
