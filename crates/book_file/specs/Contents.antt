-- What decoding and encoding answer.
use Rattle.std.specs.Prelude.{◌≡◌, ℕ, ◌*◌, List, ◌++◌, length, Some, None, vec_items, Option}
use Rattle.grammar.specs.Buffers.{written}
use Rattle.grammar.specs.declared.refusals.Refusal.{Refusal}
use Rattle.grammar.specs.declared.strands.Pair.{Pair}
use Rattle.book_file.specs.Layout.{header_bytes, header_of, file_of, size_of, layout_fault, encode_fault}
use Rattle.book_file.specs.declared.decode.Content.{Content}
use Rattle.book_file.specs.declared.decode.Fault.{Fault}
use Rattle.book_file.specs.declared.decode.Fault.TheVariants.{Refused, Memory}
use Rattle.book_file.specs.declared.records.LineRecord.{LineRecord}

-- bytes that are a book file: the header of p pairs and q lines, then the two tables
pub record Opened (bytes : List ℕ) (p q : ℕ) (pairs_table lines_table : List ℕ) : Type 0 where
  pub accepted : layout_fault bytes ≡ None
  pub pairs : length pairs_table ≡ 4 * p
  pub lines : length lines_table ≡ 8 * q
  pub whole : bytes ≡ header_bytes (header_of p q) ++ (pairs_table ++ lines_table)

-- the file of a content
abbrev pub content_file : Content → List ℕ
content_file content = file_of (vec_items content.pairs) (vec_items content.lines)

-- the bytes are accepted, and the content is the one that they spell
pub record Decoded (bytes : List ℕ) (content : Content) : Type 0 where
  pub accepted : layout_fault bytes ≡ None
  pub spelled : content_file content ≡ bytes

-- a fault is the refusal that is due; memory is short only where none is due
abbrev pub Due : Option Refusal → Fault → Type 0
Due refusal (Refused r) = refusal ≡ Some r
Due refusal (Memory error) = refusal ≡ None

-- the file of the pairs and lines stands at the buffer's beginning, and the rest is as it was
pub record Encoded (pairs : List Pair) (lines : List LineRecord) (before after : List ℕ) (size : ℕ) : Type 0 where
  pub accepted : encode_fault (length pairs) (length lines) (length before) ≡ None
  pub answer : size ≡ size_of (length pairs) (length lines)
  pub file : after ≡ written before 0 (file_of pairs lines)

-- the refusal is the one that is due, and the buffer is as it was
pub record NotEncoded (pairs : List Pair) (lines : List LineRecord) (before after : List ℕ) (refusal : Refusal) : Type 0 where
  pub due : encode_fault (length pairs) (length lines) (length before) ≡ Some refusal
  pub same : after ≡ before
