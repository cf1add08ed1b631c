-- What decoding and encoding, one after the other, answer.
use Rattle.std.specs.Prelude.{◌≡◌, ℕ, List, [], ◌∷◌, ◌++◌, length, Some, None, vec_items, Option, nat_lt}
use Rattle.grammar.specs.Buffers.{written}
use Rattle.grammar.specs.Refusals.{first_of}
use Rattle.grammar.specs.declared.refusals.Refusal.{Refusal}
use Rattle.grammar.specs.declared.refusals.Refusal.TheVariants.{TooSmall}
use Rattle.grammar.specs.declared.strands.Pair.{Pair}
use Rattle.book_file.specs.Contents.{Encoded, NotEncoded}
use Rattle.book_file.specs.Layout.{layout_fault, layout_faults, size_of}
use Rattle.book_file.specs.declared.decode.Content.{Content}
use Rattle.book_file.specs.declared.decode.Fault.{Fault}
use Rattle.book_file.specs.declared.decode.Fault.TheVariants.{Refused, Memory}
use Rattle.book_file.specs.declared.records.LineRecord.{LineRecord}

-- the pairs and lines were encoded, and the same come back
pub record SameContent (pairs : List Pair) (lines : List LineRecord) (before after : List ℕ) (content : Content) : Type 0 where
  pub same_pairs : vec_items content.pairs ≡ pairs
  pub same_lines : vec_items content.lines ≡ lines
  pub encoded : Encoded pairs lines before after (size_of (length pairs) (length lines))

-- only encoding refuses; memory can be short only after it
abbrev pub NoContent : List Pair → List LineRecord → List ℕ → List ℕ → Fault → Type 0
NoContent pairs lines before after (Refused refusal) = NotEncoded pairs lines before after refusal
NoContent pairs lines before after (Memory error) = Encoded pairs lines before after (size_of (length pairs) (length lines))

-- why bytes are not decoded and encoded again to a buffer of n bytes: they are no book file, or they do not fit
unfoldable pub copy_fault : List ℕ → ℕ → Option Refusal
copy_fault bytes n = first_of (layout_faults bytes ++ ((nat_lt n (length bytes), TooSmall) ∷ []))

-- the bytes were decoded, and the same stand at the buffer's beginning; the rest is as it was
pub record SameFile (bytes before after : List ℕ) (size : ℕ) : Type 0 where
  pub accepted : copy_fault bytes (length before) ≡ None
  pub answer : size ≡ length bytes
  pub file : after ≡ written before 0 bytes

-- the fault is the refusal that is due, memory can be short only once the bytes are accepted, and the buffer is as it was
abbrev pub NoFile : List ℕ → List ℕ → List ℕ → Fault → Type 0
NoFile bytes before after (Refused refusal) = (copy_fault bytes (length before) ≡ Some refusal) × (after ≡ before)
NoFile bytes before after (Memory error) = (layout_fault bytes ≡ None) × (after ≡ before)
