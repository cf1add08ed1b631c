-- Decoding and encoding undo each other.
use Rattle.std.proofs.Common.{◌≡◌, ℕ, Bool, true, false, ltb, List, [], ◌∷◌, ◌++◌, length, take, Some, None, vec_items, Result, sym, refl, ap, ◌∙◌, subst, arith, MatchResult}
use Rattle.std.proofs.lemmas.Result.{MatchResult-weaker}
use Rattle.std.proofs.lemmas.Bool.{le-ltb}
use Rattle.grammar.specs.Buffers.{written}
use Rattle.grammar.specs.Limits.{max_pairs, max_lines}
use Rattle.grammar.specs.Refusals.{first_of}
use Rattle.grammar.specs.declared.refusals.Refusal.{Refusal}
use Rattle.grammar.specs.declared.refusals.Refusal.TheVariants.{TooSmall}
use Rattle.grammar.specs.declared.strands.Pair.{Pair}
use Rattle.grammar.proofs.Writing.{written_front}
use Rattle.book_file.specs.Contents.{Decoded, Due, Encoded, NotEncoded}
use Rattle.book_file.specs.Layout.{file_of, size_of, layout_fault, layout_faults, encode_fault}
use Rattle.book_file.specs.RoundTrips.{SameContent, NoContent, SameFile, NoFile, copy_fault}
use Rattle.book_file.specs.declared.decode.Content.{Content}
use Rattle.book_file.specs.declared.decode.Fault.{Fault}
use Rattle.book_file.specs.declared.decode.Fault.TheVariants.{Refused, Memory}
use Rattle.book_file.specs.declared.records.LineRecord.{LineRecord}
use Rattle.book_file.proofs.Files.{file_tells_content, files_are_accepted, length_file, encodes, within_limits}

module _ {ps : List Pair} {ls : List LineRecord} {before after : List ℕ} {size : ℕ} (e : Encoded ps ls before after size) where
  -- the part that encoding wrote is the file
  file_part : take size after ≡ file_of ps ls
  file_part = ap (take size) e.file ∙ written_front before (file_of ps ls) size (e.answer ∙ sym (length_file ps ls))

  encoded_again : Encoded ps ls before after (size_of (length ps) (length ls))
  encoded_again = subst (Encoded ps ls before after) e.answer e

  same_content : (content : Content) → Decoded (take size after) content → SameContent ps ls before after content
  same_content content d =
      let same = file_tells_content (vec_items content.pairs) ps (vec_items content.lines) ls (d.spelled ∙ file_part) in
      record { same_pairs = same.0; same_lines = same.1; encoded = encoded_again }

  accepted_part : layout_fault (take size after) ≡ None
  accepted_part =
      let within = encodes (length ps) (length ls) (length before) e.accepted in
      ap layout_fault file_part ∙ files_are_accepted ps ls within.0 within.1

  no_content : (fault : Fault) → Due (layout_fault (take size after)) fault → NoContent ps ls before after fault
  no_content (Refused r) due = let a = accepted_part in absurd (grind arith)
  no_content (Memory error) due = encoded_again

  pub decoded_back : (bytes : List ℕ) → bytes ≡ take size after → (r : Result Content Fault) → MatchResult r (Decoded bytes) (Due (layout_fault bytes)) → MatchResult r (SameContent ps ls before after) (NoContent ps ls before after)
  decoded_back bytes part r c =
      MatchResult-weaker r c (λ content d. same_content content (subst (λ b. Decoded b content) part d)) (λ fault d. no_content fault (subst (λ b. Due (layout_fault b) fault) part d))

-- one more test behind those of a decision list
first_before : (rs : List (Bool × Refusal)) (more : List (Bool × Refusal)) (r : Refusal) → first_of rs ≡ Some r → first_of (rs ++ more) ≡ Some r
first_before [] more r e = absurd (grind arith)
first_before ((true, x) ∷ rs) more r e = e
first_before ((false, x) ∷ rs) more r e = first_before rs more r e

first_behind : (rs : List (Bool × Refusal)) (more : List (Bool × Refusal)) → first_of rs ≡ None → first_of (rs ++ more) ≡ first_of more
first_behind [] more e = refl
first_behind ((true, x) ∷ rs) more e = absurd (grind arith)
first_behind ((false, x) ∷ rs) more e = first_behind rs more e

-- what decoding declines
pub not_decoded : (bytes before : List ℕ) (fault : Fault) → Due (layout_fault bytes) fault → NoFile bytes before before fault
unfolding layout_fault copy_fault
not_decoded bytes before (Refused r) due = (first_before (layout_faults bytes) ((ltb (length before) (length bytes), TooSmall) ∷ []) r due, refl)
not_decoded bytes before (Memory error) due = (due, refl)

-- a content that was decoded, with its pairs and lines as slices
module _ {bytes : List ℕ} {content : Content} {ps : List Pair} {ls : List LineRecord} (d : Decoded bytes content) (p : ps ≡ vec_items content.pairs) (l : ls ≡ vec_items content.lines) where
  spelled : file_of ps ls ≡ bytes
  spelled = ap (λ qs. file_of qs ls) p ∙ ap (file_of (vec_items content.pairs)) l ∙ d.spelled

  long : size_of (length ps) (length ls) ≡ length bytes
  long = sym (length_file ps ls) ∙ ap length spelled

  -- only the buffer's size can be wrong
  same_fault : (before : List ℕ) → copy_fault bytes (length before) ≡ encode_fault (length ps) (length ls) (length before)
  unfolding layout_fault copy_fault
  same_fault before =
      let within = within_limits ps ls (ap layout_fault spelled ∙ d.accepted) in
      let pairs = le-ltb max_pairs (length ps) within.0 in
      let lines = le-ltb max_lines (length ls) within.1 in
      let copy = first_behind (layout_faults bytes) ((ltb (length before) (length bytes), TooSmall) ∷ []) d.accepted in
      let size = ap (λ n. first_of ((ltb (length before) n, TooSmall) ∷ [])) (sym long) in cc

  pub not_encoded : {before after : List ℕ} {r : Refusal} → NotEncoded ps ls before after r → NoFile bytes before after (Refused r)
  not_encoded {before} n = (same_fault before ∙ n.due, n.same)

  pub encoded_back : {before after : List ℕ} {size : ℕ} → Encoded ps ls before after size → SameFile bytes before after size
  encoded_back {before} e = record { accepted = same_fault before ∙ e.accepted; answer = e.answer ∙ long; file = e.file ∙ ap (written before 0) spelled }
