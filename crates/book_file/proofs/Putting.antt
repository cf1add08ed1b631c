-- Pieces put to a writer one behind the other.
use Rattle.std.proofs.Common.{◌≡◌, ℕ, ◌+◌, ◌/◌, ◌%◌, ◌<◌, ◌≤◌, List, [], ◌∷◌, ◌++◌, length, None, sym, refl, ap, ◌∙◌, subst, arith, length-append, length-drop}
use Rattle.std.specs.List.{flat_map}
use Rattle.std.proofs.lemmas.List.{length-take-le}
use Rattle.grammar.specs.Buffers.{written}
use Rattle.grammar.specs.declared.strands.Pair.{Pair}
use Rattle.grammar.proofs.Writing.{then_written, written_none}
use Rattle.book_file.specs.Contents.{Encoded}
use Rattle.book_file.specs.Layout.{two, four, file_of, header_bytes, header_of, pair_bytes, line_bytes, encode_fault}
use Rattle.book_file.specs.Writing.{Put}
use Rattle.book_file.specs.declared.records.Header.{Header}
use Rattle.book_file.specs.declared.records.LineRecord.{LineRecord}
use Rattle.book_file.specs.declared.writer.Writer.{Writer}
use Rattle.book_file.proofs.Files.{length_file}
use Rattle.book_file.proofs.Numbers.{bytes_of_two, bytes_of_four}

-- to write within a buffer keeps its length
pub length_written : (xs : List ℕ) (at : ℕ) (ys : List ℕ) → at + length ys ≤ length xs → length (written xs at ys) ≡ length xs
unfolding written
length_written xs at ys h = simp length-append (omega (arith, length-take-le at xs, length-drop {A = ℕ}))

pub put_none : (a : Writer) → Put a a []
put_none a = record { same_buffer = refl; same_length = refl; place = omega arith; buffer = sym (written_none a.buffer.now a.place) }

module _ {a b c : Writer} where
  -- one piece more
  pub put_more : {xs ys : List ℕ} → Put a b xs → Put b c ys → Put a c (xs ++ ys)
  put_more {xs} {ys} p q = record {
    same_buffer = q.same_buffer ∙ p.same_buffer;
    same_length = q.same_length ∙ p.same_length;
    place = omega (arith, length-append xs ys);
    buffer = then_written a.buffer.now xs ys a.within p.place p.buffer q.buffer;
  }

-- the same piece from any writer that stands at the same place of the same buffer
pub put_from : {a a' b : Writer} {xs : List ℕ} → a'.buffer ≡ a.buffer → a'.place ≡ a.place → Put a' b xs → Put a b xs
put_from {a} {a'} {b} {xs} same at p = record {
  same_buffer = p.same_buffer ∙ ap (λ z. z.ghost_name) same;
  same_length = p.same_length ∙ ap (λ z. length z.now) same;
  place = p.place ∙ ap (λ k. k + length xs) at;
  buffer = p.buffer ∙ ap (λ z. written z.now a'.place xs) same ∙ ap (λ k. written a.buffer.now k xs) at;
}

-- the bytes of a number
module _ {a b : Writer} {bytes : List ℕ} (put : Put a b bytes) (n : ℕ) where
  pub put_two : n < 65536 → bytes ≡ n % 256 ∷ n / 256 % 256 ∷ [] → Put a b (two n)
  put_two h e = subst (Put a b) (e ∙ bytes_of_two n h) put

  pub put_four : n < 4294967296 → bytes ≡ n % 256 ∷ n / 256 % 256 ∷ n / 65536 % 256 ∷ n / 16777216 % 256 ∷ [] → Put a b (four n)
  put_four h e = subst (Put a b) (e ∙ bytes_of_four n h) put

-- a whole file, put from the buffer's beginning on
module _ (ps : List Pair) (ls : List LineRecord) {a b c d : Writer} {h : Header} {after : List ℕ} (header : h ≡ header_of (length ps) (length ls)) where
  pub put_file : encode_fault (length ps) (length ls) (length a.buffer.now) ≡ None → a.place ≡ 0 → Put a b (header_bytes h) → Put b c (flat_map pair_bytes ps) → Put c d (flat_map line_bytes ls) → after ≡ d.buffer.now → Encoded ps ls a.buffer.now after d.place
  unfolding file_of
  put_file fits start first pairs lines back =
      let tables = put_more pairs lines in
      let all : Put a d (file_of ps ls) = subst (λ g. Put a d (header_bytes g ++ (flat_map pair_bytes ps ++ flat_map line_bytes ls))) header (put_more first tables) in
      record { accepted = fits; answer = omega (arith, all.place, length_file ps ls); file = back ∙ all.buffer ∙ ap (λ k. written a.buffer.now k (file_of ps ls)) start }
