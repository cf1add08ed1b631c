-- The record at the front of a list of bytes, from the numbers in its fields.
use Rattle.std.proofs.Common.{◌≡◌, ℕ, ◌≤◌, List, ◌++◌, length, drop, arith}
use Rattle.book_file.specs.Layout.{pair_bytes, line_bytes, header_bytes, field}
use Rattle.book_file.specs.declared.records.Header.{Header}
use Rattle.book_file.specs.declared.records.LineRecord.{LineRecord}
use Rattle.book_file.proofs.Numbers.{Bytes, two_at, four_at}
use Rattle.grammar.specs.declared.strands.Pair.{Pair}

module _ (bs rest : List ℕ) (bytes : Bytes bs) where
  pub pair_at : (x : Pair) → 4 ≤ length bs → x.left.0 ≡ field 2 0 bs → x.right.0 ≡ field 2 2 bs → rest ≡ drop 4 bs → bs ≡ pair_bytes x ++ rest
  pair_at x h left right e =
      let a = two_at bs bytes 0 x.left.0 (omega arith) left in
      let b = two_at bs bytes 2 x.right.0 (omega arith) right in cc

  pub line_at : (x : LineRecord) → 8 ≤ length bs → x.number ≡ field 2 0 bs → x.strand.0 ≡ field 2 2 bs → x.length ≡ field 4 4 bs → rest ≡ drop 8 bs → bs ≡ line_bytes x ++ rest
  line_at x h number strand tape e =
      let a = two_at bs bytes 0 x.number (omega arith) number in
      let b = two_at bs bytes 2 x.strand.0 (omega arith) strand in
      let c = four_at bs bytes 4 x.length (omega arith) tape in cc

  pub header_at : (x : Header) → 16 ≤ length bs → x.size ≡ field 4 0 bs → x.pairs ≡ field 2 4 bs → x.lines ≡ field 2 6 bs → x.pair_table ≡ field 4 8 bs → x.line_table ≡ field 4 12 bs → rest ≡ drop 16 bs → bs ≡ header_bytes x ++ rest
  header_at x h size pairs lines pairs_table lines_table e =
      let a = four_at bs bytes 0 x.size (omega arith) size in
      let b = two_at bs bytes 4 x.pairs (omega arith) pairs in
      let c = two_at bs bytes 6 x.lines (omega arith) lines in
      let d = four_at bs bytes 8 x.pair_table (omega arith) pairs_table in
      let f = four_at bs bytes 12 x.line_table (omega arith) lines_table in cc
