-- The limits of a book, of a pattern and of a book file.
use Rattle.std.specs.Prelude.{ℕ}
use Rattle.grammar.specs.declared.limits.Limits.{Limits}

abbrev pub byte_strand_count : ℕ
byte_strand_count = 256

-- byte strands included
abbrev pub max_strands : ℕ
max_strands = 2048

abbrev pub max_pairs : ℕ
max_pairs = 1792

-- in bytes
abbrev pub max_tape : ℕ
max_tape = 65536

abbrev pub max_pattern : ℕ
max_pattern = 64

abbrev pub max_lines : ℕ
max_lines = 1024

-- in bytes: the header, and as many pairs and lines as there can be
abbrev pub max_file : ℕ
max_file = 15376

-- all of them, as the code has them
abbrev pub every_limit : Limits
every_limit = record {
  byte_strands = byte_strand_count;
  strands = max_strands;
  pairs = max_pairs;
  tape = max_tape;
  pattern = max_pattern;
  lines = max_lines;
  file = max_file;
}
