-- What a writer leaves.
use Rattle.std.specs.Prelude.{◌≡◌, ℕ, ◌+◌, ◌≤◌, List, length}
use Rattle.grammar.specs.Buffers.{written}
use Rattle.book_file.specs.declared.writer.Writer.{Writer}

-- the buffer has room for n bytes from the writer's place on
abbrev pub Room : Writer → ℕ → Type 0
Room out n = out.place + n ≤ length out.buffer.now

-- the bytes stand at the place where the writer was, and it is behind them, over the same buffer
pub record Put (before after : Writer) (bytes : List ℕ) : Type 0 where
  pub same_buffer : after.buffer.ghost_name ≡ before.buffer.ghost_name
  pub same_length : length after.buffer.now ≡ length before.buffer.now
  pub place : after.place ≡ before.place + length bytes
  pub buffer : after.buffer.now ≡ written before.buffer.now before.place bytes
