-- What a chained board means, and what its calls keep.
use Rattle.std.specs.Prelude.{◌≡◌, ℕ, ◌<◌, length, vec_items, vec_capacity}
use Rattle.board.specs.Meaning.{Meaning}
use Rattle.chained_board.specs.Chains.{Tables, slot_at, meaning_of}
use Rattle.chained_board.specs.declared.chained_boards.ChainedBoard.{ChainedBoard}

abbrev pub tables : ChainedBoard → Tables
tables b = record { slots = vec_items b.slots; order = vec_items b.order; rows = vec_items b.rows; heads = vec_items b.heads; labels = vec_items b.labels }

-- what a chained board means
abbrev pub meaning : ChainedBoard → Meaning
meaning b = meaning_of (tables b) b.columns

-- what a call keeps of the tables: the memory that was taken when the board was made, and the chain of every point
pub record Stays (b after : ChainedBoard) : Type 0 where
  pub slot_room : vec_capacity after.slots ≡ vec_capacity b.slots
  pub order_room : vec_capacity after.order ≡ vec_capacity b.order
  pub row_room : vec_capacity after.rows ≡ vec_capacity b.rows
  pub head_room : vec_capacity after.heads ≡ vec_capacity b.heads
  pub label_room : vec_capacity after.labels ≡ vec_capacity b.labels
  pub on_chain : (s : ℕ) → s < length (tables b).slots → (slot_at (tables after).slots s).chain ≡ (slot_at (tables b).slots s).chain
