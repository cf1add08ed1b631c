use Rattle.std.proofs.Common.{◌≡◌, ◌≤◌, map, replicate, None, vec_items, vec_capacity}
use Rattle.std.specs.List.{range_with_len}
use Rattle.std.specs.Vec.{vec_len}
use Rattle.grammar.specs.Limits.{max_strands}
use Rattle.chained_board.proofs.Fresh.{itself, numbered}
use Rattle.chained_board.proofs.chained_boards.ChainedBoard.new.Given as goal

abbrev pub invariant-loop-row : goal.invariant-loop-row
invariant-loop-row l = record {
  order_is : vec_items l.order ≡ map itself (range_with_len 0 l.row);
  rows_are : vec_items l.rows ≡ map numbered (range_with_len 0 l.row);
  heads_are : vec_items l.heads ≡ replicate l.row None;
  order_long : vec_len l.order ≡ l.row;
  rows_long : vec_len l.rows ≡ l.row;
  heads_long : vec_len l.heads ≡ l.row;
  order_room : max_strands ≤ vec_capacity l.order;
  row_room : max_strands ≤ vec_capacity l.rows;
  head_room : max_strands ≤ vec_capacity l.heads;
}
