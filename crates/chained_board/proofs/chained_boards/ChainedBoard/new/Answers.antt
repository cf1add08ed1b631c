use Rattle.std.proofs.Common.{arith, rules}
use Rattle.chained_board.proofs.Fresh.{itself, numbered, range_more, none_more, made_fresh}
use Rattle.chained_board.proofs.chained_boards.ChainedBoard.new.Goals as goal

pub loop-row-preserved : goal.loop-row-preserved
loop-row-preserved c =
    record {
      order_is = range_more itself c.loop-row.row c.push_reserved.ensures.items c.loop-row.invariant.order_is;
      rows_are = range_more numbered c.loop-row.row c.push_reserved-in-loop-row.ensures.items c.loop-row.invariant.rows_are;
      heads_are = none_more c.loop-row.row c.push_reserved-in-loop-row-2.ensures.items c.loop-row.invariant.heads_are;
      order_long = omega arith;
      rows_long = omega arith;
      heads_long = omega arith;
      order_room = omega arith;
      row_room = omega arith;
      head_room = omega arith;
    }

pub returns : goal.returns
returns c = let i = c.loop-row.invariant in (made_fresh c.in_ok-slots.ensures.items i.order_is i.rows_are i.heads_are (c.in_ok-labels.ensures.items_if_clones_equal (λ y e. search rules)) (omega arith) (omega arith)).1

pub invariant_of-result-clause-sound : goal.invariant_of-result-clause-sound
invariant_of-result-clause-sound c = let i = c.loop-row.invariant in (made_fresh c.in_ok-slots.ensures.items i.order_is i.rows_are i.heads_are (c.in_ok-labels.ensures.items_if_clones_equal (λ y e. search rules)) (omega arith) (omega arith)).0
