use Rattle.std.proofs.Common.{refl, arith}
use Rattle.chained_board.proofs.Walks.{row_asked, row_read, walk_row, walk_step, walk_less, walk_end, walk_all}
use Rattle.chained_board.proofs.chained_boards.ChainedBoardBoard.first.Goals as goal

pub points-init : goal.points-init
points-init c = let row = row_asked c.min-top.result c.min-bottom.result c.deref.ensures.value c.rows-test.true in walk_row c.args.self.now.sound row.0 row.1 c.index-next.ensures c.rows.invariant

pub points-smaller-then-is_hit : goal.points-smaller-then-is_hit
points-smaller-then-is_hit c = omega (arith, walk_less c.args.self.now.sound c.in-Some.is c.index-slot.ensures c.points.invariant)

pub points-preserved-then-is_hit : goal.points-preserved-then-is_hit
points-preserved-then-is_hit c = let row = row_asked c.min-top.result c.min-bottom.result c.deref.ensures.value c.rows-test.true in walk_step c.args.self.now.sound row.0 (row_read c.args.self.now.sound row.0 row.1 c.index-row.ensures) c.in-Some.is c.index-slot.ensures c.if-is_hit.ensures c.lowest_of-least.ensures c.points.invariant

pub points-smaller : goal.points-smaller
points-smaller c = omega (arith, walk_less c.args.self.now.sound c.in-Some.is c.index-slot.ensures c.points.invariant)

pub points-preserved : goal.points-preserved
points-preserved c = let row = row_asked c.min-top.result c.min-bottom.result c.deref.ensures.value c.rows-test.true in walk_step c.args.self.now.sound row.0 (row_read c.args.self.now.sound row.0 row.1 c.index-row.ensures) c.in-Some.is c.index-slot.ensures c.if-is_hit.ensures refl c.points.invariant

pub rows-preserved : goal.rows-preserved
rows-preserved c = walk_end c.args.self.now.sound c.in_default.is (omega arith) c.points.invariant

pub returns : goal.returns
returns c = walk_all c.args.within c.args.floor.0 c.rows.least c.args.self.now.sound (omega arith) c.rows.invariant
