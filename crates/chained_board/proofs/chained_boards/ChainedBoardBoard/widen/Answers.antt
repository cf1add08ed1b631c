use Rattle.std.proofs.Common.{arith, rules}
use Rattle.chained_board.proofs.Tables.{changed_items}
use Rattle.chained_board.proofs.Widens.{row_moved, column_moved}
use Rattle.chained_board.proofs.Steps.{widen_wrote}
use Rattle.chained_board.proofs.chained_boards.ChainedBoardBoard.widen.Goals as goal

pub invariant_of-self-clause-sound : goal.invariant_of-self-clause-sound
invariant_of-self-clause-sound c = (widen_wrote c.args.row c.args.column c.args.self.now.sound c.size.ensures c.in_ok-may_widen.ensures (omega arith) (changed_items c.args.self.now.slots (column_moved c.args.column.0) _ (λ x y r. search rules) c.change_each-2.ensures.each c.deref_mut-2.ensures.value) (rw c.unwrap.ensures at c.insert.ensures.items) (changed_items c.args.self.now.rows (row_moved c.args.row.0) _ (λ x y r. search rules) c.change_each.ensures.each c.deref_mut.ensures.value) c.push_reserved.ensures.items c.push_reserved-2.ensures.items).0

pub returns-clause-widens : goal.returns-clause-widens
returns-clause-widens c = (widen_wrote c.args.row c.args.column c.args.self.now.sound c.size.ensures c.in_ok-may_widen.ensures (omega arith) (changed_items c.args.self.now.slots (column_moved c.args.column.0) _ (λ x y r. search rules) c.change_each-2.ensures.each c.deref_mut-2.ensures.value) (rw c.unwrap.ensures at c.insert.ensures.items) (changed_items c.args.self.now.rows (row_moved c.args.row.0) _ (λ x y r. search rules) c.change_each.ensures.each c.deref_mut.ensures.value) c.push_reserved.ensures.items c.push_reserved-2.ensures.items).1
