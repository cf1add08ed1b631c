use Rattle.std.proofs.Common.{sym, subst}
use Rattle.board.proofs.Parts.{part_more}
use Rattle.board.proofs.changes.each_changed.Goals as goal

pub loop-x-preserved : goal.loop-x-preserved
loop-x-preserved g c = part_more _ c.args.table.now c.loop-x.x-items c.loop-x.x-index c.x-item.result c.by.result c.loop-x-test.true c.loop-x.auto.x-items c.loop-x.invariant c.x-item.is (subst (λ z. g.F.Fn.post c.args.by (z, tt) c.by.result) (sym c.x-item.is) c.by.ensures)
