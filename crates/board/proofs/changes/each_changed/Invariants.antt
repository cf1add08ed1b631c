use Rattle.std.proofs.Common.{◌≡◌, take, drop}
use Rattle.std.specs.List.{AllZip}
use Rattle.board.proofs.changes.each_changed.Given as goal

abbrev pub invariant-loop-x : goal.invariant-loop-x
invariant-loop-x g l = AllZip (λ x y. goal.F-post g l.by x y) (take l.x-index l.fn.table) (take l.x-index l.x-items) × (drop l.x-index l.x-items ≡ drop l.x-index l.fn.table)
