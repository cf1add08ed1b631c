use Rattle.std.proofs.Common.{◌<◌, ◌≤◌, List, length, get_or, ap, sym, ◌∙◌, subst, arith}
use Rattle.std.proofs.lemmas.List.{take_all}
use Rattle.std.proofs.lemmas.Bool.{cond-true, cond-false}
use Rattle.board.specs.declared.points.Point.{Point}
use Rattle.board.specs.Meaning.{hits}
use Rattle.board.specs.Answering.{LeastOf}
use Rattle.list_board.specs.Listing.{records, place_in, zero_point}
use Rattle.list_board.specs.Listed.{listed}
use Rattle.list_board.proofs.Firsts.{least_after}
use Rattle.list_board.proofs.list_boards.ListBoardBoard.first.Goals.{then-is_hit, else-is_hit}
use Rattle.list_board.proofs.list_boards.ListBoardBoard.first.Goals as goal

pub loop-point-preserved : goal.loop-point-preserved
loop-point-preserved c =
    let ps = records (listed c.args.self.now) in
    let i = c.loop-point.point-index in
    let long : i < length ps = omega (arith, ap length c.points-point-items.ensures, c.loop-point-test.true) in
    let is = ap (λ qs. get_or qs i zero_point) c.points-point-items.ensures in
    let step = least_after c.args.within c.args.floor.0 i ps _ c.loop-point.least c.if-is_hit.least c.is_hit.result c.requires.once long is c.loop-point.invariant c.is_hit.ensures in
    elim c.if-is_hit.branch [
      | then-is_hit w ↦ step (w.least-is ∙ (w.lowest_of-least.ensures ∙ sym (cond-true c.is_hit.result _ _ w.if-is_hit.true)))
      | else-is_hit w ↦ step (w.least-is ∙ sym (cond-false c.is_hit.result _ _ w.if-is_hit.false))
    ]

pub returns : goal.returns
returns c =
    let ps = records (listed c.args.self.now) in
    let done : length ps ≤ c.loop-point.point-index = omega (arith, ap length c.points-point-items.ensures, c.loop-point-test.false) in
    let P : List Point → Type 0 = λ xs. LeastOf (hits c.args.within c.args.floor.0 (place_in xs)) c.loop-point.least in
    subst P (take_all c.loop-point.point-index ps done) c.loop-point.invariant
