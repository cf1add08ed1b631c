use Rattle.std.proofs.Common.{◌≡◌, vec_items, sym, ap, ◌∙◌, arith}
use Rattle.grammar.specs.Limits.{max_pairs}
use Rattle.board.specs.Meaning.{clean}
use Rattle.board.specs.Serving.{of_one, of_other}
use Rattle.chained_board.specs.Boards.{meaning as chained_meaning}
use Rattle.list_board.specs.Listing.{meaning}
use Rattle.list_board.specs.Listed.{listed}
use Rattle.board_examples.proofs.Sides.{answer_alike}
use Rattle.board_examples.proofs.side_by_side.side_by_side.Goals as goal

pub returns : goal.returns
returns c =
    let list_is : meaning (listed c.new-list.result) ≡ clean max_pairs = c.new-list.ensures.means ∙ ap clean (omega (arith, c.deref_mut.ensures.len, c.in_ok-table.ensures.len)) in
    let chained_is : chained_meaning c.in_ok-chained.chained ≡ clean max_pairs = c.in_ok-chained.ensures in
    answer_alike (λ v. of_one (vec_items v)) (λ v. of_other (vec_items v)) c.replay_both_ok.result _ _ _ _ _ list_is (list_is ∙ sym chained_is) c.replay_both_ok.ensures.one c.replay_both_ok.ensures.alike
