use Rattle.std.proofs.Common.{rules, ◌≡◌, None, sym, ap, ◌∙◌, subst}
use Rattle.board.specs.Meaning.{widened}
use Rattle.board.specs.Answering.{widen_refusal}
use Rattle.board.proofs.Meanings.{accepted, wide, widen_clear}
use Rattle.list_board.specs.Listing.{Whole, meaning}
use Rattle.list_board.specs.Listed.{listed}
use Rattle.list_board.proofs.Places.{held_point}
use Rattle.list_board.proofs.Listings.{open_whole, open_meaning, opened, follows_opening}
use Rattle.list_board.proofs.list_boards.ListBoardBoard.widen.Goals as goal

pub returns-clause-holds : goal.returns-clause-holds
returns-clause-holds c =
    let b = listed c.args.self.now in
    let row = c.args.row.0 in
    let column = c.args.column.0 in
    opened b row column c.change_each.new.table c.requires (c.change_each.ensures.made (held_point row column) (λ x y r. search rules))

pub returns-clause-ok : goal.returns-clause-ok
returns-clause-ok c =
    let b = listed c.args.self.now in
    let row = c.args.row.0 in
    let column = c.args.column.0 in
    let may = wide (meaning b) row column (widen_clear (meaning b) row column c.size.ensures c.in_ok-may_widen.ensures) in
    subst Whole (sym (returns-clause-holds c)) (open_whole b row column may.0 may.1 c.requires)

pub returns-clause-keeps : goal.returns-clause-keeps
returns-clause-keeps c = follows_opening _ _ c.args.row.0 c.args.column.0 (returns-clause-holds c)

pub returns-clause-widens : goal.returns-clause-widens
returns-clause-widens c =
    let b = listed c.args.self.now in
    let row = c.args.row.0 in
    let column = c.args.column.0 in
    let m = meaning b in
    let clear : widen_refusal m row column ≡ None = widen_clear m row column c.size.ensures c.in_ok-may_widen.ensures in
    accepted (widen_refusal m row column) m (widened m row column) _ clear (ap meaning (returns-clause-holds c) ∙ open_meaning b row column c.requires)
