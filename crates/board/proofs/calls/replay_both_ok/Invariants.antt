use Rattle.std.proofs.Common.{◌≡◌, ◌≤◌, length, take, vec_items, vec_capacity}
use Rattle.board.specs.Serving.{Runs, of_one, of_other}
use Rattle.board.proofs.calls.replay_both_ok.Given as goal

abbrev pub invariant-loop-call : goal.invariant-loop-call
invariant-loop-call g l =
    record {
      one_ok : g.A.Board.ok l.one;
      other_ok : g.B.Board.ok l.other;
      one : Runs (g.A.Board.means l.initial.one) (take l.call-index l.calls) (of_one (vec_items l.answers)) (g.A.Board.means l.one);
      other : Runs (g.B.Board.means l.initial.other) (take l.call-index l.calls) (of_other (vec_items l.answers)) (g.B.Board.means l.other);
      long : length (vec_items l.answers) ≡ l.call-index;
      room : length l.calls ≤ vec_capacity l.answers;
    }
