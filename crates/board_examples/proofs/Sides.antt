-- From what a run on two boards ensures to what two boards of the same capacity answer.
use Rattle.std.proofs.Common.{◌≡◌, List, IfOk, Ok, Err, Result, subst, MatchResult}
use Rattle.std.specs.declared.alloc.AllocError.{AllocError}
use Rattle.grammar.specs.Limits.{max_pairs}
use Rattle.board.specs.Meaning.{Meaning, clean}
use Rattle.board.specs.Serving.{Runs}
use Rattle.board.specs.declared.calls.Call.{Call}
use Rattle.board.specs.declared.calls.Answer.{Answer}
use Rattle.board_examples.specs.Alike.{AnswerAlike}

pub answer_alike : {X : Type 0} (ones others : X → List Answer) (r : Result X AllocError) (calls : List Call) (m n one other : Meaning) → m ≡ clean max_pairs → m ≡ n → MatchResult r (λ both. Runs m calls (ones both) one) (λ e. one ≡ m) → (m ≡ n → IfOk r (λ both. (ones both ≡ others both) × (one ≡ other))) → IfOk r (λ both. AnswerAlike calls (ones both) (others both))
answer_alike ones others (Ok both) calls m n one other is same run alike =
    let P : Meaning → Type 0 = λ k. Runs k calls (ones both) one in
    record { right = (one, subst P is run); same = (alike same).0 }
answer_alike ones others (Err e) calls m n one other is same run alike = tt
