-- What two boards of the same capacity answer, from the making on.
use Rattle.std.specs.Prelude.{◌≡◌, List}
use Rattle.grammar.specs.Limits.{max_pairs}
use Rattle.board.specs.Meaning.{Meaning, clean}
use Rattle.board.specs.Serving.{Runs}
use Rattle.board.specs.declared.calls.Call.{Call}
use Rattle.board.specs.declared.calls.Answer.{Answer}

-- the answers are those that the rules give on a clean board, and both lists are the same
pub record AnswerAlike (calls : List Call) (one other : List Answer) : Type 0 where
  pub right : (after : Meaning) × Runs (clean max_pairs) calls one after
  pub same : one ≡ other
