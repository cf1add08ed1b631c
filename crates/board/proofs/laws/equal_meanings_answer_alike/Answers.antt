use Rattle.std.proofs.Common.{refl}
use Rattle.board.proofs.Serves.{runs_alike}
use Rattle.board.proofs.laws.equal_meanings_answer_alike.Goals as goal

pub returns : goal.returns
returns c = λ m one other calls answers others r s. runs_alike calls answers others m m one other r s refl
