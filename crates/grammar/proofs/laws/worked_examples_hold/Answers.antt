use Rattle.grammar.proofs.Exemplars.{rows}
use Rattle.grammar.proofs.laws.worked_examples_hold.Goals as goal

pub returns : goal.returns
returns c = rows
