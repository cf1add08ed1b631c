use Rattle.grammar.proofs.Comparing.{orders_are_total}
use Rattle.grammar.proofs.laws.both_orders_are_strict_and_total.Goals as goal

pub returns : goal.returns
returns c = orders_are_total
