use Rattle.grammar.proofs.Comparing.{first_difference_decides, beginning_comes_first, equals_stand_by_number}
use Rattle.grammar.proofs.laws.the_first_difference_decides.Goals as goal

pub returns : goal.returns
returns c = record { difference = first_difference_decides; beginning = beginning_comes_first; equals = equals_stand_by_number }
