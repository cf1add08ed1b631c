use Rattle.grammar.proofs.Placing.{places_are_all, places_are_unique}
use Rattle.grammar.proofs.laws.places_rise_and_are_complete.Goals as goal

pub returns : goal.returns
returns c = record { complete = places_are_all; unique = places_are_unique }
