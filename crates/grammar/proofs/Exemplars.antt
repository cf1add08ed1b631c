-- The worked examples, by computation.
use Rattle.std.proofs.Common.{refl}
use Rattle.grammar.specs.Examples.{Rows}
use Rattle.grammar.specs.Places.{places}
use Rattle.grammar.specs.Tapes.{tapes, byte_tapes}

pub rows : Rows
unfolding tapes byte_tapes places
rows = record { tape_of258 = refl; fore_ranks = refl; back_ranks = refl; overlapping = refl; shared = refl; equals = refl; equals_back = refl }
