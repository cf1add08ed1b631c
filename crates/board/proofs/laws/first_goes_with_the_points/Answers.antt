use Rattle.board.specs.Meaning.{place_at, hits}
use Rattle.board.proofs.Growing.{first_after_widen, first_after_put, first_then_the_rest}
use Rattle.board.proofs.Least.{least_unique}
use Rattle.board.proofs.laws.first_goes_with_the_points.Goals as goal

pub returns : goal.returns
returns c = record { widening = first_after_widen; put = first_after_put; unique = λ m within floor. least_unique (hits within floor.0 (place_at m)); rest = first_then_the_rest }
