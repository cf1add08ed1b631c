use Rattle.board.proofs.Growing.{widen_then_put, opened_are_empty}
use Rattle.board.proofs.laws.a_point_fits_after_widening.Goals as goal

pub returns : goal.returns
returns c = record { put = widen_then_put; empty = opened_are_empty }
