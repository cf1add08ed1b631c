use Rattle.board.proofs.Growing.{calls_keep_points, calls_keep_proper}
use Rattle.board.proofs.Meanings.{clean_proper, count-clean}
use Rattle.board.proofs.laws.boards_stay_proper.Goals as goal

pub returns : goal.returns
returns c = record { empty = count-clean; points = calls_keep_points; clean = clean_proper; calls = calls_keep_proper }
