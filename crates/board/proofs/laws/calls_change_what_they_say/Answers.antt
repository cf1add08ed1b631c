use Rattle.board.proofs.Growing.{calls_keep_capacity, refusals_change_nothing, put_counts_one_more}
use Rattle.board.proofs.Meanings.{count-widened}
use Rattle.board.proofs.laws.calls_change_what_they_say.Goals as goal

pub returns : goal.returns
returns c = record { refusals = refusals_change_nothing; capacity = calls_keep_capacity; widening = count-widened; put = put_counts_one_more }
