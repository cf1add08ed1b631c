use Rattle.chained_board.proofs.Fresh.{clean_tables}
use Rattle.chained_board.proofs.laws.clean_tables_are_sound.Goals as goal

pub returns : goal.returns
returns c = clean_tables
