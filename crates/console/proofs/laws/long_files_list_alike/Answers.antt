use Rattle.console.proofs.Long.{long_files_list_alike_lem}
use Rattle.console.proofs.laws.long_files_list_alike.Goals as goal

pub returns : goal.returns
returns c = long_files_list_alike_lem
