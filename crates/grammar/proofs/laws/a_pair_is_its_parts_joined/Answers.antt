use Rattle.grammar.proofs.Taping.{byte_tapes_lem, pair_tapes, older_tapes_stay}
use Rattle.grammar.proofs.laws.a_pair_is_its_parts_joined.Goals as goal

pub returns : goal.returns
returns c = record { bytes = byte_tapes_lem; pairs = pair_tapes; older = older_tapes_stay }
