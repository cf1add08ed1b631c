use Rattle.board.proofs.Parts.{changed_by}
use Rattle.board.proofs.changes.change_each.Goals as goal

pub returns-clause-made : goal.returns-clause-made
returns-clause-made g c f is = changed_by _ f _ _ is c.each_changed.ensures
