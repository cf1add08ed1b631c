use Rattle.board.proofs.Serves.{boards_alike}
use Rattle.board.proofs.calls.serve_both.Goals as goal

pub returns-clause-alike : goal.returns-clause-alike
returns-clause-alike g c = boards_alike _ _ _ _ _ _ _ c.serve.ensures.serves c.serve-2.ensures.serves
