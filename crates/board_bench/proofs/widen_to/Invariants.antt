use Rattle.board_bench.proofs.widen_to.Given as goal

abbrev pub invariant-loop-row : goal.invariant-loop-row
invariant-loop-row g l = g.B.Board.ok l.board
