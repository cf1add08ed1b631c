use Rattle.board_bench.proofs.put_points.Given as goal

abbrev pub invariant-loop-label : goal.invariant-loop-label
invariant-loop-label g l = g.B.Board.ok l.board
