use Rattle.std.proofs.Common.{arith, rules}
use Rattle.board.proofs.Meanings.{put_clear, put_declined}
use Rattle.chained_board.specs.Boards.{meaning}
use Rattle.chained_board.proofs.Steps.{put_low, put_wrote}
use Rattle.chained_board.proofs.chained_boards.ChainedBoardBoard.put.Goals as goal

pub returns-in_err-may_put-clause-puts : goal.returns-in_err-may_put-clause-puts
returns-in_err-may_put-clause-puts c = put_declined (meaning c.args.self.now) c.args.point c.size.ensures c.locate.ensures (search rules) c.in_err-may_put.ensures

pub index-next-requires : goal.index-next-requires
index-next-requires c = omega (arith, put_low c.args.point c.args.self.now.sound (put_clear (meaning c.args.self.now) c.args.point c.size.ensures c.locate.ensures c.in_ok-may_put.ensures) c.index-chain.ensures)

pub index_mut-requires : goal.index_mut-requires
index_mut-requires c = omega (arith, put_low c.args.point c.args.self.now.sound (put_clear (meaning c.args.self.now) c.args.point c.size.ensures c.locate.ensures c.in_ok-may_put.ensures) c.index-chain.ensures)

pub invariant_of-self-clause-sound : goal.invariant_of-self-clause-sound
invariant_of-self-clause-sound c = (put_wrote c.args.point c.args.self.now.sound (put_clear (meaning c.args.self.now) c.args.point c.size.ensures c.locate.ensures c.in_ok-may_put.ensures) c.index-chain.ensures c.index-next.ensures (omega arith) c.push_reserved.ensures.items).0

pub returns-clause-puts : goal.returns-clause-puts
returns-clause-puts c = (put_wrote c.args.point c.args.self.now.sound (put_clear (meaning c.args.self.now) c.args.point c.size.ensures c.locate.ensures c.in_ok-may_put.ensures) c.index-chain.ensures c.index-next.ensures (omega arith) c.push_reserved.ensures.items).1
