use Rattle.std.proofs.Common.{length, vec_items, refl, ap, ◌∙◌, arith}
use Rattle.std.proofs.lemmas.List.{length_push, map-append}
use Rattle.board.specs.Serving.{of_one, of_other}
use Rattle.board.proofs.Serves.{run_more, run_all, runs_alike}
use Rattle.board.proofs.calls.replay_both_ok.Goals as goal

pub loop-call-preserved : goal.loop-call-preserved
loop-call-preserved g c =
    let i = c.loop-call.invariant in
    let calls = c.args.calls.now in
    let answers = vec_items c.loop-call.answers in
    let at = c.loop-call.call-index in
    let step = c.serve_both-both.ensures in
    let more = c.push_reserved.ensures in
    record {
      one_ok = step.one_ok;
      other_ok = step.other_ok;
      one = run_more calls (of_one answers) _ at _ _ _ _ _ _ c.loop-call-test.true refl (ap of_one more.items ∙ map-append _ answers _) i.one step.one;
      other = run_more calls (of_other answers) _ at _ _ _ _ _ _ c.loop-call-test.true refl (ap of_other more.items ∙ map-append _ answers _) i.other step.other;
      long = ap length more.items ∙ (length_push answers _ ∙ omega arith);
      room = omega (arith, i.room, more.capacity);
    }

pub returns-clause-alike : goal.returns-clause-alike
returns-clause-alike g c =
    let i = c.loop-call.invariant in
    let calls = c.args.calls.now in
    let one = run_all calls _ c.loop-call.call-index _ _ c.loop-call-test.false i.one in
    let other = run_all calls _ c.loop-call.call-index _ _ c.loop-call-test.false i.other in
    runs_alike calls _ _ _ _ _ _ one other
