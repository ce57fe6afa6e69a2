use Rattle.std.proofs.Common.{arith, rules}
use Rattle.caption_box.proofs.Rehearsing.{rehearsing_more, rehearsed_stopped, rehearsed_all}
use Rattle.caption_box.proofs.rehearsal.Rehearsal.go.Goals as goal

pub loop-steps-preserved : goal.loop-steps-preserved
loop-steps-preserved g c =
    let e = c.step-state.ensures in
    rehearsing_more _ _ _ _ _ _ _ c.loop-steps.invariant c.step-state.result _ c.step-state.new.self (g.S.Store.numbers c.step-state.new.store) (search rules)
    e.same e.top e.most e.exact

pub returns-then-ne-clause-exact : goal.returns-then-ne-clause-exact
returns-then-ne-clause-exact g c =
    rehearsed_stopped _ _ _ _ _ _ _ c.loop-steps.invariant c.args.k c.step-state.result c.step-state.new.self
    (g.S.Store.numbers c.step-state.new.store) c.loop-steps-test.true (search rules) c.step-state.ensures.exact

pub returns-clause-exact : goal.returns-clause-exact
returns-clause-exact g c =
    rehearsed_all _ _ _ _ _ _ _ c.loop-steps.invariant c.args.k c.look-state.result
    (omega (arith, c.loop-steps.auto.steps-end, c.loop-steps-test.false)) c.look-state.ensures
