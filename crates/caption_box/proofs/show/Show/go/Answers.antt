use Rattle.std.proofs.Common.{ap, ◌∙◌, arith, rules}
use Rattle.caption_box.specs.Calls.{Scene, scene}
use Rattle.caption_box.proofs.Going.{going_more, gone_stopped, gone_all}
use Rattle.caption_box.proofs.show.Show.go.Goals as goal

pub loop-steps-preserved : goal.loop-steps-preserved
loop-steps-preserved g c =
    let e = c.step-state.ensures in (
      e.code ∙ c.loop-steps.invariant.0,
      going_more _ _ _ _ _ _ _ _ c.loop-steps.invariant.1 (ap (λ (x : Scene). x.setting) e.moved) e.state (ap (λ (x : Scene). x.box) e.moved) (search rules),
    )

pub returns-then-ne : goal.returns-then-ne
returns-then-ne g c =
    let e = c.step-state.ensures in
    let d = gone_stopped _ _ c.args.k _ _ _ _ _ _ c.loop-steps.invariant.1 c.loop-steps-test.true (ap (λ (x : Scene). x.setting) e.moved) e.state (ap (λ (x : Scene). x.box) e.moved) (search rules) in
    record { code = e.code ∙ c.loop-steps.invariant.0; moved = λ i. scene (d.setting i) (d.moved i); steps = d.steps; state = d.state }

pub returns : goal.returns
returns g c =
    let d = gone_all _ _ c.args.k _ _ _ _ c.loop-steps.invariant.1 (omega (arith, c.loop-steps.auto.steps-end, c.loop-steps-test.false)) c.look-state.ensures in
    record { code = c.loop-steps.invariant.0; moved = λ i. scene (d.setting i) (d.moved i); steps = d.steps; state = d.state }
