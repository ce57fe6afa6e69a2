use Rattle.std.proofs.Common.{◌≡◌, ◌≤◌, refl, rules}
use Rattle.caption_box.specs.declared.types.State.TheVariants.{Time}
use Rattle.caption_box.proofs.Told.{rehearsed}
use Rattle.caption_box.proofs.WrittenSteps.{step_stays, step_stands, step_counted, step_done}
use Rattle.caption_box.proofs.rehearsal.Rehearsal.step.Goals as goal

pub invariant_of-self : goal.invariant_of-self
invariant_of-self g c =
    let time : c.fate-state.result ≡ Time = search rules in
    let v : c.perform-found.result ≤ 4294967295 = search rules in
    record {
      sheet = ∣ (rehearsed c.args.self.now).sheet ∣₁;
      stands = ∣ step_stands c.args.self.now (g.S.Store.limit c.args.store.now) (g.S.Store.numbers c.args.store.now) c.record_at-statement.result c.fate-state.result
          c.record_at-statement.ensures c.fate-state.ensures time c.perform-found.result c.raise.new.self c.go_on.new.self c.perform-found.ensures.found v
          c.requires c.raise.ensures.counts c.go_on.ensures ∣₁;
      counted = step_counted c.args.self.now (g.S.Store.limit c.args.store.now) (g.S.Store.numbers c.args.store.now) c.record_at-statement.result c.fate-state.result
          c.record_at-statement.ensures c.fate-state.ensures time c.perform-found.result c.raise.new.self c.go_on.new.self c.perform-found.ensures.found v
          c.requires c.raise.ensures.counts c.go_on.ensures;
    }

pub returns-then-eq-clause-exact : goal.returns-then-eq-clause-exact
returns-then-eq-clause-exact g c =
    let time : c.fate-state.result ≡ Time = search rules in
    let v : c.perform-found.result ≤ 4294967295 = search rules in
    step_done c.args.self.now (g.S.Store.limit c.args.store.now) (g.S.Store.numbers c.args.store.now) c.record_at-statement.result c.fate-state.result
    c.record_at-statement.ensures c.fate-state.ensures time c.perform-found.result c.raise.new.self c.go_on.new.self c.perform-found.ensures.found v
    c.requires c.raise.ensures.counts c.go_on.ensures (g.S.Store.numbers c.perform-found.new.store) c.perform-found.ensures.left.1 _ refl refl refl

pub returns-else-eq-clause-exact : goal.returns-else-eq-clause-exact
returns-else-eq-clause-exact g c =
    let stop : (c.fate-state.result ≡ Time → ⊥) = λ e. search rules in
    step_stays c.args.self.now (g.S.Store.limit c.args.store.now) (g.S.Store.numbers c.args.store.now) c.record_at-statement.result
    c.fate-state.result c.record_at-statement.ensures c.fate-state.ensures stop
