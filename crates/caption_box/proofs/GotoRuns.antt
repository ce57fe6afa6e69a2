-- A tick is a run by the published GOTO rules.
use Rattle.std.proofs.Common.{◌≡◌, ℕ, zero, suc, List, sym, refl, ap, ◌∙◌, arith}
use Rattle.reader.specs.Steps.{Next, went, waits, ended, unfit, go_on, count_on, many, many_done}
use Rattle.translator.specs.JumpCode.{AllFit, Box}
use Rattle.translator.specs.GotoRules.{GotoStep}
use Rattle.translator.proofs.GotoRules.{box_step_is_published}
use Rattle.caption_box.specs.declared.types.State.TheVariants.{Time}
use Rattle.caption_box.specs.Calls.{Setting, step, state_of, ticked, tick_box, tick_steps, tick_state}
use Rattle.caption_box.specs.GotoRuns.{rests, goes, GotoTick}

-- a step that is not in time leaves no published step
none_left : (g : Setting) (s : Box) → (state_of (step g s) ≡ Time → ⊥) → AllFit g.need g.code → (ρ : List ℕ) (l : ℕ)
    → GotoStep g.top g.code s.registers s.label ρ l → ⊥
none_left g s not fit ρ l e =
    let r = (box_step_is_published g.top g.need g.code s).every fit ρ l e in
    not (ap (λ (o : Next Box). state_of o) r.1)

pub tick_runs : (g : Setting) (k : ℕ) (s : Box) → GotoTick g k s (ticked g k s) (tick_box g k s)
unfolding tick_box tick_steps tick_state
tick_runs g zero s =
    record { run = rests s.registers s.label; most = omega arith; fewer = λ lt e. omega arith; stopped = λ not fit. none_left g s not fit }
tick_runs g (suc k) s = go (step g s) refl (λ t. tick_runs g k t)
  where
    Tick : Next Box → Type 0
    Tick o = GotoTick g (suc k) s (record { steps = count_on o (many_done (step g) k); state = state_of (step g (go_on o s (many (step g) k))) }) (go_on o s (many (step g) k))

    -- the first step cannot be done
    stays : (o : Next Box) → step g s ≡ o → (state_of o ≡ Time → ⊥) → GotoTick g (suc k) s (record { steps = 0; state = state_of (step g s) }) s
    stays o e not =
        let blocked : state_of (step g s) ≡ Time → ⊥ = λ q. not (ap (λ (x : Next Box). state_of x) (sym e) ∙ q) in
        record { run = rests s.registers s.label; most = omega arith; fewer = λ lt q. blocked q; stopped = λ n fit. none_left g s blocked fit }

    go : (o : Next Box) → step g s ≡ o → ((t : Box) → GotoTick g k t (record { steps = many_done (step g) k t; state = state_of (step g (many (step g) k t)) }) (many (step g) k t)) → Tick o
    go (went t) e ih =
        let r = ih t in
        let few = r.most in
        record {
          run = goes ((box_step_is_published g.top g.need g.code s).only t e) r.run;
          most = omega arith;
          fewer = λ lt q. r.fewer (omega arith) q;
          stopped = r.stopped;
        }
    go waits e ih = stays waits e (λ q. let z : ◌≡◌ {A = ℕ} 0 1 = cc in absurd (omega arith))
    go ended e ih = stays ended e (λ q. let z : ◌≡◌ {A = ℕ} 0 1 = cc in absurd (omega arith))
    go unfit e ih = stays unfit e (λ q. let z : ◌≡◌ {A = ℕ} 0 1 = cc in absurd (omega arith))
