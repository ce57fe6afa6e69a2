-- What the loop of a tick keeps, and what it comes to.
use Rattle.std.proofs.Common.{◌≡◌, ℕ, zero, suc, ◌+◌, ◌<◌, ◌≤◌, sym, refl, ap, ◌∙◌, add-zero, arith}
use Rattle.reader.specs.Steps.{Next, went, waits, ended, unfit, go_on, count_on, many, many_done}
use Rattle.translator.specs.JumpCode.{Box}
use Rattle.caption_box.specs.declared.types.State.{State}
use Rattle.caption_box.specs.declared.types.State.TheVariants.{Time}
use Rattle.caption_box.specs.Calls.{Setting, step, state_of, onward, tick_box, tick_steps, tick_state, largest_tally}
use Rattle.caption_box.proofs.ManySteps.{went_on, stayed, Ran, ran_more, came_stopped, came_all}
use Rattle.caption_box.proofs.Steps.{step_grows, grows_largest, grows_even}

-- after n steps of a tick the show, which began at s₀, stands at s
pub record Going (g₀ : Setting) (s₀ : Box) (n : ℕ) (g : Setting) (s : Box) : Type 0 where
  pub same : g ≡ g₀
  pub tallied : largest_tally s ≤ largest_tally s₀ + n
  pub ran : Ran (step g₀) s₀ n s

-- one step more, from s to t
pub going_more : (g₀ : Setting) (s₀ : Box) (n : ℕ) (g : Setting) (s : Box) (g' : Setting) (t : Box) (o : State) → Going g₀ s₀ n g s
    → g' ≡ g → o ≡ state_of (step g s) → t ≡ onward (step g s) s → o ≡ Time → Going g₀ s₀ (n + 1) g' t
going_more g₀ s₀ n g s g' t o h eg eo et time =
    let did : step g s ≡ went t = went_on (step g s) s (sym eo ∙ time) ∙ ap went (sym et) in
    let here : step g₀ s ≡ went t = ap (λ (x : Setting). step x s) (sym h.same) ∙ did in
    let grown = step_grows g s t did in
    record {
      same = eg ∙ h.same;
      tallied = omega (arith, h.tallied, grows_largest s t grown);
      ran = ran_more (step g₀) s₀ n s t h.ran here;
    }

-- what a tick comes to
pub record Gone (g₀ : Setting) (k : ℕ) (s₀ : Box) (g : Setting) (t : Box) (n : ℕ) (o : State) : Type 0 where
  pub setting : g ≡ g₀
  pub moved : t ≡ tick_box g₀ k s₀
  pub steps : n ≡ tick_steps g₀ k s₀
  pub state : o ≡ tick_state g₀ k s₀

-- the next step could not be done
pub gone_stopped : (g₀ : Setting) (s₀ : Box) (k n : ℕ) (g : Setting) (s : Box) (g' : Setting) (t : Box) (o : State) → Going g₀ s₀ n g s → n < k
    → g' ≡ g → o ≡ state_of (step g s) → t ≡ onward (step g s) s → (o ≡ Time → ⊥) → Gone g₀ k s₀ g' t n o
unfolding tick_box tick_steps tick_state
gone_stopped g₀ s₀ k n g s g' t o h lt eg eo et stop =
    let at : o ≡ state_of (step g₀ s) = eo ∙ ap (λ (x : Setting). state_of (step x s)) h.same in
    let came = came_stopped (step g₀) s₀ k n s h.ran (omega arith) (λ e. stop (at ∙ e)) in
    record {
      setting = eg ∙ h.same;
      moved = et ∙ stayed (step g s) s (λ e. stop (eo ∙ e)) ∙ came.moved;
      steps = came.steps;
      state = at ∙ ap (λ (x : Box). state_of (step g₀ x)) came.moved;
    }

-- all k are done
pub gone_all : (g₀ : Setting) (s₀ : Box) (k n : ℕ) (g : Setting) (s : Box) (o : State) → Going g₀ s₀ n g s → n ≡ k → o ≡ state_of (step g s) → Gone g₀ k s₀ g s k o
unfolding tick_box tick_steps tick_state
gone_all g₀ s₀ k n g s o h e eo =
    let came = came_all (step g₀) s₀ k n s h.ran e in
    record {
      setting = h.same;
      moved = came.moved;
      steps = came.steps;
      state = eo ∙ ap (λ (x : Setting). state_of (step x s)) h.same ∙ ap (λ (x : Box). state_of (step g₀ x)) came.moved;
    }

-- where no tally is above the box steps, none is after a tick
pub tick_even : (g : Setting) (k : ℕ) (s : Box) → largest_tally s ≡ s.steps → largest_tally (tick_box g k s) ≡ (tick_box g k s).steps
unfolding tick_box
tick_even g zero s h = h
tick_even g (suc k) s h = go (step g s) refl (tick_even g k)
  where
    go : (o : Next Box) → step g s ≡ o → ((t : Box) → largest_tally t ≡ t.steps → largest_tally (many (step g) k t) ≡ (many (step g) k t).steps)
        → largest_tally (go_on o s (many (step g) k)) ≡ (go_on o s (many (step g) k)).steps
    go (went t) e ih = ih t (grows_even s t (step_grows g s t e) h)
    go waits e ih = h
    go ended e ih = h
    go unfit e ih = h

-- the box steps grow by the steps that were done
pub tick_adds : (g : Setting) (k : ℕ) (s : Box) → (tick_box g k s).steps ≡ s.steps + tick_steps g k s
unfolding tick_box tick_steps
tick_adds g zero s = sym (add-zero s.steps)
tick_adds g (suc k) s = go (step g s) refl (tick_adds g k)
  where
    go : (o : Next Box) → step g s ≡ o → ((t : Box) → (many (step g) k t).steps ≡ t.steps + many_done (step g) k t)
        → (go_on o s (many (step g) k)).steps ≡ s.steps + count_on o (many_done (step g) k)
    go (went t) e ih = let a = ih t in let b = (step_grows g s t e).steps in omega arith
    go waits e ih = sym (add-zero s.steps)
    go ended e ih = sym (add-zero s.steps)
    go unfit e ih = sym (add-zero s.steps)
