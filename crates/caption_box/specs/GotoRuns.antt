-- Runs by the published GOTO rules, and the run that a tick takes.
use Rattle.std.specs.Prelude.{ℕ, zero, suc, ◌<◌, ◌≤◌, List, ◌≢◌}
use Rattle.translator.specs.declared.types.Instruction.{Instruction}
use Rattle.translator.specs.JumpCode.{AllFit, Box}
use Rattle.translator.specs.GotoRules.{GotoStep}
use Rattle.caption_box.specs.declared.types.State.TheVariants.{Time}
use Rattle.caption_box.specs.declared.types.Ticked.{Ticked}
use Rattle.caption_box.specs.Calls.{Setting}

-- with the code c, (ρ, Ml) goes in so many published steps to (ρ', Ml')
pub data GotoRun (top : ℕ) (c : List Instruction) : ℕ → List ℕ → ℕ → List ℕ → ℕ → Type 0 where
  rests : (ρ : List ℕ) (l : ℕ) → GotoRun top c zero ρ l ρ l
  goes : {n : ℕ} {ρ ρ' ρ'' : List ℕ} {l l' l'' : ℕ} → GotoStep top c ρ l ρ' l' → GotoRun top c n ρ' l' ρ'' l'' → GotoRun top c (suc n) ρ l ρ'' l''

-- a tick of k that answers t takes the box s to s' by published steps: as many as it answers, at most k, and fewer only where it then stands
-- otherwise than in time; and where it stands so, no published step is left, if every instruction of the code fits
pub record GotoTick (g : Setting) (k : ℕ) (s : Box) (t : Ticked) (s' : Box) : Type 0 where
  pub run : GotoRun g.top g.code t.steps s.registers s.label s'.registers s'.label
  pub most : t.steps ≤ k
  pub fewer : t.steps < k → t.state ≢ Time
  pub stopped : (t.state ≢ Time) → AllFit g.need g.code → (ρ : List ℕ) (l : ℕ) → GotoStep g.top g.code s'.registers s'.label ρ l → ⊥
