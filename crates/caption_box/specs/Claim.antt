-- What is claimed of a show beside the account of its sheet, after any history.
use Rattle.std.specs.Prelude.{◌≡◌, ℕ, ◌+◌, ◌*◌, ◌<◌, ◌⊎◌, List, take, IfOk, Err, Result, slice_index}
use Rattle.std.proofs.Math.Option.{some}
use Rattle.reader.specs.declared.types.Refusal.{Refusal}
use Rattle.reader.specs.Sheet.{Sheet, depth}
use Rattle.reader.specs.Steps.{waits, unfit}
use Rattle.reader.specs.WrittenRun.{WrittenRun, written_step}
use Rattle.translator.specs.JumpCode.{halt, instruction_at, Box}
use Rattle.translator.specs.Following.{Settled}
use Rattle.caption_box.specs.declared.show.Show.{Show}
use Rattle.caption_box.specs.Calls.{Setting, Scene, step, ticked, tick_box, largest_tally}
use Rattle.caption_box.specs.GotoRuns.{GotoTick}
use Rattle.caption_box.specs.Shows.{scene_of}
use Rattle.caption_box.specs.History.{Account, account, Plays, Call, History, refused, Past}

-- HALT is next
abbrev pub HaltNext : Setting → Box → Type 0
HaltNext g s = instruction_at g.code s.label ≡ some halt

-- among the next n steps of the show is a written one, or they reach HALT, or they stop at an addition at which the written run a waits too
abbrev pub Moves : Setting → ℕ → Box → WrittenRun → Type 0
Moves g n s a =
    (s.counts.written < (tick_box g n s).counts.written)
    ⊎ (HaltNext g (tick_box g n s) ⊎ ((step g (tick_box g n s) ≡ waits) × (written_step g.top a ≡ waits)))

-- a show of the sheet p stands at the box s, and its account is a
pub record Agrees (p : Sheet) (g : Setting) (s : Box) (a : Account) : Type 0 where
  -- 1. x0 to x31 are those of the account, whose written run has come to the tallied written steps
  pub registers : take 32 s.registers ≡ a.run.registers
  pub written : s.counts.written ≡ a.run.counts.written
  -- 2. the box steps are those of the account; and at HALT the written sheet has ended, the tallies are its counts and meet the step formula
  pub steps : s.steps ≡ a.steps
  pub ends : HaltNext g s → Settled s a.run
  -- 3. the next 2 x depth + 2 steps go by the GOTO rules, and they come to a written step, to HALT, or to an addition that stops the written run too
  pub goes : GotoTick g (2 * depth p + 2) s (ticked g (2 * depth p + 2) s) (tick_box g (2 * depth p + 2) s)
  pub moves : Moves g (2 * depth p + 2) s a.run
  -- besides: the code is the sheet's, its next instruction can always be obeyed, and no tally is above the box steps
  pub plays : Plays p g
  pub fits : step g s ≡ unfit → ⊥
  pub largest : largest_tally s ≡ s.steps

-- the history leads here, and what is claimed holds here
pub record Follows (p : Sheet) (h : History) (x : Scene) : Type 0 where
  pub past : Past p h x
  pub agrees : Agrees p x.setting x.box (account x.setting.top p h)

-- a call that took a show from x to y carries the claim on, for any history that led to x
abbrev pub Carries : Scene → (History → History) → Scene → Type 0
Carries x add y = (p : Sheet) (h : History) → Past p h x → Follows p (add h) y

-- so does a refused call, whichever store it was given, for the store that the show stands on
abbrev pub CarriesRefused : {A : Type 0} → Call → Result A Refusal → Show → Show → Type 0
CarriesRefused c r s t =
    (p : Sheet) (h : History) (e : Refusal) (ν : List ℕ) (top : ℕ) → r ≡ Err e → Past p h (scene_of s ν top) → Follows p (refused c e h) (scene_of t ν top)

-- the line on the screen is that of the account
abbrev pub LineFollows : Scene → Result ℕ Refusal → Type 0
LineFollows x r =
    (p : Sheet) (h : History) → Past p h x → Follows p h x × IfOk r (λ v. v ≡ slice_index (account x.setting.top p h).run.registers 0)
