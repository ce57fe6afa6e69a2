-- What is claimed of the box beside the written run: step by step, and over whole runs.
use Rattle.std.specs.Prelude.{◌≡◌, ℕ, ◌+◌, ◌*◌, ◌<◌, ◌≤◌, ◌⊎◌, List, length, take, slice_index, slice_set}
use Rattle.std.proofs.Math.Option.{some}
use Rattle.reader.specs.Sheet.{Sheet, done, Some, Whole, Fit, Within, depth}
use Rattle.reader.specs.Symbols.{Symbol}
use Rattle.reader.specs.Grammar.{Spells}
use Rattle.reader.specs.Steps.{Next, went, waits, ended, unfit}
use Rattle.reader.specs.WrittenRun.{WrittenRun, running, no_counts, written_step, written_steps}
use Rattle.translator.specs.declared.types.Role.{Role}
use Rattle.translator.specs.declared.types.Role.TheVariants.{Halt, Written, Entry, Test, Down, Jump}
use Rattle.translator.specs.declared.types.Instruction.{Instruction}
use Rattle.translator.specs.JumpCode.{halt, instruction_at, Box, box_start, box_step, box_steps}
use Rattle.translator.specs.Counters.{sheet_width}
use Rattle.translator.specs.Translation.{compiled}
use Rattle.translator.specs.Standing.{Stands}

-- a sheet that is translated: some statements, no empty body, registers x0 to x31
pub record Playable (p : Sheet) : Type 0 where
  pub some : Some p
  pub whole : Whole p
  pub fit : Fit p

-- every sheet that the reader accepts is one
abbrev pub SpelledSheetIsPlayable : Type 0
SpelledSheetIsPlayable = (xs : List Symbol) (p : Sheet) → Spells xs p → Within p → Playable p

-- no number is above the top
abbrev pub Low : ℕ → List ℕ → Type 0
Low top ν = (i : ℕ) → slice_index ν i ≤ top

-- one step of the box of a sheet
abbrev pub sheet_step : ℕ → Sheet → Box → Next Box
sheet_step top p s = box_step top (sheet_width p) (compiled p) s

abbrev pub sheet_steps : ℕ → Sheet → ℕ → Box → Box
sheet_steps top p k s = box_steps top (sheet_width p) (compiled p) k s

-- HALT is next
abbrev pub Halted : Sheet → Box → Type 0
Halted p s = instruction_at (compiled p) s.label ≡ some halt

-- counter test, counter down and jump are the roles of silent steps
abbrev pub Silent : Role → Type 0
Silent Test = Unit {0}
Silent Down = Unit {0}
Silent Jump = Unit {0}
Silent Written = ⊥
Silent Entry = ⊥
Silent Halt = ⊥

abbrev pub Wrote : Role → Type 0
Wrote Written = Unit {0}
Wrote Entry = Unit {0}
Wrote Test = ⊥
Wrote Down = ⊥
Wrote Jump = ⊥
Wrote Halt = ⊥

-- the next instruction has such a role
abbrev pub RoleAt : List Instruction → ℕ → (Role → Type 0) → Type 0
RoleAt c l Q = (x : Instruction) × (instruction_at c l ≡ some x) × Q x.role

-- what a step of the box s comes to beside the written run a that it stands for
pub data BoxStepped (top : ℕ) (p : Sheet) (s : Box) (a : WrittenRun) : Type 0 where
  silently : (t : Box) → RoleAt (compiled p) s.label Silent → sheet_step top p s ≡ went t → t.counts.written ≡ s.counts.written
      → Stands top p t a → BoxStepped top p s a
  as_written : (t : Box) (b : WrittenRun) → RoleAt (compiled p) s.label Wrote → sheet_step top p s ≡ went t → written_step top a ≡ went b
      → Stands top p t b → BoxStepped top p s a
  blocked : sheet_step top p s ≡ waits → written_step top a ≡ waits → BoxStepped top p s a
  at_halt : Halted p s → sheet_step top p s ≡ ended → a.rest ≡ done → BoxStepped top p s a

-- a step of the box is silent or one written step, or both are blocked, or both have ended
abbrev pub BoxStepIsWrittenOrSilent : Type 0
BoxStepIsWrittenOrSilent = (top : ℕ) (p : Sheet) (s : Box) (a : WrittenRun) → Stands top p s a → BoxStepped top p s a

-- the box does next what the written run comes to next
abbrev pub DoesNext : ℕ → Sheet → Next WrittenRun → Box → Type 0
DoesNext top p (went b) s = (t : Box) × (sheet_step top p s ≡ went t) × Stands top p t b
DoesNext top p waits s = sheet_step top p s ≡ waits
DoesNext top p ended s = Halted p s
DoesNext top p unfit s = ⊥

-- after some silent steps, at most 2 x depth + 1, the next step of the box is that of the written run
pub record KeepsUp (top : ℕ) (p : Sheet) (s : Box) (a : WrittenRun) : Type 0 where
  pub silent : ℕ
  pub few : silent ≤ 2 * depth p + 1
  pub stands : Stands top p (sheet_steps top p silent s) a
  pub next : DoesNext top p (written_step top a) (sheet_steps top p silent s)

abbrev pub BoxKeepsUp : Type 0
BoxKeepsUp = (top : ℕ) (p : Sheet) (s : Box) (a : WrittenRun) → Stands top p s a → KeepsUp top p s a

-- before M1 a box stands for the whole sheet, whatever its counters hold
abbrev pub StartStands : Type 0
StartStands =
    (top : ℕ) (p : Sheet) (ν : List ℕ) → Playable p → sheet_width p ≤ length ν → Low top ν
    → Stands top p (box_start ν) (running (take 32 ν) p no_counts)

-- the box with other numbers
abbrev pub over : Box → List ℕ → Box
over s ν = record { label = s.label; registers = ν; steps = s.steps; counts = s.counts }

-- a correction of one of x0 to x31 in both
abbrev pub CorrectionStands : Type 0
CorrectionStands =
    (top : ℕ) (p : Sheet) (s : Box) (a : WrittenRun) (i v : ℕ) → i ≤ 31 → v ≤ top → Stands top p s a
    → Stands top p (over s (slice_set s.registers i v)) (running (slice_set a.registers i v) a.rest a.counts)

-- only registers below N matter
abbrev pub BeyondWidthIsFree : Type 0
BeyondWidthIsFree =
    (top : ℕ) (p : Sheet) (s : Box) (a : WrittenRun) (ν : List ℕ) → take (sheet_width p) ν ≡ take (sheet_width p) s.registers
    → sheet_width p ≤ length ν → Low top ν → Stands top p s a → Stands top p (over s ν) a

-- at HALT the written run has ended, and the tallies are its counts and meet the step formula
pub record Settled (s : Box) (a : WrittenRun) : Type 0 where
  pub rest : a.rest ≡ done
  pub counts : a.counts ≡ s.counts
  pub formula : s.steps ≡ s.counts.written + s.counts.entered + 3 * s.counts.rounds + s.counts.whiles
  pub bound : s.steps + 3 ≤ 5 * s.counts.written

-- k box steps on: a written step was among them, or HALT is reached, or they stopped at an addition at which the written run waits too
abbrev pub Moves : ℕ → Sheet → ℕ → Box → WrittenRun → Type 0
Moves top p k s a =
    (s.counts.written < (sheet_steps top p k s).counts.written)
    ⊎ (Halted p (sheet_steps top p k s) ⊎ ((sheet_step top p (sheet_steps top p k s) ≡ waits) × (written_step top a ≡ waits)))

-- what holds of a box and the written run beside it at every moment
pub record Agrees (top : ℕ) (p : Sheet) (s : Box) (a : WrittenRun) : Type 0 where
  pub registers : a.registers ≡ take 32 s.registers
  pub written : a.counts.written ≡ s.counts.written
  pub fits : sheet_step top p s ≡ unfit → ⊥
  pub ends : Halted p s → Settled s a
  pub moves : Moves top p (2 * depth p + 2) s a

abbrev pub StandingBoxAgrees : Type 0
StandingBoxAgrees = (top : ℕ) (p : Sheet) (s : Box) (a : WrittenRun) → Stands top p s a → Agrees top p s a

-- what the box has yet to do of the step formula: jumps back and last tests of the levels around it
pub record Owes (p : Sheet) (s : Box) : Type 0 where
  pub owed : ℕ
  pub account : s.steps + owed ≡ s.counts.written + s.counts.entered + 3 * s.counts.rounds + s.counts.whiles
  pub small : owed ≤ 2 * depth p

abbrev pub StepsAreAccounted : Type 0
StepsAreAccounted = (top : ℕ) (p : Sheet) (s : Box) (a : WrittenRun) → Stands top p s a → Owes p s

-- many box steps stand for as many written steps as the tally says
abbrev pub BoxStepsStand : Type 0
BoxStepsStand =
    (top : ℕ) (p : Sheet) (s : Box) (a : WrittenRun) (k : ℕ) → Stands top p s a
    → (w : ℕ) × ((sheet_steps top p k s).counts.written ≡ s.counts.written + w) × Stands top p (sheet_steps top p k s) (written_steps top w a)

-- the whole run of a sheet from any registers: at every moment the box agrees with the written run after the tallied written steps
abbrev pub BoxFollowsWritten : Type 0
BoxFollowsWritten =
    (top : ℕ) (p : Sheet) (ν : List ℕ) → Playable p → sheet_width p ≤ length ν → Low top ν
    → (k : ℕ) → Agrees top p (sheet_steps top p k (box_start ν)) (written_steps top (sheet_steps top p k (box_start ν)).counts.written (running (take 32 ν) p no_counts))
