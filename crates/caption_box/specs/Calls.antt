-- What the calls of a show do and answer, over what the show knows and the numbers of its store.
use Rattle.std.specs.Prelude.{◌≡◌, ℕ, ◌+◌, cond, List, ◌++◌, length, drop, Ok, Err, Result, nat_lt}
use Rattle.reader.specs.declared.types.Refusal.{Refusal}
use Rattle.reader.specs.declared.types.Refusal.TheVariants.{NoRegister, OverTop, SmallStore, ManyInputs, LongTick, LongShow}
use Rattle.reader.specs.Steps.{Next, went, waits, ended, unfit}
use Rattle.translator.specs.declared.types.Instruction.{Instruction}
use Rattle.translator.specs.JumpCode.{Box, box_start, box_step, box_steps, box_steps_done}
use Rattle.translator.specs.Following.{over}
use Rattle.stores.specs.Stores.{read_of, write_of, written_of}
use Rattle.caption_box.specs.declared.types.State.{State}
use Rattle.caption_box.specs.declared.types.State.TheVariants.{Ended, Unfit, Over, Time}
use Rattle.caption_box.specs.declared.types.Ticked.{Ticked}
use Rattle.caption_box.specs.declared.types.Question.{Question}
use Rattle.caption_box.specs.declared.types.Question.TheVariants.{Register}
use Rattle.caption_box.specs.declared.types.Question.TheVariants as question
use Rattle.caption_box.specs.Tallies.{largest, tally}
use Rattle.caption_box.specs.Seats.{all_below, entered}

-- what no call changes: the code, its N, and the top of the store
pub record Setting : Type 0 where
  pub code : List Instruction
  pub need : ℕ
  pub top : ℕ

abbrev pub setting : List Instruction → ℕ → ℕ → Setting
setting c n t = record { code = c; need = n; top = t }

-- a show on its store
pub record Scene : Type 0 where
  pub setting : Setting
  pub box : Box

abbrev pub scene : Setting → Box → Scene
scene g s = record { setting = g; box = s }

-- what a call answers, and the scene after it
pub record Outcome (A : Type 0) : Type 0 where
  pub answer : Result A Refusal
  pub after : Scene

abbrev pub outcome : {A : Type 0} → Result A Refusal → Scene → Outcome A
outcome r x = record { answer = r; after = x }

-- one step by the GOTO rules
abbrev pub step : Setting → Box → Next Box
step g s = box_step g.top g.need g.code s

-- how a run stands, by what its next step comes to
abbrev pub state_of : {S : Type 0} → Next S → State
state_of (went s) = Time
state_of waits = Over
state_of ended = Ended
state_of unfit = Unfit

-- the run after a step, where it can be done
abbrev pub onward : {S : Type 0} → Next S → S → S
onward (went t) s = t
onward waits s = s
onward ended s = s
onward unfit s = s

-- steps until k are done, HALT is next, or the next cannot be done; how many these are; and how the show then stands
unfoldable pub tick_box : Setting → ℕ → Box → Box
tick_box g k s = box_steps g.top g.need g.code k s

unfoldable pub tick_steps : Setting → ℕ → Box → ℕ
tick_steps g k s = box_steps_done g.top g.need g.code k s

unfoldable pub tick_state : Setting → ℕ → Box → State
tick_state g k s = state_of (step g (tick_box g k s))

abbrev pub ticked : Setting → ℕ → Box → Ticked
ticked g k s = record { steps = tick_steps g k s; state = tick_state g k s }

-- the largest tally. After any history of a show these are its box steps, and so 34 is a matter of box steps and k (specs/Claim, `largest`).
abbrev pub largest_tally : Box → ℕ
largest_tally s = largest s.steps s.counts

-- tick: 31, 33, 34, or the steps
abbrev pub ticks : Scene → ℕ → Outcome Ticked
ticks x k =
    cond (nat_lt (length x.box.registers) x.setting.need) (outcome (Err SmallStore) x)
    (cond (nat_lt 4096 k) (outcome (Err LongTick) x)
    (cond (nat_lt 1099511627776 (largest_tally x.box + k)) (outcome (Err LongShow) x)
    (outcome (Ok (ticked x.setting k x.box)) (scene x.setting (tick_box x.setting k x.box)))))

-- the beginning: the inputs in x1 and on, 0 in the other registers below N, what lies from N on as it was, at M1, tallies clear
abbrev pub beginning : Setting → List ℕ → List ℕ → Box
beginning g xs ν = box_start (entered g.need xs ++ drop g.need ν)

-- what start and rewind of a run that needs n registers refuse: 31, 32, 22
abbrev pub seats : ℕ → ℕ → List ℕ → List ℕ → Result (Unit {0}) Refusal
seats n top ν xs =
    cond (nat_lt (length ν) n) (Err SmallStore)
    (cond (nat_lt 31 (length xs)) (Err ManyInputs)
    (cond (all_below top xs) (Ok tt) (Err OverTop)))

-- the numbers of the store after them
abbrev pub seated : ℕ → ℕ → List ℕ → List ℕ → List ℕ
seated n top ν xs =
    cond (nat_lt (length ν) n) ν
    (cond (nat_lt 31 (length xs)) ν
    (cond (all_below top xs) (entered n xs ++ drop n ν) ν))

-- a start that is done, and one that is refused
pub record Started (g : Setting) (ν xs : List ℕ) (x : Scene) : Type 0 where
  pub done : seats g.need g.top ν xs ≡ Ok tt
  pub scene : x ≡ scene g (beginning g xs ν)

pub record Unstarted (g : Setting) (ν xs : List ℕ) (e : Refusal) (ν' : List ℕ) : Type 0 where
  pub refused : seats g.need g.top ν xs ≡ Err e
  pub numbers : ν' ≡ ν

-- rewind: 31, 32, 22, or the beginning again
abbrev pub rewinds : Scene → List ℕ → Outcome (Unit {0})
rewinds x xs =
    cond (nat_lt (length x.box.registers) x.setting.need) (outcome (Err SmallStore) x)
    (cond (nat_lt 31 (length xs)) (outcome (Err ManyInputs) x)
    (cond (all_below x.setting.top xs) (outcome (Ok tt) (scene x.setting (beginning x.setting xs x.box.registers))) (outcome (Err OverTop) x)))

-- correct: 31, 21, 22, or a write
abbrev pub corrects : Scene → ℕ → ℕ → Outcome (Unit {0})
corrects x i v =
    cond (nat_lt (length x.box.registers) x.setting.need) (outcome (Err SmallStore) x)
    (cond (nat_lt 31 i) (outcome (Err NoRegister) x)
    (outcome (write_of x.box.registers x.setting.top i v) (scene x.setting (over x.box (written_of x.box.registers x.setting.top i v)))))

abbrev pub told_of : Box → Question → Result ℕ Refusal
told_of s (Register i) = cond (nat_lt 31 i) (Err NoRegister) (read_of s.registers i)
told_of s (question.Tally t) = Ok (tally s.steps s.counts t)

-- ask: 31, 21, or the number
abbrev pub asks : Scene → Question → Result ℕ Refusal
asks x q = cond (nat_lt (length x.box.registers) x.setting.need) (Err SmallStore) (told_of x.box q)
