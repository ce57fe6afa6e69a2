-- What the calls of a rehearsal do and answer, over its sheet, what is left of it, and the numbers of its store.
use Rattle.std.specs.Prelude.{ℕ, ◌+◌, cond, List, ◌++◌, length, drop, Ok, Err, Result, nat_lt}
use Rattle.reader.specs.declared.types.Refusal.{Refusal}
use Rattle.reader.specs.declared.types.Refusal.TheVariants.{NoRegister, OverTop, SmallStore, ManyInputs, LongTick, LongShow}
use Rattle.reader.specs.Sheet.{Sheet}
use Rattle.reader.specs.Steps.{many_done}
use Rattle.reader.specs.WrittenRun.{WrittenRun, running, no_counts, written_step, written_steps}
use Rattle.stores.specs.Stores.{read_of, write_of, written_of}
use Rattle.caption_box.specs.declared.types.Ticked.{Ticked}
use Rattle.caption_box.specs.declared.types.Question.{Question}
use Rattle.caption_box.specs.declared.types.Question.TheVariants.{Register}
use Rattle.caption_box.specs.declared.types.Question.TheVariants as question
use Rattle.caption_box.specs.Tallies.{tally}
use Rattle.caption_box.specs.Seats.{all_below, entered}
use Rattle.caption_box.specs.Calls.{state_of}

-- a rehearsal on its store: the whole sheet, the store's top, and the written run, whose registers are all numbers of the store
pub record WrittenScene : Type 0 where
  pub sheet : Sheet
  pub top : ℕ
  pub run : WrittenRun

abbrev pub written_scene : Sheet → ℕ → WrittenRun → WrittenScene
written_scene p top a = record { sheet = p; top = top; run = a }

-- what a call answers, and the scene after it
pub record WrittenOutcome (A : Type 0) : Type 0 where
  pub answer : Result A Refusal
  pub after : WrittenScene

abbrev pub written_outcome : {A : Type 0} → Result A Refusal → WrittenScene → WrittenOutcome A
written_outcome r x = record { answer = r; after = x }

-- tick: 31, 33, 34 by the written steps, or written steps until k are done, nothing is left, or a plus waits
abbrev pub written_ticks : WrittenScene → ℕ → WrittenOutcome Ticked
written_ticks x k =
    cond (nat_lt (length x.run.registers) 32) (written_outcome (Err SmallStore) x)
    (cond (nat_lt 4096 k) (written_outcome (Err LongTick) x)
    (cond (nat_lt 1099511627776 (x.run.counts.written + k)) (written_outcome (Err LongShow) x)
    (written_outcome
    (Ok (record { steps = many_done (written_step x.top) k x.run; state = state_of (written_step x.top (written_steps x.top k x.run)) }))
    (written_scene x.sheet x.top (written_steps x.top k x.run)))))

-- the beginning: the inputs in x1 and on, 0 in the others of x0 to x31, the whole sheet, clear tallies
abbrev pub written_beginning : Sheet → List ℕ → List ℕ → WrittenRun
written_beginning p xs ν = running (entered 32 xs ++ drop 32 ν) p no_counts

-- rewind: 31, 32, 22, or the beginning again
abbrev pub written_rewinds : WrittenScene → List ℕ → WrittenOutcome (Unit {0})
written_rewinds x xs =
    cond (nat_lt (length x.run.registers) 32) (written_outcome (Err SmallStore) x)
    (cond (nat_lt 31 (length xs)) (written_outcome (Err ManyInputs) x)
    (cond (all_below x.top xs) (written_outcome (Ok tt) (written_scene x.sheet x.top (written_beginning x.sheet xs x.run.registers)))
    (written_outcome (Err OverTop) x)))

-- correct: 31, 21, 22, or a write
abbrev pub written_corrects : WrittenScene → ℕ → ℕ → WrittenOutcome (Unit {0})
written_corrects x i v =
    cond (nat_lt (length x.run.registers) 32) (written_outcome (Err SmallStore) x)
    (cond (nat_lt 31 i) (written_outcome (Err NoRegister) x)
    (written_outcome (write_of x.run.registers x.top i v)
    (written_scene x.sheet x.top (running (written_of x.run.registers x.top i v) x.run.rest x.run.counts))))

-- ask: 31, 21, or the number; box steps are always 0
abbrev pub written_told : WrittenRun → Question → Result ℕ Refusal
written_told a (Register i) = cond (nat_lt 31 i) (Err NoRegister) (read_of a.registers i)
written_told a (question.Tally t) = Ok (tally 0 a.counts t)

abbrev pub written_asks : WrittenScene → Question → Result ℕ Refusal
written_asks x q = cond (nat_lt (length x.run.registers) 32) (Err SmallStore) (written_told x.run q)
