-- The history of a rehearsal, and what ties it to a show: a course, which is what the written run of a history did since its start or its
-- latest rewind.
use Rattle.std.specs.Prelude.{◌≡◌, ℕ, ◌≤◌, List, [], ◌∷◌, length, take, Ok}
use Rattle.reader.specs.declared.types.Refusal.{Refusal}
use Rattle.reader.specs.Sheet.{Sheet}
use Rattle.reader.specs.WrittenRun.{running}
use Rattle.translator.specs.Following.{Playable}
use Rattle.caption_box.specs.declared.types.Ticked.{Ticked}
use Rattle.caption_box.specs.declared.types.Question.{Question}
use Rattle.caption_box.specs.Calls.{Scene, seats}
use Rattle.caption_box.specs.History.{Call, History, started, ticked, corrected, rewound, asked, refused, account, Past}
use Rattle.caption_box.specs.WrittenCalls.{WrittenScene, written_scene, written_outcome, written_ticks, written_rewinds, written_corrects, written_asks, written_beginning}

-- The histories that lead a rehearsal of the sheet p to a scene; between calls others may change the store from x32 on.
pub data WrittenPast (p : Sheet) : History → WrittenScene → Type 0 where
  rehearsal_start : (top : ℕ) (xs ν : List ℕ) (x : WrittenScene) → seats 32 top ν xs ≡ Ok tt → x ≡ written_scene p top (written_beginning p xs ν)
      → WrittenPast p (started xs) x
  rehearsal_tick : (k : ℕ) (t : Ticked) (h : History) (x y : WrittenScene) → WrittenPast p h x → written_outcome (Ok t) y ≡ written_ticks x k
      → WrittenPast p (ticked k t y.run.counts.written h) y
  rehearsal_correct : (i v : ℕ) (h : History) (x y : WrittenScene) → WrittenPast p h x → written_outcome (Ok tt) y ≡ written_corrects x i v → WrittenPast p (corrected i v h) y
  rehearsal_rewind : (xs : List ℕ) (h : History) (x y : WrittenScene) → WrittenPast p h x → written_outcome (Ok tt) y ≡ written_rewinds x xs → WrittenPast p (rewound xs h) y
  rehearsal_ask : (q : Question) (v : ℕ) (h : History) (x : WrittenScene) → WrittenPast p h x → Ok v ≡ written_asks x q → WrittenPast p (asked q v h) x
  rehearsal_refusal : (c : Call) (e : Refusal) (h : History) (x : WrittenScene) → WrittenPast p h x → WrittenPast p (refused c e h) x
  rehearsal_between : (h : History) (x : WrittenScene) (ν : List ℕ) → WrittenPast p h x → 32 ≤ length ν → take 32 ν ≡ take 32 x.run.registers
      → WrittenPast p h (written_scene x.sheet x.top (running ν x.run.rest x.run.counts))

-- a correction: the written steps before it, the register and the number
pub record Correction : Type 0 where
  pub at : ℕ
  pub register : ℕ
  pub value : ℕ

-- the inputs, the corrections, the latest first, and the written steps in all
pub record Course : Type 0 where
  pub inputs : List ℕ
  pub corrections : List Correction
  pub steps : ℕ

abbrev pub course_of : History → Course
course_of (started xs) = record { inputs = xs; corrections = []; steps = 0 }
course_of (ticked k t w h) = record { inputs = (course_of h).inputs; corrections = (course_of h).corrections; steps = w }
course_of (corrected i v h) =
    record { inputs = (course_of h).inputs; corrections = record { at = (course_of h).steps; register = i; value = v } ∷ (course_of h).corrections; steps = (course_of h).steps }
course_of (rewound xs h) = record { inputs = xs; corrections = []; steps = 0 }
course_of (asked q v h) = course_of h
course_of (refused c e h) = course_of h

-- a rehearsal's run is that of the account, seen on x0 to x31
abbrev pub RehearsalFollows : Type 0
RehearsalFollows =
    (p : Sheet) → Playable p → (h : History) (x : WrittenScene) → WrittenPast p h x
    → running (take 32 x.run.registers) x.run.rest x.run.counts ≡ (account x.top p h).run

-- a show and a rehearsal of one sheet, on stores of the same top, with the same inputs, the same corrections at the same written steps and as
-- many written steps: x0 to x31 agree
abbrev pub RehearsalAndShowAgree : Type 0
RehearsalAndShowAgree =
    (p : Sheet) (h k : History) (x : Scene) (y : WrittenScene) → Past p h x → WrittenPast p k y → y.top ≡ x.setting.top → course_of k ≡ course_of h
    → take 32 y.run.registers ≡ take 32 x.box.registers
