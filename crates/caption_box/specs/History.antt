-- The history of a show: its calls with their answers, the last one outermost. The account of the written sheet beside it is fed the calls with
-- their arguments, which of them were refused, the steps that ticks answered and the tally of written steps after each tick, and nothing else.
use Rattle.std.specs.Prelude.{◌≡◌, ℕ, ◌+◌, ◌-◌, ◌≤◌, List, length, take, Ok, Err, Result, slice_set}
use Rattle.reader.specs.declared.types.Refusal.{Refusal}
use Rattle.reader.specs.Sheet.{Sheet}
use Rattle.reader.specs.WrittenRun.{WrittenRun, running, no_counts, written_steps}
use Rattle.translator.specs.Counters.{sheet_width}
use Rattle.translator.specs.Translation.{compiled}
use Rattle.translator.specs.Following.{Playable, Low, over}
use Rattle.caption_box.specs.declared.types.Ticked.{Ticked}
use Rattle.caption_box.specs.declared.types.Question.{Question}
use Rattle.caption_box.specs.Seats.{entered}
use Rattle.caption_box.specs.Calls.{Setting, Scene, scene, outcome, seats, beginning, ticks, rewinds, corrects, asks}

-- the calls of a show with their arguments
pub data Call : Type 0 where
  tick_call : ℕ → Call
  correct_call : ℕ → ℕ → Call
  rewind_call : List ℕ → Call
  ask_call : Question → Call

pub data History : Type 0 where
  started : List ℕ → History  -- with these inputs
  ticked : ℕ → Ticked → ℕ → History → History  -- k, the answer, and the tally of written steps after it
  corrected : ℕ → ℕ → History → History
  rewound : List ℕ → History → History
  asked : Question → ℕ → History → History
  refused : Call → Refusal → History → History

-- the history with a call more, by its answer
abbrev pub add_tick : ℕ → Result Ticked Refusal → ℕ → History → History
add_tick k (Ok t) w h = ticked k t w h
add_tick k (Err e) w h = refused (tick_call k) e h

abbrev pub add_correct : ℕ → ℕ → Result (Unit {0}) Refusal → History → History
add_correct i v (Ok u) h = corrected i v h
add_correct i v (Err e) h = refused (correct_call i v) e h

abbrev pub add_rewind : List ℕ → Result (Unit {0}) Refusal → History → History
add_rewind xs (Ok u) h = rewound xs h
add_rewind xs (Err e) h = refused (rewind_call xs) e h

abbrev pub add_ask : Question → Result ℕ Refusal → History → History
add_ask q (Ok v) h = asked q v h
add_ask q (Err e) h = refused (ask_call q) e h

-- the account: a written run with its four counts, and box steps
pub record Account : Type 0 where
  pub run : WrittenRun
  pub steps : ℕ

-- start or rewind: the inputs in x1, x2 and on, 0 in the rest of x0 to x31, the whole sheet, and clear counts
abbrev pub account_start : Sheet → List ℕ → Account
account_start p xs = record { run = running (entered 32 xs) p no_counts; steps = 0 }

-- a tick that answered so many steps, with that tally of written steps after it: the run goes on to that tally
abbrev pub account_tick : ℕ → ℕ → ℕ → Account → Account
account_tick top did w a = record { run = written_steps top (w - a.run.counts.written) a.run; steps = a.steps + did }

abbrev pub account_correct : ℕ → ℕ → Account → Account
account_correct i v a = record { run = running (slice_set a.run.registers i v) a.run.rest a.run.counts; steps = a.steps }

-- the account of the sheet p, under a top
abbrev pub account : ℕ → Sheet → History → Account
account top p (started xs) = account_start p xs
account top p (ticked k t w h) = account_tick top t.steps w (account top p h)
account top p (corrected i v h) = account_correct i v (account top p h)
account top p (rewound xs h) = account_start p xs
account top p (asked q v h) = account top p h
account top p (refused c e h) = account top p h

-- the code of a show is the translation of the sheet
pub record Plays (p : Sheet) (g : Setting) : Type 0 where
  pub playable : Playable p
  pub code : g.code ≡ compiled p
  pub need : g.need ≡ sheet_width p

-- the same registers below N, under the same top
pub record SameBelow (x : Scene) (ν : List ℕ) : Type 0 where
  pub registers : take x.setting.need ν ≡ take x.setting.need x.box.registers
  pub room : x.setting.need ≤ length ν
  pub low : Low x.setting.top ν

-- The histories that lead a show of the sheet p to a scene. A call that is done has its own outcome; a refused one, on whichever store, leaves
-- the scene as it is; and between calls others may change the store from register N on.
pub data Past (p : Sheet) : History → Scene → Type 0 where
  on_start : (g : Setting) (xs ν : List ℕ) (x : Scene) → Plays p g → Low g.top ν → seats g.need g.top ν xs ≡ Ok tt → x ≡ scene g (beginning g xs ν)
      → Past p (started xs) x
  on_tick : (k : ℕ) (t : Ticked) (h : History) (x y : Scene) → Past p h x → outcome (Ok t) y ≡ ticks x k
      → Past p (ticked k t y.box.counts.written h) y
  on_correct : (i v : ℕ) (h : History) (x y : Scene) → Past p h x → outcome (Ok tt) y ≡ corrects x i v → Past p (corrected i v h) y
  on_rewind : (xs : List ℕ) (h : History) (x y : Scene) → Past p h x → outcome (Ok tt) y ≡ rewinds x xs → Past p (rewound xs h) y
  on_ask : (q : Question) (v : ℕ) (h : History) (x : Scene) → Past p h x → Ok v ≡ asks x q → Past p (asked q v h) x
  on_refusal : (c : Call) (e : Refusal) (h : History) (x : Scene) → Past p h x → Past p (refused c e h) x
  between : (h : History) (x : Scene) (ν : List ℕ) → Past p h x → SameBelow x ν → Past p h (scene x.setting (over x.box ν))
