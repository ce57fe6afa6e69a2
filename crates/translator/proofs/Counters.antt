-- What the simulation uses of the rule for counters, and no more.
use Rattle.std.proofs.Common.{ℕ, ◌<◌, ◌≤◌, arith}
use Rattle.reader.specs.Sheet.{Sheet, plus, minus, loop, while}
use Rattle.translator.specs.Counters.{first_counter, inside_loop, behind_loop, behind_while, counters_end}

-- counters are none of x0 to x31, and below N
pub first_high : 32 ≤ first_counter
first_high = omega arith

pub ends_above : (c : ℕ) (p : Sheet) → c ≤ counters_end c p
ends_above c p = omega arith

-- the counters of a LOOP's body are above the LOOP's own, and all stay below the end
pub record LoopCounters (c i : ℕ) (b p : Sheet) : Type 0 where
  pub own : c < counters_end c (loop i b p)
  pub inner : c < inside_loop c
  pub body : counters_end (inside_loop c) b ≤ counters_end c (loop i b p)
  pub later : c ≤ behind_loop c b
  pub after : counters_end (behind_loop c b) p ≤ counters_end c (loop i b p)

pub loop_counters : (c i : ℕ) (b p : Sheet) → LoopCounters c i b p
loop_counters c i b p = record { own = omega arith; inner = omega arith; body = omega arith; later = omega arith; after = omega arith }

pub record WhileCounters (c i : ℕ) (b p : Sheet) : Type 0 where
  pub body : counters_end c b ≤ counters_end c (while i b p)
  pub later : c ≤ behind_while c b
  pub after : counters_end (behind_while c b) p ≤ counters_end c (while i b p)

pub while_counters : (c i : ℕ) (b p : Sheet) → WhileCounters c i b p
while_counters c i b p = record { body = omega arith; later = omega arith; after = omega arith }

pub plus_counters : (c i j k : ℕ) (p : Sheet) → counters_end c p ≤ counters_end c (plus i j k p)
plus_counters c i j k p = omega arith

pub minus_counters : (c i j k : ℕ) (p : Sheet) → counters_end c p ≤ counters_end c (minus i j k p)
minus_counters c i j k p = omega arith
