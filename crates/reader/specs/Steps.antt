-- What a step of a run comes to, and many steps.
use Rattle.std.specs.Prelude.{ℕ, zero, suc, Bool, true, false}

pub data Next (S : Type 0) : Type 0 where
  went : S → Next S  -- the step was done
  waits : Next S  -- a plus above the top cannot be done
  ended : Next S  -- nothing is left to do, and this is no step
  unfit : Next S  -- an instruction that cannot be obeyed; only jump code has such

abbrev pub if_low : {S : Type 0} → Bool → S → Next S
if_low true s = went s
if_low false s = waits

abbrev pub go_on : {S : Type 0} → Next S → S → (S → S) → S
go_on (went t) s f = f t
go_on waits s f = s
go_on ended s f = s
go_on unfit s f = s

-- k steps, or as many as can be done
abbrev pub many : {S : Type 0} → (S → Next S) → ℕ → S → S
many f zero s = s
many f (suc k) s = go_on (f s) s (many f k)

abbrev pub count_on : {S : Type 0} → Next S → (S → ℕ) → ℕ
count_on (went t) f = suc (f t)
count_on waits f = 0
count_on ended f = 0
count_on unfit f = 0

-- how many of the k steps were done
abbrev pub many_done : {S : Type 0} → (S → Next S) → ℕ → S → ℕ
many_done f zero s = 0
many_done f (suc k) s = count_on (f s) (many_done f k)
