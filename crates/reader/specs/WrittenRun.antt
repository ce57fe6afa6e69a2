-- The written run of a sheet: the registers, the rest of the sheet, and four counts. One step, and n steps.
use Rattle.std.specs.Prelude.{ℕ, zero, suc, ◌+◌, ◌-◌, List, nat_le, slice_index, slice_set}
use Rattle.reader.specs.Sheet.{Sheet, done, plus, minus, loop, while, then}
use Rattle.reader.specs.Steps.{Next, went, ended, if_low, many}

pub record Counts : Type 0 where
  pub written : ℕ  -- written steps
  pub entered : ℕ  -- LOOPs entered
  pub rounds : ℕ  -- LOOP rounds
  pub whiles : ℕ  -- WHILE rounds

abbrev pub no_counts : Counts
no_counts = record { written = 0; entered = 0; rounds = 0; whiles = 0 }

pub record WrittenRun : Type 0 where
  pub registers : List ℕ
  pub rest : Sheet
  pub counts : Counts

abbrev pub running : List ℕ → Sheet → Counts → WrittenRun
running ρ p n = record { registers = ρ; rest = p; counts = n }

-- n times b, and q behind them
abbrev pub times : ℕ → Sheet → Sheet → Sheet
times zero b q = q
times (suc n) b q = then b (times n b q)

-- an assignment, or a WHILE that vanishes
abbrev pub one_plain : Counts → Counts
one_plain n = record { written = suc n.written; entered = n.entered; rounds = n.rounds; whiles = n.whiles }

-- a LOOP that found v
abbrev pub one_loop : ℕ → Counts → Counts
one_loop v n = record { written = suc n.written; entered = suc n.entered; rounds = n.rounds + v; whiles = n.whiles }

-- a WHILE that found another number than 0
abbrev pub one_while : Counts → Counts
one_while n = record { written = suc n.written; entered = n.entered; rounds = n.rounds; whiles = suc n.whiles }

-- WHILE xi != 0 DO b END; p, where xi holds the first number
abbrev pub after_while : ℕ → ℕ → Sheet → Sheet → List ℕ → Counts → WrittenRun
after_while zero i b p ρ n = running ρ p (one_plain n)
after_while (suc v) i b p ρ n = running ρ (then b (while i b p)) (one_while n)

-- one step of what is left, under a top
abbrev pub written_of : ℕ → List ℕ → Counts → Sheet → Next WrittenRun
written_of top ρ n done = ended
written_of top ρ n (plus i j c p) = if_low (nat_le (slice_index ρ j + c) top) (running (slice_set ρ i (slice_index ρ j + c)) p (one_plain n))
written_of top ρ n (minus i j c p) = went (running (slice_set ρ i (slice_index ρ j - c)) p (one_plain n))
written_of top ρ n (loop i b p) = went (running ρ (times (slice_index ρ i) b p) (one_loop (slice_index ρ i) n))
written_of top ρ n (while i b p) = went (after_while (slice_index ρ i) i b p ρ n)

abbrev pub written_step : ℕ → WrittenRun → Next WrittenRun
written_step top a = written_of top a.registers a.counts a.rest

-- k steps, or as many as can be done
abbrev pub written_steps : ℕ → ℕ → WrittenRun → WrittenRun
written_steps top k a = many (written_step top) k a
