-- A written step by the record of its statement: whether it can be done, what it stores and what it counts. proofs/WrittenSteps shows that the pieces
-- make just the step of the written run.
use Rattle.std.specs.Prelude.{ℕ, zero, suc, ◌+◌, ◌-◌, ◌*◌, ◌≤◌, cond, ◌&&◌, List, nat_le, nat_lt, slice_index, slice_set}
use Rattle.reader.specs.declared.types.Statement.{Statement}
use Rattle.reader.specs.declared.types.Kind.{Kind}
use Rattle.reader.specs.declared.types.Kind.TheVariants.{Zero, Plus, Minus, Loop, While}
use Rattle.reader.specs.WrittenRun.{Counts, one_plain, one_loop, one_while}
use Rattle.caption_box.specs.declared.rehearsal.counting.WrittenTallies.{WrittenTallies}
use Rattle.caption_box.specs.declared.types.State.{State}
use Rattle.caption_box.specs.declared.types.State.TheVariants.{Ended, Unfit, Over, Time}

-- what the source of a statement holds
abbrev pub found_in : List ℕ → Statement → ℕ
found_in ν s = slice_index ν s.source

-- whether a statement of that kind can be done, under a top
abbrev pub kind_fate : Kind → ℕ → List ℕ → Statement → State
kind_fate Zero top ν s = Ended
kind_fate Plus top ν s = cond (nat_le (found_in ν s + s.constant) top) Time Over
kind_fate Minus top ν s = Time
kind_fate Loop top ν s = Time
kind_fate While top ν s = Time

-- whether a statement can be done; the records of a sheet name x0 to x31 alone
abbrev pub written_fate : ℕ → List ℕ → Statement → State
written_fate top ν s = cond (nat_lt s.target 32 && nat_lt s.source 32) (kind_fate s.kind top ν s) Unfit

-- the registers after it
abbrev pub written_stored : Kind → List ℕ → Statement → List ℕ
written_stored Zero ν s = ν
written_stored Plus ν s = slice_set ν s.target (found_in ν s + s.constant)
written_stored Minus ν s = slice_set ν s.target (found_in ν s - s.constant)
written_stored Loop ν s = ν
written_stored While ν s = ν

abbrev pub counted_while : ℕ → Counts → Counts
counted_while zero n = one_plain n
counted_while (suc v) n = one_while n

-- the counts after it, by what its source held
abbrev pub written_counted : Kind → ℕ → Counts → Counts
written_counted Zero v n = n
written_counted Plus v n = one_plain n
written_counted Minus v n = one_plain n
written_counted Loop v n = one_loop v n
written_counted While v n = counted_while v n

-- the tallies of a rehearsal as counts
abbrev pub written_counts : WrittenTallies → Counts
written_counts t = record { written = t.written; entered = t.entered; rounds = t.rounds; whiles = t.whiles }

-- at most 2 ^ 40 written steps, and no more LOOPs, rounds and WHILE rounds than so many steps can count
pub record Counted (n : Counts) : Type 0 where
  pub steps : n.written ≤ 1099511627776
  pub entered : n.entered ≤ n.written
  pub whiles : n.whiles ≤ n.written
  pub rounds : n.rounds ≤ n.written * 4294967295
