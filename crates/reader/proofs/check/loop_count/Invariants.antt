use Rattle.std.proofs.Common.{◌≡◌, ◌+◌, ◌≤◌, drop}
use Rattle.reader.specs.Checks.{loops_in}
use Rattle.reader.proofs.check.loop_count.Given as goal

abbrev pub invariant-loop-r : goal.invariant-loop-r
invariant-loop-r l = (l.count + loops_in (drop l.r-index l.records) ≡ loops_in l.records) × (l.count ≤ l.r-index)
