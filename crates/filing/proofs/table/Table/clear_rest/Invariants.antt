use Rattle.std.proofs.Common.{◌≡◌}
use Rattle.filing.proofs.Clears.{swept}
use Rattle.filing.proofs.table.Table.clear_rest.Given as goal

abbrev pub invariant-loop-cell : goal.invariant-loop-cell
invariant-loop-cell g l = l.cell-items ≡ swept l.cell-index l.zero l.initial.cell-items
