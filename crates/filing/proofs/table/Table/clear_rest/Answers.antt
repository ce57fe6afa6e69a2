use Rattle.std.proofs.Common.{arith}
use Rattle.filing.proofs.Clears.{sweep_more, put_cleared}
use Rattle.filing.proofs.table.Table.clear_rest.Goals as goal

pub loop-cell-preserved : goal.loop-cell-preserved
loop-cell-preserved g c = sweep_more _ _ _ _ c.loop-cell-test.true c.loop-cell.invariant

pub returns-clause-memory : goal.returns-clause-memory
returns-clause-memory g c = put_cleared _ c.loop-cell.cell-index c.args.zero _ _ c.args.self.now.within (omega arith) c.loop-cell.invariant
