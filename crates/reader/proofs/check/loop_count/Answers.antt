use Rattle.std.proofs.Common.{arith}
use Rattle.reader.proofs.Checking.{loops_more, loops_all}
use Rattle.reader.proofs.check.loop_count.Goals as goal

pub loop-r-preserved : goal.loop-r-preserved
loop-r-preserved c = (
  loops_more c.args.records.now c.loop-r.r-index c.loop-r.count c.loop_number-count.result (omega arith) c.loop_number-count.ensures.value c.loop-r.invariant.0,
  omega (arith, c.loop-r.invariant.1, c.loop_number-count.ensures.small),
)

pub returns : goal.returns
returns c = loops_all c.args.records.now c.loop-r.r-index c.loop-r.count (omega arith) c.loop-r.invariant.0
