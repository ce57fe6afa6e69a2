use Rattle.reader.proofs.Leftmost.{leftmost}
use Rattle.reader.proofs.laws.first_fault_is_leftmost.Goals as goal

pub returns : goal.returns
returns c = leftmost
