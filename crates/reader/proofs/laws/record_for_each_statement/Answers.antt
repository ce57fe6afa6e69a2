use Rattle.reader.proofs.Records.{counted}
use Rattle.reader.proofs.laws.record_for_each_statement.Goals as goal

pub returns : goal.returns
returns c = counted
