use Rattle.reader.proofs.Exactly.{told}
use Rattle.reader.proofs.laws.first_fault_is_told.Goals as goal

pub returns : goal.returns
returns c = told
