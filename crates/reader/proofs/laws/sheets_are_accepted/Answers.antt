use Rattle.reader.proofs.Exactly.{complete}
use Rattle.reader.proofs.laws.sheets_are_accepted.Goals as goal

pub returns : goal.returns
returns c = complete
