use Rattle.reader.proofs.Uniquely.{unique}
use Rattle.reader.proofs.laws.sheet_is_unique.Goals as goal

pub returns : goal.returns
returns c = unique
