use Rattle.reader.proofs.Records.{recorded}
use Rattle.reader.proofs.laws.records_tell_sheet.Goals as goal

pub returns : goal.returns
returns c = recorded
