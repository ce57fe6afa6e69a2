use Rattle.translator.proofs.SealedSheets.{sheet_sealed}
use Rattle.translator.proofs.laws.sheet_is_sealed.Goals as goal

pub returns : goal.returns
returns c = sheet_sealed
