use Rattle.translator.proofs.Following.{correction_stands}
use Rattle.translator.proofs.laws.correction_stands.Goals as goal

pub returns : goal.returns
returns c = correction_stands
