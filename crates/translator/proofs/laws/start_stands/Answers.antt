use Rattle.translator.proofs.Following.{start_stands}
use Rattle.translator.proofs.laws.start_stands.Goals as goal

pub returns : goal.returns
returns c = start_stands
