use Rattle.translator.proofs.Following.{steps_accounted}
use Rattle.translator.proofs.laws.account_holds.Goals as goal

pub returns : goal.returns
returns c = steps_accounted
