use Rattle.translator.proofs.Following.{steps_stand}
use Rattle.translator.proofs.laws.steps_stand.Goals as goal

pub returns : goal.returns
returns c = steps_stand
