use Rattle.translator.proofs.Following.{standing_agrees}
use Rattle.translator.proofs.laws.standing_agrees.Goals as goal

pub returns : goal.returns
returns c = standing_agrees
