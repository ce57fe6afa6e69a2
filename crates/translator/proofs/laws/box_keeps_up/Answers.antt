use Rattle.translator.proofs.Following.{box_keeps_up}
use Rattle.translator.proofs.laws.box_keeps_up.Goals as goal

pub returns : goal.returns
returns c = box_keeps_up
