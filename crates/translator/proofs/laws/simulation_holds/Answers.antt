use Rattle.translator.proofs.Following.{box_follows}
use Rattle.translator.proofs.laws.simulation_holds.Goals as goal

pub returns : goal.returns
returns c = box_follows
