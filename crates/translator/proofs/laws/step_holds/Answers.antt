use Rattle.translator.proofs.Following.{box_step_is_written}
use Rattle.translator.proofs.laws.step_holds.Goals as goal

pub returns : goal.returns
returns c = box_step_is_written
