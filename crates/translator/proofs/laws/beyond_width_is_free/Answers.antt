use Rattle.translator.proofs.Following.{beyond_width}
use Rattle.translator.proofs.laws.beyond_width_is_free.Goals as goal

pub returns : goal.returns
returns c = beyond_width
