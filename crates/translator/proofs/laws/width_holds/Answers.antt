use Rattle.translator.proofs.Width.{code_width}
use Rattle.translator.proofs.laws.width_holds.Goals as goal

pub returns : goal.returns
returns c = code_width
