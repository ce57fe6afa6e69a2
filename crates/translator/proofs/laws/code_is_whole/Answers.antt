use Rattle.translator.proofs.Width.{code_whole}
use Rattle.translator.proofs.laws.code_is_whole.Goals as goal

pub returns : goal.returns
returns c = code_whole
