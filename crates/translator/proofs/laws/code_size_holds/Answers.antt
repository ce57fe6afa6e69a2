use Rattle.translator.proofs.Sizes.{code_size_counted}
use Rattle.translator.proofs.laws.code_size_holds.Goals as goal

pub returns : goal.returns
returns c = code_size_counted
