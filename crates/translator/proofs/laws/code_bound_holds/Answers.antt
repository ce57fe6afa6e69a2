use Rattle.translator.proofs.Sizes.{code_at_most}
use Rattle.translator.proofs.laws.code_bound_holds.Goals as goal

pub returns : goal.returns
returns c = code_at_most
