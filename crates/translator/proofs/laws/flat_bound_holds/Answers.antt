use Rattle.translator.proofs.Sizes.{flat_at_most}
use Rattle.translator.proofs.laws.flat_bound_holds.Goals as goal

pub returns : goal.returns
returns c = flat_at_most
