use Rattle.translator.proofs.Sizes.{flat_size_counted}
use Rattle.translator.proofs.laws.flat_size_holds.Goals as goal

pub returns : goal.returns
returns c = flat_size_counted
