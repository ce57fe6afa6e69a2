use Rattle.translator.proofs.Fullest.{bounds_met}
use Rattle.translator.proofs.laws.bounds_are_met.Goals as goal

pub returns : goal.returns
returns c = bounds_met
