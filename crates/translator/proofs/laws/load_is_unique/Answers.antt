use Rattle.translator.proofs.OneLoad.{load_is_unique}
use Rattle.translator.proofs.laws.load_is_unique.Goals as goal

pub returns : goal.returns
returns c = load_is_unique
