use Rattle.reader.proofs.OneAnswer.{exactly_accepted}
use Rattle.reader.proofs.laws.accepted_exactly.Goals as goal

pub returns : goal.returns
returns c = exactly_accepted
