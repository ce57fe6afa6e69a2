use Rattle.translator.proofs.Following.{spelled_playable}
use Rattle.translator.proofs.laws.spelled_sheet_is_playable.Goals as goal

pub returns : goal.returns
returns c = spelled_playable
