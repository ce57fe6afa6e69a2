use Rattle.caption_box.proofs.WrittenHistory.{rehearsal_follows}
use Rattle.caption_box.proofs.laws.rehearsal_follows.Goals as goal

pub returns : goal.returns
returns c = rehearsal_follows
