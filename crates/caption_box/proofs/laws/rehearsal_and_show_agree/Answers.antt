use Rattle.caption_box.proofs.WrittenHistory.{rehearsal_and_show_agree}
use Rattle.caption_box.proofs.laws.rehearsal_and_show_agree.Goals as goal

pub returns : goal.returns
returns c = rehearsal_and_show_agree
