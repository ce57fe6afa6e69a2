use Rattle.caption_box.proofs.Stars.{sheets_to_try}
use Rattle.caption_box.proofs.laws.sheets_to_try.Goals as goal

pub returns : goal.returns
returns c = sheets_to_try
