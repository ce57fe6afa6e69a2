use Rattle.caption_box.proofs.Carried.{line_follows}
use Rattle.caption_box.proofs.show.Show.line.Goals as goal

pub returns-clause-follows : goal.returns-clause-follows
returns-clause-follows g c = line_follows _ c.ask_exactly.result c.ask_exactly.ensures
