use Rattle.caption_box.proofs.Carried.{rewind_carries, rewind_aside}
use Rattle.caption_box.proofs.show.Show.rewind.Goals as goal

pub returns-clause-follows : goal.returns-clause-follows
returns-clause-follows g c = rewind_carries _ _ c.args.inputs.now c.rewind_exactly.result c.rewind_exactly.ensures.exact

pub returns-clause-aside : goal.returns-clause-aside
returns-clause-aside g c = rewind_aside _ _ c.args.inputs.now c.rewind_exactly.result c.rewind_exactly.ensures.exact
