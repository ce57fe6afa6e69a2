use Rattle.caption_box.proofs.Carried.{tick_carries, tick_aside, tick_published}
use Rattle.caption_box.proofs.show.Show.tick.Goals as goal

pub returns-clause-published : goal.returns-clause-published
returns-clause-published g c = tick_published _ _ c.args.k c.tick_exactly.result c.tick_exactly.ensures.exact

pub returns-clause-follows : goal.returns-clause-follows
returns-clause-follows g c = tick_carries _ _ c.args.k c.tick_exactly.result c.tick_exactly.ensures.exact

pub returns-clause-aside : goal.returns-clause-aside
returns-clause-aside g c = tick_aside _ _ c.args.k c.tick_exactly.result c.tick_exactly.ensures.exact
