use Rattle.caption_box.proofs.Carried.{correct_carries, correct_aside}
use Rattle.caption_box.proofs.show.Show.correct.Goals as goal

pub returns-clause-follows : goal.returns-clause-follows
returns-clause-follows g c = correct_carries _ _ c.args.register c.args.value c.correct_exactly.result c.correct_exactly.ensures.exact

pub returns-clause-aside : goal.returns-clause-aside
returns-clause-aside g c = correct_aside _ _ c.args.register c.args.value c.correct_exactly.result c.correct_exactly.ensures.exact
