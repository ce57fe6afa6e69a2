use Rattle.std.proofs.Common.{refl}
use Rattle.caption_box.specs.History.{ask_call}
use Rattle.caption_box.proofs.Carried.{ask_carries, same_follows}
use Rattle.caption_box.proofs.show.Show.ask.Goals as goal

pub returns-clause-follows : goal.returns-clause-follows
returns-clause-follows g c = ask_carries _ c.args.question c.ask_exactly.result c.ask_exactly.ensures

pub returns-clause-aside : goal.returns-clause-aside
returns-clause-aside g c = λ p h e ν top er past. same_follows p _ _ (ask_call c.args.question) e h refl past
