use Rattle.stores.proofs.Seeing.{seen_sound}
use Rattle.stores.proofs.window.WindowStore.top.Goals as goal

pub returns-clause-sound : goal.returns-clause-sound
returns-clause-sound g c = seen_sound _ _ c.args.self.now.base c.args.self.now.len c.top.ensures.sound
