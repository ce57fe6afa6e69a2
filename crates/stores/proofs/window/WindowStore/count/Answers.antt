use Rattle.std.proofs.Common.{arith}
use Rattle.stores.proofs.Seeing.{seen_sound, seen-length}
use Rattle.stores.proofs.window.WindowStore.count.Goals as goal

pub returns-clause-sound : goal.returns-clause-sound
returns-clause-sound g c = seen_sound _ _ c.args.self.now.base c.args.self.now.len c.count.ensures.sound

pub returns-clause-answer : goal.returns-clause-answer
returns-clause-answer g c = omega (arith, seen-length)
