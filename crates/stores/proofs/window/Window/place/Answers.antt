use Rattle.std.proofs.Common.{refl, arith}
use Rattle.stores.proofs.Seeing.{seen_sound, seen-length, stands}
use Rattle.stores.proofs.window.Window.place.Goals as goal

pub returns-then-i-shown : goal.returns-then-i-shown
returns-then-i-shown g c = record {
  sound = seen_sound _ _ c.args.self.now.base c.args.self.now.len c.count.ensures.sound;
  place = stands _ _ _ _ c.args.i (omega (arith, seen-length));
}

pub returns-else-i-shown : goal.returns-else-i-shown
returns-else-i-shown g c = record {
  sound = seen_sound _ _ c.args.self.now.base c.args.self.now.len c.count.ensures.sound;
  place = (refl, omega (arith, seen-length));
}
