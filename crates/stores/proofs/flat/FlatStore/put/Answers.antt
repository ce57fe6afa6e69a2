use Rattle.std.proofs.Common.{sym, refl, subst, arith}
use Rattle.stores.specs.Stores.{Sound}
use Rattle.stores.proofs.Bounds.{sound_set}
use Rattle.stores.proofs.Cells.{flats-length, flats-set, spare-set}
use Rattle.stores.proofs.flat.FlatStore.put.Goals as goal

pub offset_bounds-self-i : goal.offset_bounds-self-i
offset_bounds-self-i c = omega (arith, flats-length c.args.self.now.cells.now)

pub bounds-self-i : goal.bounds-self-i
bounds-self-i c = omega (arith, flats-length c.args.self.now.cells.now)

pub invariant_of-self : goal.invariant_of-self
invariant_of-self c =
    let put = flats-set c.args.self.now.cells.now c.args.i c.args.v c.requires in
    record { fits = subst (λ ns. Sound ns 4294967295) (sym put) (sound_set _ _ _ _ c.args.self.now.fits (omega arith)) }

pub returns : goal.returns
returns c = record {
  numbers = flats-set c.args.self.now.cells.now c.args.i c.args.v c.requires;
  rest = spare-set c.args.self.now.cells.now c.args.i c.args.v c.requires;
  lent = refl;
}
