use Rattle.stores.proofs.Cells.{flats_front}
use Rattle.stores.proofs.flat.FlatStore.numbers.Goals as goal

pub returns : goal.returns
returns c = flats_front c.args.self.now.cells.now c.counted.result c.counted.ensures
