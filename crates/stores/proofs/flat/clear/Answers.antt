use Rattle.std.proofs.Common.{min, length, sym, ap, ◌∙◌, subst, arith}
use Rattle.stores.specs.Stores.{Sound}
use Rattle.stores.specs.Flats.{flats}
use Rattle.stores.proofs.Bounds.{sound_zeros}
use Rattle.stores.proofs.Clearing.{filled}
use Rattle.stores.proofs.Cells.{flats-cleared}
use Rattle.stores.proofs.flat.clear.Goals as goal

pub returns : goal.returns
returns c =
    let cells = c.args.cells.now in
    let n = min 4096 (length cells) in
    let memory = filled c.fill.new.self cells c.counted-n.result n c.counted-n.ensures (omega arith) (c.fill.ensures.after (λ y e. e)) in
    let zero = ap flats memory ∙ flats-cleared cells in
    record { fits = subst (λ ns. Sound ns 4294967295) (sym zero) (sound_zeros n 4294967295 (omega arith)); zero = zero; memory = memory }
