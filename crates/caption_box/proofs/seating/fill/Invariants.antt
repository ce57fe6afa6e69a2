use Rattle.std.proofs.Common.{◌≡◌}
use Rattle.caption_box.proofs.Seats.{Filled}
use Rattle.caption_box.proofs.seating.fill.Given as goal

abbrev pub invariant-loop-i : goal.invariant-loop-i
invariant-loop-i g l =
    Filled l.n l.inputs (g.S.Store.numbers l.initial.store) l.i (g.S.Store.numbers l.store)
    × (g.S.Store.limit l.store ≡ g.S.Store.limit l.initial.store)
