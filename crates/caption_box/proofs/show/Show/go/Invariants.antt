use Rattle.std.proofs.Common.{◌≡◌}
use Rattle.caption_box.specs.Shows.{setting_of, box_of}
use Rattle.caption_box.proofs.Going.{Going}
use Rattle.caption_box.proofs.show.Show.go.Given as goal

abbrev pub invariant-loop-steps : goal.invariant-loop-steps
invariant-loop-steps g l =
    (l.self.sealed ≡ l.initial.self.sealed)
    × Going
    (setting_of l.initial.self (g.S.Store.limit l.initial.store))
    (box_of l.initial.self (g.S.Store.numbers l.initial.store))
    l.steps
    (setting_of l.self (g.S.Store.limit l.store))
    (box_of l.self (g.S.Store.numbers l.store))
