use Rattle.caption_box.proofs.Rehearsing.{Rehearsing}
use Rattle.caption_box.proofs.rehearsal.Rehearsal.go.Given as goal

abbrev pub invariant-loop-steps : goal.invariant-loop-steps
invariant-loop-steps g l =
    Rehearsing (g.S.Store.limit l.initial.store) l.initial.self (g.S.Store.numbers l.initial.store) l.steps
    (g.S.Store.limit l.store) l.self (g.S.Store.numbers l.store)
