use Rattle.std.proofs.Common.{◌≡◌, [], sym, refl, rules}
use Rattle.reader.specs.WrittenRun.{no_counts}
use Rattle.caption_box.specs.Rests.{levels_of}
use Rattle.caption_box.specs.WrittenSteps.{written_counts}
use Rattle.caption_box.proofs.Told.{rehearsed}
use Rattle.caption_box.proofs.Beginnings.{first_stands, first_counted, rehearsal_rewound, rehearsal_unrewound}
use Rattle.caption_box.proofs.rehearsal.Rehearsal.rewind.Goals as goal

pub returns-in_err-seat-clause-exact : goal.returns-in_err-seat-clause-exact
returns-in_err-seat-clause-exact g c =
    rehearsal_unrewound (g.S.Store.limit c.args.store.now) (g.S.Store.limit c.seat.new.store) (g.S.Store.numbers c.args.store.now)
    (g.S.Store.numbers c.seat.new.store) c.args.inputs.now _ (sym c.in_err-seat.ensures.answer) c.seat.ensures.left.1 c.seat.ensures.left.0
    c.from_residual.result (search rules) c.args.self.now

pub invariant_of-self : goal.invariant_of-self
invariant_of-self g c =
    let index : c.default-self.result.at ≡ 0 = search rules in
    let levels : levels_of c.default-self.result ≡ [] = search rules in
    let clear : written_counts c.default-self-2.result ≡ no_counts = search rules in
    let h = rehearsed c.args.self.now in
    record {
      sheet = ∣ h.sheet ∣₁;
      stands = ∣ first_stands c.args.self.now.records.now c.default-self.result c.default-self-2.result index levels clear h.sheet ∣₁;
      counted = first_counted c.args.self.now.records.now c.default-self.result c.default-self-2.result index levels clear;
    }

pub returns-clause-kept : goal.returns-clause-kept
returns-clause-kept g c = rehearsed _

pub returns-clause-exact : goal.returns-clause-exact
returns-clause-exact g c =
    rehearsal_rewound c.args.self.now.records.now c.default-self.result c.default-self-2.result (search rules) (search rules) (search rules)
    (g.S.Store.limit c.args.store.now) (g.S.Store.limit c.seat.new.store)
    (g.S.Store.numbers c.args.store.now) (g.S.Store.numbers c.seat.new.store) c.args.inputs.now (search rules)
    c.seat.ensures.left.1 c.seat.ensures.left.0 c.args.self.now refl
