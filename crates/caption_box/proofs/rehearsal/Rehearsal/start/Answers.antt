use Rattle.std.proofs.Common.{◌≡◌, [], rules}
use Rattle.reader.specs.WrittenRun.{no_counts}
use Rattle.caption_box.specs.Rests.{levels_of}
use Rattle.caption_box.specs.WrittenSteps.{written_counts}
use Rattle.caption_box.proofs.Beginnings.{first_stands, first_counted, started_same, started_told}
use Rattle.caption_box.proofs.rehearsal.Rehearsal.start.Goals as goal

pub invariant_of-begun : goal.invariant_of-begun
invariant_of-begun g c =
    let index : c.default.result.at ≡ 0 = search rules in
    let levels : levels_of c.default.result ≡ [] = search rules in
    let clear : written_counts c.default-2.result ≡ no_counts = search rules in
    let sheet = c.is_sheet.ensures.0 c.if-not-is_sheet.false in
    record {
      sheet = ∣ sheet ∣₁;
      stands = ∣ first_stands c.args.records.now c.default.result c.default-2.result index levels clear sheet ∣₁;
      counted = first_counted c.args.records.now c.default.result c.default-2.result index levels clear;
    }

pub returns-clause-same : goal.returns-clause-same
returns-clause-same g c = rw c.and.ensures (started_same _ c.seat.result)

pub returns-clause-exact : goal.returns-clause-exact
returns-clause-exact g c =
    rw c.and.ensures (
    started_told _ (search rules) (search rules) (search rules) (g.S.Store.limit c.args.store.now)
    (g.S.Store.limit c.seat.new.store) (g.S.Store.numbers c.args.store.now)
    (g.S.Store.numbers c.seat.new.store) c.args.inputs.now c.seat.result c.seat.ensures.answer c.seat.ensures.left.1 c.seat.ensures.left.0
    )
