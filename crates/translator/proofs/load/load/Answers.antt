use Rattle.std.proofs.Common.{length, ap, ◌∙◌}
use Rattle.filing.specs.Tables.{lent}
use Rattle.translator.proofs.Loaded.{loaded, not_refused}
use Rattle.translator.proofs.load.load.Goals as goal

pub returns-in-Ok : goal.returns-in-Ok
returns-in-Ok c =
    let N = c.new-draft.ensures in
    let L = c.in_default.ensures in
    let S = c.in-Ok.ensures in (
      loaded c.args.text.now (length c.args.records.now) (length c.args.flats.now) L.laid.flats (length c.args.code.now) c.lay_sheet.new.records c.lay_sheet.new.flats c.new-draft.result
          c.lay_sheet.new.draft c.in-Ok.sealed L.laid.prepared (ap length N.memory) L.laid.coded L.room S.1 S.2,
      ap (λ t. lent t) S.1 ∙ (L.lent ∙ N.lent),
    )

pub returns-in-Err-seal : goal.returns-in-Err-seal
returns-in-Err-seal c =
    let L = c.in_default.ensures.laid in
    absurd (not_refused c.args.text.now (length c.args.records.now) (length c.args.flats.now) L.flats c.lay_sheet.new.records c.lay_sheet.new.flats c.new-draft.result c.lay_sheet.new.draft
    c.in-Err-seal.refusal L.prepared L.coded c.in-Err-seal.ensures.0)
