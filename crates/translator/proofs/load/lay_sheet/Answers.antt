use Rattle.std.proofs.Common.{◌≡◌, length, subst, sym, rules}
use Rattle.reader.specs.Symbols.{placed}
use Rattle.translator.specs.declared.types.Stage.TheVariants.{Lay}
use Rattle.translator.specs.Drafts.{draft_memory}
use Rattle.translator.specs.Loading.{fault, LoadRefuses}
use Rattle.translator.proofs.Results.{mapped}
use Rattle.translator.proofs.Loaded.{flat-span, not-laid}
use Rattle.translator.proofs.load.lay_sheet.Goals as goal

pub lay_code-requires-clause-flats : goal.lay_code-requires-clause-flats
lay_code-requires-clause-flats c =
    let w = c.in_ok-count.ensures in
    (w.sheet, flat-span c.args.text.now (length c.args.records.now) (length c.args.flats.now) c.in_ok-count.count c.prepare.new.records c.prepare.new.flats w)

pub returns-clause-laid : goal.returns-clause-laid
returns-clause-laid c =
    let text = c.args.text.now in
    let r = length c.args.records.now in
    let f = length c.args.flats.now in
    let n = c.in_ok-count.count in
    let w = c.in_ok-count.ensures in
    let s = flat-span text r f n c.prepare.new.records c.prepare.new.flats w in
    mapped _ _ _ _ c.lay_code.result c.map_err.result _ c.lay_code.ensures.laid c.map_err.ensures.cases
    (λ x h. record { flats = n; prepared = w; coded = h w.sheet s })
    (λ e y h k.
    let is : y ≡ fault Lay (placed 0 e) = search rules in (
      subst (LoadRefuses text r f (length (draft_memory c.args.draft.now))) (sym is)
          (not-laid text r f n (length (draft_memory c.args.draft.now)) e c.prepare.new.records c.prepare.new.flats w h.0 (h.1 w.sheet s)),
      search rules,
    ))
