use Rattle.std.proofs.Common.{◌≡◌, length, subst, sym, rules}
use Rattle.std.proofs.lemmas.Result.{MatchResult-at_ok, MatchResult-at_err}
use Rattle.reader.specs.Symbols.{placed}
use Rattle.translator.specs.declared.types.Stage.TheVariants.{Flatten}
use Rattle.translator.specs.Loading.{fault, LoadRefuses}
use Rattle.translator.proofs.Results.{handed_up, mapped}
use Rattle.translator.proofs.Loaded.{read_or_fault, read_span, prepared, not_flattened}
use Rattle.translator.proofs.load.prepare.Goals as goal

pub returns-in_err-statements : goal.returns-in_err-statements
returns-in_err-statements c =
    let said = read_or_fault c.args.text.now (length c.args.records.now) (length c.args.flats.now) c.read.result c.read.new.records c.map_err.result _ c.read.ensures.answers c.map_err.ensures.cases
    (λ e y k. search rules) in
    handed_up _ _ c.from_residual.result c.from_residual.ensures.1 (MatchResult-at_err _ _ c.in_err-statements.field-0.0 c.in_err-statements.was said)

pub flatten-requires : goal.flatten-requires
flatten-requires c =
    let said = read_or_fault c.args.text.now (length c.args.records.now) (length c.args.flats.now) c.read.result c.read.new.records c.map_err.result _ c.read.ensures.answers c.map_err.ensures.cases
    (λ e y k. search rules) in
    let w = MatchResult-at_ok _ _ c.in_ok-statements.statements c.in_ok-statements.was said in
    (w.sheet, w.places, read_span c.args.text.now (length c.args.records.now) c.in_ok-statements.statements c.read.new.records w, w.spelled.sheeted.within.few_loops)

pub returns : goal.returns
returns c =
    let text = c.args.text.now in
    let room = length c.args.records.now in
    let n = c.in_ok-statements.statements in
    let m = c.read.new.records in
    let said = read_or_fault text room (length c.args.flats.now) c.read.result m c.map_err.result _ c.read.ensures.answers c.map_err.ensures.cases (λ e y k. search rules) in
    let w = MatchResult-at_ok _ _ n c.in_ok-statements.was said in
    let s = read_span text room n m w in
    mapped _ _ _ _ c.flatten.result c.map_err-2.result _ c.flatten.ensures c.map_err-2.ensures.cases
    (λ k h. prepared text room n k m c.args.flats.now c.flatten.new.memory w (h w.sheet w.places s))
    (λ e y h k.
    let is : y ≡ fault Flatten (placed 0 e) = search rules in
    (λ c'. subst (LoadRefuses text room (length c.args.flats.now) c') (sym is) (not_flattened text room n (length c.args.flats.now) c' e m w h.0 (h.1 w.sheet w.places s)), search rules))
