use Rattle.translator.specs.Translation.{flat}
use Rattle.translator.proofs.Results.{handed_up}
use Rattle.translator.proofs.CodeLaid.{coded, flats_no_room, halt_no_room}
use Rattle.translator.proofs.lay.lay_code.Goals as goal

pub returns-in_err-lay_flats-clause-laid : goal.returns-in_err-lay_flats-clause-laid
returns-in_err-lay_flats-clause-laid c =
    let E = c.in_err-lay_flats.ensures.laid in
    handed_up _ _ c.from_residual.result c.from_residual.ensures.1 (E.0, λ p s. flats_no_room p c.args.draft.now c.requires.empty (E.1 (flat p) s))

pub returns-in_err-lay-clause-laid : goal.returns-in_err-lay-clause-laid
returns-in_err-lay-clause-laid c =
    let B = c.in_ok-lay_flats.ensures in
    let E = c.in_err-lay.ensures.laid in
    handed_up _ _ c.from_residual-in_err-lay.result c.from_residual-in_err-lay.ensures.1 (E.0, λ p s. halt_no_room p c.args.draft.now c.lay_flats.new.draft c.requires.empty (B.laid (flat p) s) B.room E.1)

pub returns-clause-laid : goal.returns-clause-laid
returns-clause-laid c =
    let B = c.in_ok-lay_flats.ensures in
    λ p s. coded p c.args.draft.now c.lay_flats.new.draft c.lay.new.self c.clear_rest.new.self c.requires.empty (B.laid (flat p) s) B.room c.in_ok-lay.ensures.laid c.clear_rest.ensures.cleared
