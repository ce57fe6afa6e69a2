use Rattle.std.proofs.Common.{length, sym, subst}
use Rattle.filing.specs.Tables.{memory}
use Rattle.translator.specs.Flattening.{Flattened}
use Rattle.translator.proofs.FlatFiled.{flattened}
use Rattle.translator.proofs.flatten.file_sheet.Goals as goal

pub returns-clause-filed : goal.returns-clause-filed
returns-clause-filed c =
    let B = c.in_ok-flatten_body.ensures in
    let K = c.clear_rest.ensures in
    let t = c.args.table.now in
    let v = c.clear_rest.new.self in
    λ p xs s. subst (λ n. Flattened p xs (memory t) n (memory v)) (sym c.len.ensures)
    (flattened c.args.records.now (length c.args.records.now) p xs c.flatten_body.new.counter t c.flatten_body.new.flats v c.requires.empty s (B.filed p xs s) B.room K.count K.memory)
