use Rattle.std.proofs.Common.{◌∙◌, arith, rules}
use Rattle.reader.specs.Pages.{on_page}
use Rattle.reader.proofs.Spans.{sheet_few}
use Rattle.reader.proofs.Checking.{sheet_body}
use Rattle.reader.proofs.Prints.{sheet_written, sheet_memory, sheet_lent}
use Rattle.reader.proofs.writer.write_sheet.Goals as goal

pub body-requires-clause-room : goal.body-requires-clause-room
body-requires-clause-room c =
    let rs = c.args.records.now in
    omega (arith, sheet_few rs c.requires)

pub body-requires-clause-sound : goal.body-requires-clause-sound
body-requires-clause-sound c =
    let rs = c.args.records.now in
    sheet_body rs c.requires

pub returns : goal.returns
returns c =
    let rs = c.args.records.now in
    let m = c.args.page.now in
    record {
      count = λ h. c.finish.ensures.count ∙ sheet_written rs h m _ (on_page c.body.new.self) c.body.ensures.put;
      front = λ h le.
          let n = sheet_lent rs h m _ (on_page c.body.new.self) c.body.ensures.put in
          let e = c.finish.ensures.page ∙ sheet_memory rs h m _ (on_page c.body.new.self) le c.body.ensures.put in
          search rules;
    }
