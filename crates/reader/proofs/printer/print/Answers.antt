use Rattle.std.proofs.Common.{arith}
use Rattle.reader.specs.Printing.{no_sheet, page_full}
use Rattle.reader.proofs.Checking.{refutes}
use Rattle.reader.proofs.Prints.{wrote_as, reads_as}
use Rattle.reader.specs.Checks.{IsSheet}
use Rattle.reader.proofs.printer.print.Goals as goal

pub returns-then-not-is_sheet-clause-answer : goal.returns-then-not-is_sheet-clause-answer
returns-then-not-is_sheet-clause-answer c =
    no_sheet (λ h. refutes {P = IsSheet c.args.records.now} c.is_sheet.result c.if-not-is_sheet.true c.is_sheet.ensures h)

pub returns-then-page-length-clause-answer : goal.returns-then-page-length-clause-answer
returns-then-page-length-clause-answer c =
    let h = c.is_sheet.ensures.0 c.if-not-is_sheet.false in
    page_full h (omega (arith, c.if-page-length.true, c.write_sheet-length.ensures.count h))

pub returns-clause-answer : goal.returns-clause-answer
returns-clause-answer c =
    let rs = c.args.records.now in
    let m = c.args.page.now in
    let n = c.write_sheet-length.result in
    let h = c.is_sheet.ensures.0 c.if-not-is_sheet.false in
    let e = c.write_sheet-length.ensures.count h in
    let q = c.write_sheet.ensures.front h (omega (arith, e, c.if-page-length.false)) in
    wrote_as rs m n c.write_sheet.new.page h e c.if-page-length.false q

pub returns-clause-reads_back : goal.returns-clause-reads_back
returns-clause-reads_back c =
    let rs = c.args.records.now in
    let m = c.args.page.now in
    let n = c.write_sheet-length.result in
    let h = c.is_sheet.ensures.0 c.if-not-is_sheet.false in
    let e = c.write_sheet-length.ensures.count h in
    let q = c.write_sheet.ensures.front h (omega (arith, e, c.if-page-length.false)) in
    reads_as rs m n c.write_sheet.new.page h e q
