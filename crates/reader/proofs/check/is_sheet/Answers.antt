use Rattle.std.proofs.Common.{length, arith}
use Rattle.reader.specs.Checks.{Body}
use Rattle.reader.proofs.Spans.{sheet_few, sheet_some}
use Rattle.reader.proofs.Checking.{refuted, carried, sheet_is, sheet_loops, sheet_body}
use Rattle.reader.proofs.check.is_sheet.Goals as goal

pub returns-then-records-eq0 : goal.returns-then-records-eq0
returns-then-records-eq0 c =
    let rs = c.args.records.now in
    refuted (λ h. let n = sheet_few rs h in let m = sheet_some rs h in omega (arith, c.then-records-eq0.either))

pub returns-then-loop_count-gt-LOOPS : goal.returns-then-loop_count-gt-LOOPS
returns-then-loop_count-gt-LOOPS c =
    refuted (λ h. omega (arith, sheet_loops c.args.records.now h, c.loop_count.ensures, c.if-loop_count-gt-LOOPS.true))

pub returns : goal.returns
returns c =
    let rs = c.args.records.now in
    let outermost : (Body rs 0 (length rs) c.outermost.result.depth → Body rs 0 (length rs) 0) × (Body rs 0 (length rs) 0 → Body rs 0 (length rs) c.outermost.result.depth) =
    rw c.outermost.ensures (λ h. h, λ h. h) in
    carried c.is_body.result c.is_body.ensures
    (λ h. sheet_is c.args.records.now (omega arith) (omega arith) (omega (arith, c.loop_count.ensures)) (outermost.0 h))
    (λ h. outermost.1 (sheet_body rs h))
