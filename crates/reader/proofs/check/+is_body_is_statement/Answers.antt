use Rattle.reader.specs.Checks.{IsStatement}
use Rattle.reader.proofs.Checking.{refuted, refutes, body_more, body_less, body_end}
use Rattle.reader.proofs.check.+is_body_is_statement.Goals as goal

pub is_body-returns-then-not-is_statement : goal.is_body-returns-then-not-is_statement
is_body-returns-then-not-is_statement t c =
    let rs = c.args.records.now in
    let i = c.loop-index.index in
    let to = c.args.to in
    let n = c.args.level.depth in
    refuted (λ h.
    refutes {P = IsStatement c.args.records.now c.loop-index.index c.args.to c.args.level.depth}
    c.is_statement.result c.if-not-is_statement.true c.is_statement.ensures
    (body_less rs i to n c.loop-index-test.true (c.loop-index.invariant.1 h)).0)

pub is_body-loop-index-preserved : goal.is_body-loop-index-preserved
is_body-loop-index-preserved t c =
    let rs = c.args.records.now in
    let i = c.loop-index.index in
    let to = c.args.to in
    let n = c.args.level.depth in
    let lt = c.loop-index-test.true in
    let s = c.is_statement.ensures.0 c.if-not-is_statement.false in (
      λ h. c.loop-index.invariant.0 (body_more rs i to n lt s h),
      λ h. (body_less rs i to n lt (c.loop-index.invariant.1 h)).1,
    )

pub is_body-returns : goal.is_body-returns
is_body-returns t c =
    body_end c.args.records.now c.args.from c.loop-index.index c.args.to c.args.level.depth c.loop-index-test.false c.args.level.shallow c.loop-index.invariant.0 c.loop-index.invariant.1
