use Rattle.std.proofs.Common.{sym, arith}
use Rattle.console.proofs.Capping.{counted_more}
use Rattle.console.proofs.number.number.Goals as goal

pub loop-digit-preserved : goal.loop-digit-preserved
loop-digit-preserved c =
    counted_more 18446744073709551615 c.as_bytes-digits.result.now c.loop-digit.digit-index c.loop-digit.n c.saturating_add-n.result
    c.loop-digit-test.true (sym c.if-not-is_ascii_digit.ensures.value)
    (omega (arith, c.saturating_add-n.ensures, c.saturating_mul.ensures, c.from.ensures)) c.loop-digit.invariant
