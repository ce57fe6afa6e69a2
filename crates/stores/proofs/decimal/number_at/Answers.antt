use Rattle.std.proofs.Common.{◌<◌, ◌∙◌, arith}
use Rattle.stores.proofs.SixDigits.{spelt_low, spelt_more, six-length, six-get}
use Rattle.stores.proofs.decimal.number_at.Goals as goal

pub overflow_mul-number : goal.overflow_mul-number
overflow_mul-number c =
    let k : c.loop-digit.digit-index < 6 = omega (arith, six-length c.args.bytes.now c.args.at c.requires.0) in
    omega (arith, spelt_low c.args.bytes.now c.args.at c.loop-digit.digit-index c.requires.1 k)

pub loop-digit-preserved : goal.loop-digit-preserved
loop-digit-preserved c =
    let k : c.loop-digit.digit-index < 6 = omega (arith, six-length c.args.bytes.now c.args.at c.requires.0) in
    spelt_more c.args.bytes.now c.args.at c.loop-digit.digit-index c.loop-digit.number c.from.result c.loop-digit.invariant
    (c.from.ensures ∙ six-get c.args.bytes.now c.args.at c.loop-digit.digit-index k)
