use Rattle.std.proofs.Common.{◌<◌, sym, ◌∙◌, arith}
use Rattle.stores.specs.Decimals.{count_of}
use Rattle.stores.proofs.SixDigits.{decimals-length, decimals-get}
use Rattle.stores.proofs.decimal.DecimalStore.get.Goals as goal

pub overflow_mul-i : goal.overflow_mul-i
overflow_mul-i c = omega (arith, decimals-length c.args.self.now.bytes.now)

pub number_at-requires : goal.number_at-requires
number_at-requires c =
    let lt : c.args.i < count_of c.args.self.now.bytes.now = omega (arith, decimals-length c.args.self.now.bytes.now) in
    (omega arith, λ k h l. c.args.self.now.digits k (omega arith))

pub returns : goal.returns
returns c =
    let bytes = c.args.self.now.bytes.now in
    c.number_at.ensures ∙ sym (decimals-get bytes c.args.i (omega (arith, decimals-length bytes)))
