use Rattle.std.proofs.Common.{arith}
use Rattle.stores.proofs.SixDigits.{decimals-length}
use Rattle.stores.proofs.decimal.DecimalStoreStore.count.Goals as goal

pub returns : goal.returns
returns c = omega (arith, decimals-length)
