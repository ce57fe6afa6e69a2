use Rattle.std.proofs.Common.{◌≡◌}
use Rattle.stores.proofs.SixDigits.{spelt}
use Rattle.stores.proofs.decimal.number_at.Given as goal

abbrev pub invariant-loop-digit : goal.invariant-loop-digit
invariant-loop-digit l = l.number ≡ spelt l.bytes l.at l.digit-index
