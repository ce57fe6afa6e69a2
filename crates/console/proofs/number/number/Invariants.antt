use Rattle.console.proofs.Capping.{Counted}
use Rattle.console.proofs.number.number.Given as goal

abbrev pub invariant-loop-digit : goal.invariant-loop-digit
invariant-loop-digit l = Counted 18446744073709551615 l.digits l.digit-index l.n
