use Rattle.std.proofs.Common.{arith}
use Rattle.reader.proofs.Lexing.{big}
use Rattle.reader.proofs.lexer.value.Goals as goal

pub returns-then-value : goal.returns-then-value
returns-then-value c = big c.args.digits.now c.loop-d.d-index (omega arith) c.loop-d.value (omega arith) c.loop-d.invariant.2
