use Rattle.std.proofs.Common.{Decides, sym, subst, arith}
use Rattle.reader.specs.Text.{Numeral}
use Rattle.reader.proofs.Lexing.{zero_first, other_digits}
use Rattle.reader.proofs.lexer.is_numeral.Goals as goal

pub returns-in-48 : goal.returns-in-48
returns-in-48 c = zero_first c.args.word.now c.is_empty.result (omega arith) (omega arith) c.is_empty.ensures

pub returns-in_default : goal.returns-in_default
returns-in_default c =
    subst (λ t. Decides t (Numeral c.args.word.now)) (sym c.all_digits.ensures) (other_digits c.args.word.now (omega arith) (λ e. omega arith))
