use Rattle.std.proofs.Common.{sym, subst}
use Rattle.reader.specs.declared.types.Kind.TheVariants as kind
use Rattle.reader.specs.Lexing.{meant}
use Rattle.reader.specs.Expecting.{Sign, sign_plus, sign_minus}
use Rattle.reader.proofs.types.Lexeme.sign.Goals as goal

pub returns-in-Plus : goal.returns-in-Plus
returns-in-Plus c = subst (λ l. Sign kind.Plus (meant l)) (sym c.in-Plus.is) sign_plus

pub returns-in-Minus : goal.returns-in-Minus
returns-in-Minus c = subst (λ l. Sign kind.Minus (meant l)) (sym c.in-Minus.is) sign_minus
