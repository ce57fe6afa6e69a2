use Rattle.std.proofs.Common.{arith}
use Rattle.std.proofs.lemmas.Result.{err_from_is_err_and}
use Rattle.reader.proofs.Words.{register_none_empty, register_none_other, register_small, register_large, register_none}
use Rattle.reader.proofs.lexer.register.Goals as goal

pub returns-in_default : goal.returns-in_default
returns-in_default c = register_none_empty c.args.word.now (omega arith)

pub returns-in_default-2 : goal.returns-in_default-2
returns-in_default-2 c = register_none_other c.args.word.now (λ e. omega arith)

pub returns-in_err-i : goal.returns-in_err-i
returns-in_err-i c =
    let p = err_from_is_err_and c.from_residual.result c.from_residual.ensures.1 in
    rw (p.1, p.2) (register_none c.args.word.now (omega arith) (omega arith) c.in_err-i.ensures)

pub returns-then-i-le-HIGHEST_REGISTER : goal.returns-then-i-le-HIGHEST_REGISTER
returns-then-i-le-HIGHEST_REGISTER c = register_small c.args.word.now (omega arith) (omega arith) c.in_ok-i.ensures (omega arith)

pub returns-else-i-le-HIGHEST_REGISTER : goal.returns-else-i-le-HIGHEST_REGISTER
returns-else-i-le-HIGHEST_REGISTER c = register_large c.args.word.now (omega arith) (omega arith) c.in_ok-i.ensures (omega arith)
