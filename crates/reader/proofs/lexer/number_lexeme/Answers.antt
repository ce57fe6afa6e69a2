use Rattle.std.proofs.lemmas.Result.{err_from_is_err_and}
use Rattle.reader.proofs.Words.{told_number, told_no_number}
use Rattle.reader.proofs.lexer.number_lexeme.Goals as goal

pub returns-in_err-n : goal.returns-in_err-n
returns-in_err-n c =
    let p = err_from_is_err_and c.from_residual.result c.from_residual.ensures.1 in
    rw (p.1, p.2) (told_no_number c.requires c.in_err-n.ensures)

pub returns : goal.returns
returns c = told_number c.in_ok-n.ensures
