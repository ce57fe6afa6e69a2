use Rattle.reader.proofs.Words.{told_number_or}
use borrow.Author.Tests.{both_ways}
use Rattle.reader.specs.Lexing.{no_number}
use Rattle.reader.proofs.lexer.number.Goals as goal

pub returns-then-not-is_numeral : goal.returns-then-not-is_numeral
returns-then-not-is_numeral c = no_number (λ n. both_ways c.is_numeral.result c.if-not-is_numeral.true (c.is_numeral.ensures.1 n))

pub returns : goal.returns
returns c = told_number_or c.args.word.now (c.is_numeral.ensures.0 c.if-not-is_numeral.false) c.value.result c.value.ensures c.ok_or.result c.ok_or.ensures.value
