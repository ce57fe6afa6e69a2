use Rattle.std.proofs.Common.{length, sym, refl, ◌∙◌, subst, arith}
use Rattle.reader.specs.Reading.{ReadAnswers, overlong}
use Rattle.reader.proofs.Sheets.{all_cleared, answered}
use Rattle.reader.proofs.reading.read.Goals as goal

pub returns-then-text-gt-LONGEST : goal.returns-then-text-gt-LONGEST
returns-then-text-gt-LONGEST c =
    let room = length c.args.records.now in
    record { answers = subst (ReadAnswers c.args.text.now room _) (sym (c.clear_from.ensures ∙ all_cleared c.args.records.now room refl)) (overlong (omega arith)) }

pub returns : goal.returns
returns c =
    record {
      answers = answered c.args.text.now (length c.args.records.now) (omega arith) c.parse-answer.result c.unwrap_or.result c.args.records.now c.parse-answer.new.records c.clear_from-2.new.records refl c.parse-answer.ensures c.unwrap_or.ensures c.clear_from-2.ensures;
    }
