use Rattle.std.proofs.Common.{◌∙◌}
use Rattle.reader.proofs.Checking.{loops_of}
use Rattle.survey.proofs.loops.Goals as goal

pub returns-clause-of_sheet : goal.returns-clause-of_sheet
returns-clause-of_sheet c = λ p e. c.loop_count.ensures ∙ loops_of c.args.records.now p e
