use Rattle.reader.proofs.WrittenRules.{written_step_is_published}
use Rattle.translator.proofs.laws.written_rules_hold.Goals as goal

pub returns : goal.returns
returns c = written_step_is_published
