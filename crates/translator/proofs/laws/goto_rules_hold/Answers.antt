use Rattle.translator.proofs.GotoRules.{box_step_is_published}
use Rattle.translator.proofs.laws.goto_rules_hold.Goals as goal

pub returns : goal.returns
returns c = box_step_is_published
