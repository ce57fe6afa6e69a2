use Rattle.reader.proofs.Exactly.{exact}
use Rattle.reader.proofs.laws.verdict_is_grammar.Goals as goal

pub returns : goal.returns
returns c = exact
