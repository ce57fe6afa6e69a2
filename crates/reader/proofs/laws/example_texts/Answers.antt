use Rattle.reader.proofs.Exampled.{exampled}
use Rattle.reader.proofs.laws.example_texts.Goals as goal

pub returns : goal.returns
returns c = exampled
