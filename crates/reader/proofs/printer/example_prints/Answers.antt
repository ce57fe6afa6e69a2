use Rattle.reader.proofs.Prints.{example}
use Rattle.reader.proofs.printer.example_prints.Goals as goal

pub returns : goal.returns
returns c = example
