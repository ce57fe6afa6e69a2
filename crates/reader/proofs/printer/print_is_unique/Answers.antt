use Rattle.reader.proofs.Prints.{print_one}
use Rattle.reader.proofs.printer.print_is_unique.Goals as goal

pub returns : goal.returns
returns c = print_one
