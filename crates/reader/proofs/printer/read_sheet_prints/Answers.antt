use Rattle.reader.proofs.Prints.{read_prints}
use Rattle.reader.proofs.printer.read_sheet_prints.Goals as goal

pub returns : goal.returns
returns c = read_prints
