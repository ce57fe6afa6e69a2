use Rattle.reader.proofs.Printing.{round_trip}
use Rattle.reader.proofs.printer.printed_sheet_reads_back.Goals as goal

pub returns : goal.returns
returns c = round_trip
