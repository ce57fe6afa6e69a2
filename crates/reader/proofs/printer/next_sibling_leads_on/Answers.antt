use Rattle.reader.proofs.Spans.{leads_on}
use Rattle.reader.proofs.printer.next_sibling_leads_on.Goals as goal

pub returns : goal.returns
returns c = leads_on
