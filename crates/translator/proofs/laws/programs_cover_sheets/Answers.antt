use Rattle.reader.proofs.WrittenRules.{sheets_are_programs}
use Rattle.translator.proofs.laws.programs_cover_sheets.Goals as goal

pub returns : goal.returns
returns c = sheets_are_programs
