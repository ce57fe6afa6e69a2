-- The code of a sheet and the seal.
use Rattle.std.specs.Prelude.{None}
use Rattle.reader.specs.Sheet.{Sheet, Within}
use Rattle.translator.specs.Translation.{compiled}
use Rattle.translator.specs.Seals.{SealSays}

-- a seal refuses no sheet within the limits
abbrev pub SheetIsSealed : Type 0
SheetIsSealed = (p : Sheet) → Within p → SealSays (compiled p) None
