-- The text of an instruction.
use Rattle.std.specs.Prelude.{ℕ, List, ◌++◌, codes, decimal}
use Rattle.translator.specs.declared.types.Role.{Role}
use Rattle.translator.specs.declared.types.Role.TheVariants as role
use Rattle.translator.specs.declared.types.Operation.{Operation}
use Rattle.translator.specs.declared.types.Operation.TheVariants as operation

abbrev pub role_letter : Role → List ℕ
role_letter role.Halt = codes "h"
role_letter role.Written = codes "w"
role_letter role.Entry = codes "e"
role_letter role.Test = codes "t"
role_letter role.Down = codes "d"
role_letter role.Jump = codes "j"

abbrev pub operation_text : Operation → List ℕ
operation_text operation.Halt = codes "HALT"
operation_text (operation.Plus t s c) = codes "x" ++ (decimal t ++ (codes " := x" ++ (decimal s ++ (codes " + " ++ decimal c))))
operation_text (operation.Minus t s c) = codes "x" ++ (decimal t ++ (codes " := x" ++ (decimal s ++ (codes " - " ++ decimal c))))
operation_text (operation.If s l) = codes "IF x" ++ (decimal s ++ (codes " = 0 THEN GOTO M" ++ decimal l))
operation_text (operation.Goto l) = codes "GOTO M" ++ decimal l
