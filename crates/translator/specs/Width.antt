-- N of a code: 1 above the highest register that it names, and at least 32.
use Rattle.std.specs.Prelude.{ℕ, suc, max, List, [], ◌∷◌}
use Rattle.translator.specs.declared.types.Operation.{Operation}
use Rattle.translator.specs.declared.types.Operation.TheVariants.{Halt, Plus, Minus, If, Goto}
use Rattle.translator.specs.declared.types.Instruction.{Instruction}

-- 1 above the highest register that an operation names
abbrev pub named : Operation → ℕ
named Halt = 0
named (Plus i j c) = max (suc i) (suc j)
named (Minus i j c) = max (suc i) (suc j)
named (If i k) = suc i
named (Goto k) = 0

abbrev pub width : List Instruction → ℕ
width [] = 32
width (x ∷ xs) = max (named x.operation) (width xs)
