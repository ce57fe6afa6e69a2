-- The letter of each role, by its code.
use Rattle.std.specs.Prelude.{ℕ}
use Rattle.translator.specs.declared.types.Role.{Role}
use Rattle.translator.specs.declared.types.Role.TheVariants.{Halt, Written, Entry, Test, Down, Jump}

abbrev pub role_letter : Role → ℕ
role_letter Written = 119  -- w
role_letter Entry = 101  -- e
role_letter Test = 116  -- t
role_letter Down = 100  -- d
role_letter Jump = 106  -- j
role_letter Halt = 104  -- h
