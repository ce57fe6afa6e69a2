-- The published grammar: which symbols spell which sheet, one constructor a production.
use Rattle.std.specs.Prelude.{ℕ, List, [], ◌∷◌, ◌++◌}
use Rattle.reader.specs.Sheet.{Sheet, done, plus, minus, loop, while, then}
use Rattle.reader.specs.Symbols.{Symbol, LOOP, WHILE, DO, END, number, register, assign, unequal, plus_sign, minus_sign, semicolon}

pub data Spells : List Symbol → Sheet → Type 0 where
  -- Prg → Var := Var + Const
  adds : {i j c : ℕ} → Spells (register i ∷ assign ∷ register j ∷ plus_sign ∷ number c ∷ []) (plus i j c done)
  -- Prg → Var := Var - Const
  subtracts : {i j c : ℕ} → Spells (register i ∷ assign ∷ register j ∷ minus_sign ∷ number c ∷ []) (minus i j c done)
  -- Prg → Prg; Prg
  sequence : {xs ys : List Symbol} {p q : Sheet} → Spells xs p → Spells ys q → Spells (xs ++ (semicolon ∷ ys)) (then p q)
  -- Prg → LOOP Var DO Prg END
  loops : {i : ℕ} {xs : List Symbol} {b : Sheet} → Spells xs b → Spells (LOOP ∷ register i ∷ DO ∷ (xs ++ (END ∷ []))) (loop i b done)
  -- Prg → WHILE Var != 0 DO Prg END
  whiles : {i : ℕ} {xs : List Symbol} {b : Sheet} → Spells xs b → Spells (WHILE ∷ register i ∷ unequal ∷ number 0 ∷ DO ∷ (xs ++ (END ∷ []))) (while i b done)

-- the symbols are a program
abbrev pub Program : List Symbol → Type 0
Program xs = (p : Sheet) × Spells xs p

-- the symbols begin a program: more can follow so that all are one
abbrev pub Begins : List Symbol → Type 0
Begins xs = (ys : List Symbol) × Program (xs ++ ys)
