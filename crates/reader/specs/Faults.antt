-- What is refused of a text's symbols, and which fault decides.
use Rattle.std.specs.Prelude.{◌≡◌, ℕ, ◌≤◌, List, [], ◌∷◌, ◌++◌}
use Rattle.reader.specs.Symbols.{Symbol, PlacedSymbol, Flaw, Opens, IsLoop, Starts, level, statements_before, loops_before}
use Rattle.reader.specs.Grammar.{Program, Begins}

-- the symbol s has the fault n, behind the symbols xs
pub data Fault (xs : List Symbol) (s : Symbol) : ℕ → Type 0 where
  -- 2 stray byte, 3 strange word, 4 too big
  flawed : {n : ℕ} → Flaw s n → Fault xs s n
  -- 5 out of order: the symbols before begin a program, and with this one they begin none
  out_of_order : Begins xs → (Begins (xs ++ (s ∷ [])) → ⊥) → Fault xs s 5
  -- 6 too deep: a LOOP or WHILE at level 9
  too_deep : Opens s → level xs ≡ 8 → Fault xs s 6
  -- 7 too many: a 257th statement begins, or a 33rd LOOP
  too_many : Starts xs → statements_before xs ≡ 256 → Fault xs s 7
  too_many_loops : IsLoop s → loops_before xs ≡ 32 → Fault xs s 7

-- 5 out of order at the text's end: the symbols begin a program and are none
abbrev pub Unfinished : List Symbol → Type 0
Unfinished xs = Begins xs × (Program xs → ⊥)

-- behind the symbols xs come ys, and then the text's end: the leftmost fault decides, and at one symbol the smaller number
pub data FirstFault (end : ℕ) : List Symbol → List PlacedSymbol → ℕ → ℕ → Type 0 where
  here : {xs : List Symbol} {y : PlacedSymbol} {ys : List PlacedSymbol} {n : ℕ} → Fault xs y.item n → ((m : ℕ) → Fault xs y.item m → n ≤ m) → FirstFault end xs (y ∷ ys) y.place n
  later : {xs : List Symbol} {y : PlacedSymbol} {ys : List PlacedSymbol} {p n : ℕ} → ((m : ℕ) → Fault xs y.item m → ⊥) → FirstFault end (xs ++ (y.item ∷ [])) ys p n → FirstFault end xs (y ∷ ys) p n
  at_end : {xs : List Symbol} → Unfinished xs → FirstFault end xs [] end 5

-- some fault, wherever it stands
pub data SomeFault (end : ℕ) : List Symbol → List PlacedSymbol → ℕ → ℕ → Type 0 where
  fault_here : {xs : List Symbol} {y : PlacedSymbol} {ys : List PlacedSymbol} {n : ℕ} → Fault xs y.item n → SomeFault end xs (y ∷ ys) y.place n
  fault_later : {xs : List Symbol} {y : PlacedSymbol} {ys : List PlacedSymbol} {p n : ℕ} → SomeFault end (xs ++ (y.item ∷ [])) ys p n → SomeFault end xs (y ∷ ys) p n
  fault_end : {xs : List Symbol} → Unfinished xs → SomeFault end xs [] end 5
