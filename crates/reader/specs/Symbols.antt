-- The symbols of a text, what is wrong with one by itself, and what is counted of them.
use Rattle.std.specs.Prelude.{ℕ, zero, suc, ◌+◌, ◌-◌, ◌<◌, List, [], ◌∷◌, ◌++◌}
use Rattle.reader.specs.declared.types.Placed.{Placed}

pub data Symbol : Type 0 where
  LOOP : Symbol
  WHILE : Symbol
  DO : Symbol
  END : Symbol
  number : ℕ → Symbol
  register : ℕ → Symbol
  assign : Symbol  -- :=
  unequal : Symbol  -- !=
  plus_sign : Symbol
  minus_sign : Symbol
  semicolon : Symbol
  stray : Symbol  -- a byte that begins no symbol
  strange : Symbol  -- a run of letters and digits that is no word

abbrev pub placed : {X : Type 0} → ℕ → X → Placed X
placed p x = record { place = p; item = x }

-- a symbol and the place where it begins
abbrev pub PlacedSymbol : Type 0
PlacedSymbol = Placed Symbol

abbrev pub symbols : List PlacedSymbol → List Symbol
symbols [] = []
symbols (y ∷ ys) = y.item ∷ symbols ys

-- what is wrong with a symbol by itself: 2 stray byte, 3 strange word, 4 too big
pub data Flaw : Symbol → ℕ → Type 0 where
  stray_byte : Flaw stray 2
  strange_word : Flaw strange 3
  big_number : {c : ℕ} → 999999 < c → Flaw (number c) 4
  big_register : {i : ℕ} → 31 < i → Flaw (register i) 4

-- a LOOP or a WHILE
pub data Opens : Symbol → Type 0 where
  opens_loop : Opens LOOP
  opens_while : Opens WHILE

pub data IsLoop : Symbol → Type 0 where
  is_loop : IsLoop LOOP

-- LOOP and WHILE
abbrev pub opening : Symbol → ℕ
opening LOOP = 1
opening WHILE = 1
opening DO = 0
opening END = 0
opening (number c) = 0
opening (register i) = 0
opening assign = 0
opening unequal = 0
opening plus_sign = 0
opening minus_sign = 0
opening semicolon = 0
opening stray = 0
opening strange = 0

-- END
abbrev pub closing : Symbol → ℕ
closing LOOP = 0
closing WHILE = 0
closing DO = 0
closing END = 1
closing (number c) = 0
closing (register i) = 0
closing assign = 0
closing unequal = 0
closing plus_sign = 0
closing minus_sign = 0
closing semicolon = 0
closing stray = 0
closing strange = 0

-- LOOP
abbrev pub looping : Symbol → ℕ
looping LOOP = 1
looping WHILE = 0
looping DO = 0
looping END = 0
looping (number c) = 0
looping (register i) = 0
looping assign = 0
looping unequal = 0
looping plus_sign = 0
looping minus_sign = 0
looping semicolon = 0
looping stray = 0
looping strange = 0

-- behind a semicolon or DO a statement begins
abbrev pub separating : Symbol → ℕ
separating LOOP = 0
separating WHILE = 0
separating DO = 1
separating END = 0
separating (number c) = 0
separating (register i) = 0
separating assign = 0
separating unequal = 0
separating plus_sign = 0
separating minus_sign = 0
separating semicolon = 1
separating stray = 0
separating strange = 0

abbrev pub total : (Symbol → ℕ) → List Symbol → ℕ
total f [] = 0
total f (s ∷ xs) = f s + total f xs

-- how many LOOPs and WHILEs are open behind the symbols
abbrev pub level : List Symbol → ℕ
level xs = total opening xs - total closing xs

-- how many statements have begun before the one that begins behind the symbols
abbrev pub statements_before : List Symbol → ℕ
statements_before xs = total separating xs

abbrev pub loops_before : List Symbol → ℕ
loops_before xs = total looping xs

-- a statement begins behind the symbols: there are none, or the last is a semicolon or DO
pub data Starts : List Symbol → Type 0 where
  at_first : Starts []
  behind_semicolon : (xs : List Symbol) → Starts (xs ++ (semicolon ∷ []))
  behind_do : (xs : List Symbol) → Starts (xs ++ (DO ∷ []))

-- the places where the statements begin: at the first symbol if b is 1, and behind each semicolon and DO
abbrev pub heads_after : ℕ → List PlacedSymbol → List ℕ
heads_after b [] = []
heads_after zero (y ∷ ys) = heads_after (separating y.item) ys
heads_after (suc b) (y ∷ ys) = y.place ∷ heads_after (separating y.item) ys

abbrev pub heads : List PlacedSymbol → List ℕ
heads ys = heads_after 1 ys
