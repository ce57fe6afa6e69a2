-- Which symbols stand in a text, and where.
use Rattle.std.specs.Prelude.{ℕ, suc, ◌+◌, ◌-◌, ◌*◌, ◌<◌, T, List, [], ◌∷◌, ◌++◌, length, codes, ◌≢◌}
use Rattle.std.specs.Char.{is_ascii_alphanumeric, is_ascii_digit}
use Rattle.std.specs.Str.{all_ascii_digits}
use Rattle.reader.specs.Symbols.{Symbol, LOOP, WHILE, DO, END, number, register, assign, unequal, plus_sign, minus_sign, semicolon, stray, strange, PlacedSymbol, placed}

-- space and line feed
pub data Blank : ℕ → Type 0 where
  space : Blank 32
  line_feed : Blank 10

pub data Mark : List ℕ → Symbol → Type 0 where
  mark_assign : Mark (codes ":=") assign
  mark_unequal : Mark (codes "!=") unequal
  mark_plus : Mark (codes "+") plus_sign
  mark_minus : Mark (codes "-") minus_sign
  mark_semicolon : Mark (codes ";") semicolon

-- 0, or a digit 1 to 9 followed by any digits
pub data Numeral : List ℕ → Type 0 where
  just_zero : Numeral (48 ∷ [])
  some_digits : {d : ℕ} {ds : List ℕ} → 48 < d → T (is_ascii_digit d) → T (all_ascii_digits ds) → Numeral (d ∷ ds)

-- the number that the digits write in base ten, after n
abbrev pub read_on : ℕ → List ℕ → ℕ
read_on n [] = n
read_on n (c ∷ cs) = read_on (10 * n + (c - 48)) cs

abbrev pub value : List ℕ → ℕ
value ds = read_on 0 ds

pub data Word : List ℕ → Symbol → Type 0 where
  word_loop : Word (codes "LOOP") LOOP
  word_while : Word (codes "WHILE") WHILE
  word_do : Word (codes "DO") DO
  word_end : Word (codes "END") END
  word_number : {ds : List ℕ} → Numeral ds → Word ds (number (value ds))
  word_register : {ds : List ℕ} → Numeral ds → Word (120 ∷ ds) (register (value ds))

-- what a run of letters and digits is
pub data Means (w : List ℕ) : Symbol → Type 0 where
  a_word : {s : Symbol} → Word w s → Means w s
  no_word : ((s : Symbol) → Word w s → ⊥) → Means w strange

abbrev pub AllAlnum : List ℕ → Type 0
AllAlnum [] = Unit {0}
AllAlnum (b ∷ bs) = T (is_ascii_alphanumeric b) × AllAlnum bs

-- no letter or digit goes on
abbrev pub Stops : List ℕ → Type 0
Stops [] = Unit {0}
Stops (b ∷ bs) = T (is_ascii_alphanumeric b) → ⊥

-- from the place p on stand these bytes, and in them these symbols: a place is a byte offset
pub data Reads : ℕ → List ℕ → List PlacedSymbol → Type 0 where
  the_end : {p : ℕ} → Reads p [] []
  a_blank : {p b : ℕ} {bs : List ℕ} {ys : List PlacedSymbol} → Blank b → Reads (suc p) bs ys → Reads p (b ∷ bs) ys
  a_mark : {p : ℕ} {s : Symbol} {ys : List PlacedSymbol} (m bs : List ℕ) → Mark m s → Reads (p + length m) bs ys → Reads p (m ++ bs) (placed p s ∷ ys)
  -- a longest run of letters and digits
  a_run : {p b : ℕ} {s : Symbol} {ys : List PlacedSymbol} (w bs : List ℕ) → AllAlnum (b ∷ w) → Stops bs → Means (b ∷ w) s → Reads (p + suc (length w)) bs ys → Reads p (b ∷ (w ++ bs)) (placed p s ∷ ys)
  -- a byte that begins nothing
  a_stray : {p b : ℕ} {bs : List ℕ} {ys : List PlacedSymbol} → (Blank b → ⊥) → (T (is_ascii_alphanumeric b) → ⊥) → ((m rest : List ℕ) (s : Symbol) → Mark m s → b ∷ bs ≢ m ++ rest) → Reads (suc p) bs ys → Reads p (b ∷ bs) (placed p stray ∷ ys)
