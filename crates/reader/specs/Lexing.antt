-- What the lexer's functions tell of a text, in the words of Text.antt.
use Rattle.std.specs.Prelude.{◌≡◌, ℕ, ◌<◌, ◌≤◌, Bool, true, false, List, [], ◌∷◌, ◌++◌, length, drop, Some, None, Ok, Err, codes, Option, Result, ◌≢◌, slice_index, ◌==◌, ◌||◌}
use Rattle.std.specs.Char.{is_ascii_digit}
use Rattle.reader.specs.declared.types.Placed.{Placed}
use Rattle.reader.specs.declared.types.Refusal.{Refusal}
use Rattle.reader.specs.declared.types.Refusal.TheVariants.{StrayByte, StrangeWord, TooBig}
use Rattle.reader.specs.declared.types.Token.{Token}
use Rattle.reader.specs.declared.types.Token.TheVariants as token
use Rattle.reader.specs.declared.types.Lexeme.{Lexeme}
use Rattle.reader.specs.declared.types.Lexeme.TheVariants as lexeme
use Rattle.reader.specs.Symbols.{Symbol, LOOP, WHILE, DO, END, number, register, assign, unequal, plus_sign, minus_sign, semicolon, stray, PlacedSymbol, placed, Flaw}
use Rattle.reader.specs.Text.{Mark, Numeral, value, Means, AllAlnum, Stops, Reads}
use Rattle.reader.specs.Refusals.{refusal_number}

-- the symbol that a lexeme is
abbrev pub meant : Lexeme → Symbol
meant lexeme.Loop = LOOP
meant lexeme.While = WHILE
meant lexeme.Do = DO
meant lexeme.End = END
meant (lexeme.Number c) = number c
meant (lexeme.Register i) = register i
meant lexeme.Assign = assign
meant lexeme.Unequal = unequal
meant lexeme.Plus = plus_sign
meant lexeme.Minus = minus_sign
meant lexeme.Semicolon = semicolon

-- nothing is wrong with the symbol by itself
abbrev pub Fine : Symbol → Type 0
Fine s = (n : ℕ) → Flaw s n → ⊥

-- whether the digits of w write a number up to 999,999, and which
pub data NumberTold (w : List ℕ) : Result ℕ Refusal → Type 0 where
  small_number : Numeral w → value w ≤ 999999 → NumberTold w (Ok (value w))
  large_number : Numeral w → 999999 < value w → NumberTold w (Err TooBig)
  no_number : (Numeral w → ⊥) → NumberTold w (Err StrangeWord)

-- whether w names a register up to x31, and which
pub data RegisterTold (w : List ℕ) : Result Lexeme Refusal → Type 0 where
  small_register : {ds : List ℕ} → w ≡ 120 ∷ ds → Numeral ds → value ds ≤ 31 → RegisterTold w (Ok (lexeme.Register (value ds)))
  large_register : {ds : List ℕ} → w ≡ 120 ∷ ds → Numeral ds → 31 < value ds → RegisterTold w (Err TooBig)
  no_register : ((ds : List ℕ) → w ≡ 120 ∷ ds → Numeral ds → ⊥) → RegisterTold w (Err StrangeWord)

-- what the run w of letters and digits says: a symbol with which nothing is wrong, or one with that flaw
abbrev pub WordTold : List ℕ → Result Lexeme Refusal → Type 0
WordTold w (Ok l) = Means w (meant l) × Fine (meant l)
WordTold w (Err f) = (s : Symbol) × Means w s × Flaw s (refusal_number f)

-- what a token says
abbrev pub TokenTold : Token → Result Lexeme Refusal → Type 0
TokenTold (token.Word w) r = WordTold w.now r
TokenTold (token.Number w) r = WordTold w.now r
TokenTold token.Assign r = r ≡ Ok lexeme.Assign
TokenTold token.Unequal r = r ≡ Ok lexeme.Unequal
TokenTold token.Plus r = r ≡ Ok lexeme.Plus
TokenTold token.Minus r = r ≡ Ok lexeme.Minus
TokenTold token.Semicolon r = r ≡ Ok lexeme.Semicolon

-- how many bytes a token takes
abbrev pub width : Token → ℕ
width (token.Word w) = length w.now
width (token.Number w) = length w.now
width token.Assign = 2
width token.Unequal = 2
width token.Plus = 1
width token.Minus = 1
width token.Semicolon = 1

-- whether the word w begins with a digit
abbrev pub digit_first : List ℕ → Bool
digit_first w = is_ascii_digit (slice_index w 0)

-- a number begins with a digit, and no other word does
abbrev pub Sorted : Token → Type 0
Sorted (token.Word w) = digit_first w.now ≡ false
Sorted (token.Number w) = digit_first w.now ≡ true
Sorted token.Assign = Unit {0}
Sorted token.Unequal = Unit {0}
Sorted token.Plus = Unit {0}
Sorted token.Minus = Unit {0}
Sorted token.Semicolon = Unit {0}

-- w is the longest run of letters and digits at the front of bs, and not empty
pub record Run (bs w : List ℕ) : Type 0 where
  pub rest : List ℕ
  pub split : bs ≡ w ++ rest
  pub alnum : AllAlnum w
  pub stops : Stops rest
  pub some : 0 < length w

-- m stands at the front of bs
abbrev pub Front : List ℕ → List ℕ → Type 0
Front m bs = (rest : List ℕ) × (bs ≡ m ++ rest)

-- the token stands at the front of bs
abbrev pub Stands : List ℕ → Token → Type 0
Stands bs (token.Word w) = Run bs w.now
Stands bs (token.Number w) = Run bs w.now
Stands bs token.Assign = Front (codes ":=") bs
Stands bs token.Unequal = Front (codes "!=") bs
Stands bs token.Plus = Front (codes "+") bs
Stands bs token.Minus = Front (codes "-") bs
Stands bs token.Semicolon = Front (codes ";") bs

-- the mark that stands at the front of bs, or that none does
abbrev pub MarkTold : List ℕ → Option Token → Type 0
MarkTold bs (Some t) = Sorted t × Stands bs t
MarkTold bs None = (m rest : List ℕ) (s : Symbol) → Mark m s → bs ≢ m ++ rest

-- whether the byte is a blank
abbrev pub is_blank : ℕ → Bool
is_blank b = b == 32 || b == 10

-- what is read from `to` on is read from `from` on, behind the symbols us
abbrev pub Between : List ℕ → ℕ → ℕ → List PlacedSymbol → Type 0
Between text from to us = (zs : List PlacedSymbol) → Reads to (drop to text) zs → Reads from (drop from text) (us ++ zs)

-- a byte that begins nothing stands first
abbrev pub Stray : List ℕ → ℕ → ℕ → Type 0
Stray text from place = (zs : List PlacedSymbol) × Reads from (drop from text) (placed place stray ∷ zs)

-- the first token from `from` on, none at the text's end, or a stray byte
abbrev pub TokenRead : List ℕ → ℕ → Result (Option (Placed Token)) (Placed Refusal) → Type 0
TokenRead text from (Ok None) = Reads from (drop from text) []
TokenRead text from (Ok (Some t)) = Between text from t.place [] × Stands (drop t.place text) t.item × Sorted t.item
TokenRead text from (Err e) = Stray text from e.place × (e.item ≡ StrayByte)

-- the first symbol from `from` on, with which nothing is wrong, behind which reading goes on at `to`; none at the text's end;
-- or one that has a flaw
abbrev pub LexemeRead : List ℕ → ℕ → Result (Option (Placed Lexeme)) (Placed Refusal) → ℕ → Type 0
LexemeRead text from (Ok None) to = Reads from (drop from text) []
LexemeRead text from (Ok (Some x)) to = Between text from to (placed x.place (meant x.item) ∷ []) × Fine (meant x.item)
LexemeRead text from (Err e) to = (s : Symbol) × (zs : List PlacedSymbol) × Reads from (drop from text) (placed e.place s ∷ zs) × Flaw s (refusal_number e.item)
