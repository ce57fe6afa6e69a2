-- What the cursor's functions tell: which symbols they passed, or which symbol they refused and why.
use Rattle.std.specs.Prelude.{◌≡◌, ℕ, ◌≤◌, List, [], ◌∷◌, length, drop, Some, None, Ok, Err, Option, Result, ◌≢◌}
use Rattle.reader.specs.declared.types.Placed.{Placed}
use Rattle.reader.specs.declared.types.Refusal.{Refusal}
use Rattle.reader.specs.declared.types.Refusal.TheVariants.{OutOfOrder}
use Rattle.reader.specs.declared.types.Kind.{Kind}
use Rattle.reader.specs.declared.types.Kind.TheVariants as kind
use Rattle.reader.specs.declared.types.Lexeme.{Lexeme}
use Rattle.reader.specs.declared.types.Lexeme.TheVariants as lexeme
use Rattle.reader.specs.declared.types.Statement.{Statement}
use Rattle.reader.specs.Symbols.{Symbol, DO, number, register, assign, unequal, plus_sign, minus_sign, PlacedSymbol, placed, Flaw}
use Rattle.reader.specs.Text.{Reads}
use Rattle.reader.specs.Machine.{Expect, becomes, loop_register, while_register, refused, judge}
use Rattle.reader.specs.Refusals.{refusal_number}
use Rattle.reader.specs.Records.{statement_of}
use Rattle.reader.specs.Lexing.{meant, Fine, Between}

-- the symbols ys do not begin with one that P allows: the first has a flaw, or is another, or there is none
pub data Misfit (P : Symbol → Type 0) (end : ℕ) : List PlacedSymbol → Placed Refusal → Type 0 where
  has_flaw : {y : PlacedSymbol} {ys : List PlacedSymbol} {f : Refusal} → Flaw y.item (refusal_number f) → Misfit P end (y ∷ ys) (placed y.place f)
  is_other : {y : PlacedSymbol} {ys : List PlacedSymbol} → Fine y.item → (P y.item → ⊥) → Misfit P end (y ∷ ys) (placed y.place OutOfOrder)
  is_none : Misfit P end [] (placed end OutOfOrder)

-- from `from` on stands no symbol that P allows
abbrev pub Refuses : (Symbol → Type 0) → List ℕ → ℕ → Placed Refusal → Type 0
Refuses P text from e = (ys : List PlacedSymbol) × Reads from (drop from text) ys × Misfit P (length text) ys e

-- the one symbol s stands first from `from` on, and reading goes on at `to`
abbrev pub Passes : List ℕ → ℕ → ℕ → Symbol → Type 0
Passes text from to s = (place : ℕ) × Between text from to (placed place s ∷ [])

abbrev pub Anything : Symbol → Type 0
Anything s = Unit {0}

-- a next symbol, or that there is none
abbrev pub Required : List ℕ → ℕ → Result (Placed Lexeme) (Placed Refusal) → ℕ → Type 0
Required text from (Ok x) to = Between text from to (placed x.place (meant x.item) ∷ []) × Fine (meant x.item)
Required text from (Err e) to = Refuses Anything text from e

-- a symbol of which something is taken: `takes` says what a symbol gives
abbrev pub Takes : {X : Type 0} → (Lexeme → Option X → Type 0) → Symbol → Type 0
Takes takes s = (l : Lexeme) × (s ≡ meant l) × (takes l None → ⊥)

-- the one symbol that stands first gives something, or it is refused
pub data Picked {X : Type 0} (takes : Lexeme → Option X → Type 0) (text : List ℕ) (from : ℕ) : Result X (Placed Refusal) → ℕ → Type 0 where
  picked : {x : X} {l : Lexeme} {to : ℕ} → takes l (Some x) → Passes text from to (meant l) → Fine (meant l) → Picked takes text from (Ok x) to
  not_picked : {e : Placed Refusal} {to : ℕ} → Refuses (Takes takes) text from e → Picked takes text from (Err e) to

-- the wanted symbol
abbrev pub Expected : {X : Type 0} → Lexeme → List ℕ → ℕ → Result X (Placed Refusal) → ℕ → Type 0
Expected l text from (Ok u) to = Passes text from to (meant l) × Fine (meant l)
Expected l text from (Err e) to = Refuses (λ s. s ≡ meant l) text from e

pub data IsRegister : Symbol → Type 0 where
  is_register : {i : ℕ} → IsRegister (register i)

abbrev pub RegisterExpected : List ℕ → ℕ → Result ℕ (Placed Refusal) → ℕ → Type 0
RegisterExpected text from (Ok i) to = Passes text from to (register i) × (i ≤ 31)
RegisterExpected text from (Err e) to = Refuses IsRegister text from e

pub data IsNumber : Symbol → Type 0 where
  is_number : {c : ℕ} → IsNumber (number c)

abbrev pub NumberExpected : List ℕ → ℕ → Result ℕ (Placed Refusal) → ℕ → Type 0
NumberExpected text from (Ok c) to = Passes text from to (number c) × (c ≤ 999999)
NumberExpected text from (Err e) to = Refuses IsNumber text from e

-- the sign of an assignment's kind
pub data Sign : Kind → Symbol → Type 0 where
  sign_plus : Sign kind.Plus plus_sign
  sign_minus : Sign kind.Minus minus_sign

abbrev pub IsSign : Symbol → Type 0
IsSign s = (k : Kind) × Sign k s

abbrev pub SignExpected : List ℕ → ℕ → Result Kind (Placed Refusal) → ℕ → Type 0
SignExpected text from (Ok k) to = (s : Symbol) × Sign k s × Passes text from to s
SignExpected text from (Err e) to = Refuses IsSign text from e

-- whether the symbol that follows a body is the word END, in a text that ends at `end`
abbrev pub Closed : {X : Type 0} → ℕ → Option (Placed Lexeme) → Result X (Placed Refusal) → Type 0
Closed end (Some x) (Ok u) = x.item ≡ lexeme.End
Closed end (Some x) (Err e) = (x.item ≢ lexeme.End) × (e ≡ placed x.place OutOfOrder)
Closed end None (Ok u) = ⊥
Closed end None (Err e) = e ≡ placed end OutOfOrder

-- whether nothing follows the whole sheet, in a text that ends at `end`
abbrev pub Over : ℕ → Option (Placed Lexeme) → Result ℕ (Placed Refusal) → Type 0
Over end None (Ok n) = n ≡ end
Over end None (Err e) = ⊥
Over end (Some x) (Ok n) = ⊥
Over end (Some x) (Err e) = e ≡ placed x.place OutOfOrder

-- what stands from `from` on, where the machine expects x, is refused so
abbrev pub Halts : List ℕ → ℕ → Expect → Placed Refusal → Type 0
Halts text from x e = (ys : List PlacedSymbol) × Reads from (drop from text) ys × ((d n m : ℕ) → judge (length text) x d n m ys ≡ refused (refusal_number e.item) e.place)

-- the symbols behind the target of an assignment
pub data Assigned (text : List ℕ) (from to target end : ℕ) : Statement → Type 0 where
  assigned : {p₂ p₃ p₄ p₅ j c : ℕ} {k : Kind} {s : Symbol} → Sign k s → j ≤ 31 → c ≤ 999999
      → Between text from to (placed p₂ assign ∷ placed p₃ (register j) ∷ placed p₄ s ∷ placed p₅ (number c) ∷ []) → Assigned text from to target end (statement_of k target j c end)

abbrev pub AssignmentRead : List ℕ → ℕ → ℕ → ℕ → Result Statement (Placed Refusal) → ℕ → Type 0
AssignmentRead text from target end (Ok s) to = Assigned text from to target end s
AssignmentRead text from target end (Err e) to = Halts text from becomes e

-- the symbols behind the word LOOP, up to its body
abbrev pub LoopHeadRead : List ℕ → ℕ → Result ℕ (Placed Refusal) → ℕ → Type 0
LoopHeadRead text from (Ok i) to = (p₂ p₃ : ℕ) × Between text from to (placed p₂ (register i) ∷ placed p₃ DO ∷ []) × (i ≤ 31)
LoopHeadRead text from (Err e) to = Halts text from loop_register e

-- the symbols behind the word WHILE, up to its body
abbrev pub WhileHeadRead : List ℕ → ℕ → Result ℕ (Placed Refusal) → ℕ → Type 0
WhileHeadRead text from (Ok i) to =
    (p₂ p₃ p₄ p₅ : ℕ) × Between text from to (placed p₂ (register i) ∷ placed p₃ unequal ∷ placed p₄ (number 0) ∷ placed p₅ DO ∷ []) × (i ≤ 31)
WhileHeadRead text from (Err e) to = Halts text from while_register e
