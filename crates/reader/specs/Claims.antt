-- What is claimed of the definitions.
use Rattle.std.specs.Prelude.{◌≡◌, ℕ, ◌<◌, ◌≤◌, ◌⊎◌, List, [], length, Ok, Err, codes, Result}
use Rattle.reader.specs.declared.types.Placed.{Placed}
use Rattle.reader.specs.declared.types.Refusal.{Refusal}
use Rattle.reader.specs.declared.types.Refusal.TheVariants.{StrayByte, StrangeWord, TooBig, OutOfOrder, TooDeep}
use Rattle.reader.specs.declared.types.Statement.{Statement}
use Rattle.reader.specs.Sheet.{Sheet, done, plus, minus, loop, while, Within, size}
use Rattle.reader.specs.Symbols.{Symbol, PlacedSymbol, placed, symbols, heads}
use Rattle.reader.specs.Grammar.{Spells}
use Rattle.reader.specs.Faults.{FirstFault, SomeFault}
use Rattle.reader.specs.Machine.{Verdict, accepted, refused, verdict}
use Rattle.reader.specs.Text.{Reads}
use Rattle.reader.specs.Records.{records, cleared}
use Rattle.reader.specs.Reading.{Lexed, Sheeted, ReadAnswers}

-- the symbols spell a sheet within the limits
abbrev pub Sheetable : List PlacedSymbol → Type 0
Sheetable ys = (p : Sheet) × Spells (symbols ys) p × Within p

-- the verdict is what the grammar and the table of refusals say
abbrev pub Says : ℕ → List PlacedSymbol → Verdict → Type 0
Says end ys accepted = Sheetable ys
Says end ys (refused n p) = FirstFault end [] ys p n

-- the machine accepts only sheets within the limits, and refuses only by the first fault
abbrev pub VerdictIsGrammar : Type 0
VerdictIsGrammar = (end : ℕ) (ys : List PlacedSymbol) → Says end ys (verdict end ys)

-- every sheet within the limits is accepted
abbrev pub SheetsAreAccepted : Type 0
SheetsAreAccepted = (end : ℕ) (ys : List PlacedSymbol) → Sheetable ys → verdict end ys ≡ accepted

-- every first fault is the one that is told
abbrev pub FirstFaultIsTold : Type 0
FirstFaultIsTold = (end : ℕ) (ys : List PlacedSymbol) (p n : ℕ) → FirstFault end [] ys p n → verdict end ys ≡ refused n p

-- symbols spell at most one sheet
abbrev pub SheetIsUnique : Type 0
SheetIsUnique = (xs : List Symbol) (p q : Sheet) → Spells xs p → Spells xs q → p ≡ q

-- sheets with the same records are the same
abbrev pub RecordsTellSheet : Type 0
RecordsTellSheet = (p q : Sheet) → records p ≡ records q → p ≡ q

-- each statement has its record, and its place
abbrev pub RecordForEachStatement : Type 0
RecordForEachStatement = (ys : List PlacedSymbol) (p : Sheet) → Spells (symbols ys) p → (length (heads ys) ≡ size p) × (length (records p) ≡ size p)

-- the first fault is a fault, and no other is further left, nor at its place with a smaller number
abbrev pub FirstFaultIsLeftmost : Type 0
FirstFaultIsLeftmost =
    (text : List ℕ) (ys : List PlacedSymbol) (p n : ℕ) → Reads 0 text ys → FirstFault (length text) [] ys p n
    → SomeFault (length text) [] ys p n × ((q m : ℕ) → SomeFault (length text) [] ys q m → (p < q) ⊎ ((p ≡ q) × (n ≤ m)))

-- a text has at most one answer
abbrev pub AnswerIsUnique : Type 0
AnswerIsUnique =
    (text : List ℕ) (room : ℕ) (a b : Result ℕ (Placed Refusal)) (k l : List (Placed Statement))
    → ReadAnswers text room a k → ReadAnswers text room b l → (a ≡ b) × (k ≡ l)

-- the text spells a sheet within the limits, and there is memory for its records
pub record Readable (text : List ℕ) (room : ℕ) : Type 0 where
  pub ys : List PlacedSymbol
  pub sheet : Sheet
  pub lexed : Lexed text ys
  pub sheeted : Sheeted ys sheet
  pub fits : size sheet ≤ room

-- a text is accepted exactly if it is readable, and the number told is that of the sheet's statements
abbrev pub AcceptedExactly : Type 0
AcceptedExactly =
    (text : List ℕ) (room : ℕ) (r : Result ℕ (Placed Refusal)) (k : List (Placed Statement)) → ReadAnswers text room r k
    → ((h : Readable text room) → r ≡ Ok (size h.sheet)) × ((n : ℕ) → r ≡ Ok n → Readable text room)

-- the text is refused so, whatever memory there is for 256 records
abbrev pub RefusedText : List ℕ → Refusal → ℕ → Type 0
RefusedText text refusal place = ReadAnswers text 256 (Err (placed place refusal)) (cleared 256)

-- the text is that of the sheet
abbrev pub SheetText : List ℕ → Sheet → Type 0
SheetText text p = (ys : List PlacedSymbol) × Lexed text ys × Sheeted ys p

pub record ExampleTexts : Type 0 where
  pub too_big : RefusedText (codes "x0 := x0 + 1000000") TooBig 11
  pub open_semicolon : RefusedText (codes "x0 := x0 + 1;") OutOfOrder 13
  pub nothing : RefusedText (codes "") OutOfOrder 0
  pub leading_zero : RefusedText (codes "x05 := x0 + 1") StrangeWord 0
  pub lone_colon : RefusedText (codes "x0 : = x1 + 2") StrayByte 3
  pub empty_body : RefusedText (codes "LOOP x1 DO END") OutOfOrder 11
  pub not_zero : RefusedText (codes "WHILE x1 != 1 DO x0 := x0 + 1 END") OutOfOrder 12
  pub smaller_number : RefusedText (codes "1000000 := x0") TooBig 0
  pub ninth_level : RefusedText (codes "LOOP x1 DO LOOP x1 DO LOOP x1 DO LOOP x1 DO LOOP x1 DO LOOP x1 DO LOOP x1 DO LOOP x1 DO LOOP") TooDeep 88
  pub one_minus : SheetText (codes "x0 := x1 - 5") (minus 0 1 5 done)
  pub plus_and_loop : SheetText (codes "x0 := x1 + 0; LOOP x2 DO x0 := x0 + 2 END") (plus 0 1 0 (loop 2 (plus 0 0 2 done) done))
  pub single_while : SheetText (codes "WHILE x1 != 0 DO x1 := x1 - 1; x0 := x0 + 2 END") (while 1 (minus 1 1 1 (plus 0 0 2 done)) done)
  pub loop_in_loop : SheetText (codes "LOOP x1 DO LOOP x2 DO x0 := x0 + 1 END END") (loop 1 (loop 2 (plus 0 0 1 done) done) done)
