-- What is claimed of the printed form.
use Rattle.std.specs.Prelude.{◌≡◌, ℕ, ◌-◌, ◌≤◌, List, ◌++◌, length, take, Ok, codes, Result}
use Rattle.reader.specs.declared.types.Placed.{Placed}
use Rattle.reader.specs.declared.types.Refusal.{Refusal}
use Rattle.reader.specs.declared.types.Statement.{Statement}
use Rattle.reader.specs.Sheet.{Sheet, done, plus, minus, loop, while, Some, Whole, Within, size}
use Rattle.reader.specs.Records.{records, with_places, cleared}
use Rattle.reader.specs.Reading.{ReadAnswers}
use Rattle.reader.specs.Printed.{printed}
use Rattle.reader.specs.Checks.{IsSheet, Spans, Follows, sibling}
use Rattle.reader.specs.Printing.{PrintAnswers}

-- the printed form of a sheet within the limits is never overlong, and a read of it gives the sheet's records, places aside, wherever there is room for them
abbrev pub PrintedSheetReadsBack : Type 0
PrintedSheetReadsBack =
    (p : Sheet) → Some p → Whole p → Within p
    → (length (printed p) ≤ 16384)
    × ((places : List ℕ) × (length places ≡ size p)
    × ((room : ℕ) → size p ≤ room → ReadAnswers (printed p) room (Ok (size p)) (with_places places (records p) ++ cleared (room - size p))))

-- the next-sibling question leads along a body: asked of its statement at an index, it tells where the statements behind that one begin, and that there are none
abbrev pub NextSiblingLeadsOn : Type 0
NextSiblingLeadsOn =
    (rs : List (Placed Statement)) (i e : ℕ) (p : Sheet) → Some p → Spans rs i e p → Follows rs e p (sibling rs i e)

-- a print has at most one answer
abbrev pub PrintIsUnique : Type 0
PrintIsUnique =
    (rs : List (Placed Statement)) (page : List ℕ) (a b : Result ℕ Refusal) (k l : List ℕ)
    → PrintAnswers rs page a k → PrintAnswers rs page b l → (a ≡ b) × (k ≡ l)

-- the records of a text that is read are those of a sheet, so that they can be printed
abbrev pub ReadSheetPrints : Type 0
ReadSheetPrints =
    (text : List ℕ) (room n : ℕ) (memory : List (Placed Statement)) → ReadAnswers text room (Ok n) memory → IsSheet (take n memory)

-- the printed form of the worked example of docs/SHEET.md
abbrev pub ExamplePrints : Type 0
ExamplePrints =
    printed (plus 3 1 10 (while 1 (minus 1 1 1 (loop 2 (plus 0 0 3 done) done)) done))
    ≡ codes "x3 := x1 + 10; WHILE x1 != 0 DO x1 := x1 - 1; LOOP x2 DO x0 := x0 + 3 END END"
