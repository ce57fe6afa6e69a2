-- What a print of records answers, and what its page then holds.
use Rattle.std.specs.Prelude.{◌≡◌, ℕ, ◌-◌, ◌<◌, ◌≤◌, List, ◌++◌, length, take, drop, Ok, Err, Result}
use Rattle.reader.specs.declared.types.Placed.{Placed}
use Rattle.reader.specs.declared.types.Refusal.{Refusal}
use Rattle.reader.specs.declared.types.Refusal.TheVariants.{NoSheet, PageFull}
use Rattle.reader.specs.declared.types.Statement.{Statement}
use Rattle.reader.specs.Records.{with_places, cleared}
use Rattle.reader.specs.Checks.{IsSheet, items}
use Rattle.reader.specs.Reading.{ReadAnswers}
use Rattle.reader.specs.Printed.{printed}

-- a print of the records on a page that holds these bytes: the answer, and what the page then holds
pub data PrintAnswers (rs : List (Placed Statement)) (page : List ℕ) : Result ℕ Refusal → List ℕ → Type 0 where
  wrote : (h : IsSheet rs) → length (printed h.sheet) ≤ length page
      → PrintAnswers rs page (Ok (length (printed h.sheet))) (printed h.sheet ++ drop (length (printed h.sheet)) page)
  -- 9 no sheet
  no_sheet : (IsSheet rs → ⊥) → PrintAnswers rs page (Err NoSheet) page
  -- 16 page full
  page_full : (h : IsSheet rs) → length page < length (printed h.sheet) → PrintAnswers rs page (Err PageFull) page

-- a read of the text gives the records back, places aside, wherever there is room for them
pub record ReadsBack (rs : List (Placed Statement)) (text : List ℕ) : Type 0 where
  pub short : length text ≤ 16384
  pub places : List ℕ
  pub each : length places ≡ length rs
  pub read : (room : ℕ) → length rs ≤ room → ReadAnswers text room (Ok (length rs)) (with_places places (items rs) ++ cleared (room - length rs))

-- what was printed is read back: the n bytes at the front of the page
abbrev pub PrintReads : List (Placed Statement) → Result ℕ Refusal → List ℕ → Type 0
PrintReads rs (Ok n) after = (n ≤ 16384) × ReadsBack rs (take n after)
PrintReads rs (Err e) after = Unit {0}
