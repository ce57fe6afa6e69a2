-- How long flat forms and codes are, and which registers and labels a code names.
use Rattle.std.specs.Prelude.{◌≡◌, ℕ, zero, suc, ◌+◌, ◌*◌, ◌≤◌, List, length}
use Rattle.std.proofs.Math.Option.{some}
use Rattle.reader.specs.Sheet.{Sheet, done, plus, minus, loop, while, Whole, Fit, Within, size, loops}
use Rattle.reader.specs.WrittenRun.{times}
use Rattle.translator.specs.JumpCode.{halt, instruction_at, AllFit}
use Rattle.translator.specs.Counters.{sheet_width}
use Rattle.translator.specs.Translation.{flat, flat_size, flat_records, flat_places, compiled}
use Rattle.translator.specs.Width.{width}

abbrev pub assignments : Sheet → ℕ
assignments done = 0
assignments (plus i j c p) = suc (assignments p)
assignments (minus i j c p) = suc (assignments p)
assignments (loop i b p) = assignments b + assignments p
assignments (while i b p) = assignments b + assignments p

abbrev pub whiles : Sheet → ℕ
whiles done = 0
whiles (plus i j c p) = whiles p
whiles (minus i j c p) = whiles p
whiles (loop i b p) = whiles b + whiles p
whiles (while i b p) = suc (whiles b + whiles p)

-- a LOOP is three flat statements, and any other statement one; each has its record and its place
pub record FlatSizes (p : Sheet) : Type 0 where
  pub statements : flat_size (flat p) ≡ size p + 2 * loops p
  pub records : length (flat_records (flat p)) ≡ flat_size (flat p)
  pub places : (xs : List ℕ) → length xs ≡ size p → length (flat_places p xs) ≡ flat_size (flat p)

abbrev pub FlatSizeIsCounted : Type 0
FlatSizeIsCounted = (p : Sheet) → FlatSizes p

abbrev pub FlatHasAtMost320 : Type 0
FlatHasAtMost320 = (p : Sheet) → Within p → length (flat_records (flat p)) ≤ 320

abbrev pub CodeSizeIsCounted : Type 0
CodeSizeIsCounted = (p : Sheet) → length (compiled p) ≡ assignments p + 4 * loops p + 2 * whiles p + 1

abbrev pub CodeHasAtMost548 : Type 0
CodeHasAtMost548 = (p : Sheet) → Whole p → Within p → length (compiled p) ≤ 548

-- n LOOPs, or n WHILEs, around one assignment
abbrev pub loop_nest : ℕ → Sheet
loop_nest zero = plus 0 0 0 done
loop_nest (suc n) = loop 0 (loop_nest n) done

abbrev pub while_nest : ℕ → Sheet
while_nest zero = plus 0 0 0 done
while_nest (suc n) = while 0 (while_nest n) done

-- 28 nests of 8 levels and one of 3, with 32 LOOPs among them
abbrev pub fullest : Sheet
fullest = times 4 (loop_nest 8) (times 24 (while_nest 8) (while_nest 3))

-- the bounds are met
pub record Fullest : Type 0 where
  pub whole : Whole fullest
  pub within : Within fullest
  pub flats : length (flat_records (flat fullest)) ≡ 320
  pub code : length (compiled fullest) ≡ 548

-- N of a sheet's code is 32 and its LOOPs
abbrev pub CodeWidthIsSheetWidth : Type 0
CodeWidthIsSheetWidth = (p : Sheet) → Fit p → (width (compiled p) ≡ sheet_width p) × (sheet_width p ≡ 32 + loops p)

-- what a seal asks for: labels inside, registers below N and so at most x63, and HALT at the end
pub record WholeCode (p : Sheet) : Type 0 where
  pub fits : AllFit (sheet_width p) (compiled p)
  pub narrow : sheet_width p ≤ 64
  pub last : instruction_at (compiled p) (length (compiled p)) ≡ some halt

abbrev pub CodeIsWhole : Type 0
CodeIsWhole = (p : Sheet) → Within p → WholeCode p
