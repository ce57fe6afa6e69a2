-- The sheets to try (docs/SHOW.md), as one list about the definitions.
use Rattle.std.specs.Prelude.{◌≡◌, ℕ, List, [], ◌∷◌, replicate, Ok, codes, slice_index_or}
use Rattle.reader.specs.Sheet.{Sheet, done, plus, minus, loop, while}
use Rattle.reader.specs.WrittenRun.{WrittenRun, written_steps}
use Rattle.reader.specs.Claims.{SheetText}
use Rattle.translator.specs.Counters.{sheet_width}
use Rattle.translator.specs.Translation.{compiled}
use Rattle.caption_box.specs.declared.types.State.{State}
use Rattle.caption_box.specs.declared.types.State.TheVariants.{Ended, Over, Time}
use Rattle.caption_box.specs.declared.types.Ticked.{Ticked}
use Rattle.caption_box.specs.Calls.{Setting, setting, Scene, scene, seats, beginning, ticks, corrects}
use Rattle.caption_box.specs.History.{account_start}

-- the tops of the two stores
abbrev pub flat_top : ℕ
flat_top = 4294967295

abbrev pub decimal_top : ℕ
decimal_top = 999999

abbrev pub answered : ℕ → State → Ticked
answered n o = record { steps = n; state = o }

-- the setting of a sheet's code
abbrev pub home : Sheet → ℕ → Setting
home p top = setting (compiled p) (sheet_width p) top

-- its show at the beginning, on a store of N zeros
abbrev pub fresh : Sheet → ℕ → List ℕ → Scene
fresh p top xs = scene (home p top) (beginning (home p top) xs (replicate (sheet_width p) 0))

-- the written run after a tick of 100
abbrev pub written : Sheet → ℕ → List ℕ → WrittenRun
written p top xs = written_steps top 100 (account_start p xs).run

-- the text spells the sheet; its show with these inputs answers a tick of 100 with b steps and that state, and then x0 and the tallies of
-- written and box steps are as told; so are x0 and the steps of the written run
pub record Star (text : List ℕ) (p : Sheet) (top : ℕ) (xs : List ℕ) (x0 w b : ℕ) (o : State) : Type 0 where
  pub spelled : SheetText text p
  pub starts : seats (sheet_width p) top (replicate (sheet_width p) 0) xs ≡ Ok tt
  pub answer : (ticks (fresh p top xs) 100).answer ≡ Ok (answered b o)
  pub line : slice_index_or (ticks (fresh p top xs) 100).after.box.registers 0 0 ≡ x0
  pub written_total : (ticks (fresh p top xs) 100).after.box.counts.written ≡ w
  pub box_total : (ticks (fresh p top xs) 100).after.box.steps ≡ b
  pub written_line : slice_index_or (written p top xs).registers 0 0 ≡ x0
  pub written_run : (written p top xs).counts.written ≡ w

-- a show that is ticked k times, has xi corrected to v, and is ticked by 100 more
abbrev pub mended : Sheet → List ℕ → ℕ → ℕ → ℕ → Scene
mended p xs k i v = (corrects (ticks (fresh p flat_top xs) k).after i v).after

pub record MendedStar (text : List ℕ) (p : Sheet) (xs : List ℕ) (k i v did x0 : ℕ) : Type 0 where
  pub spelled : SheetText text p
  pub starts : seats (sheet_width p) flat_top (replicate (sheet_width p) 0) xs ≡ Ok tt
  pub first : (ticks (fresh p flat_top xs) k).answer ≡ Ok (answered k Time)
  pub correction : (corrects (ticks (fresh p flat_top xs) k).after i v).answer ≡ Ok tt
  pub answer : (ticks (mended p xs k i v) 100).answer ≡ Ok (answered did Ended)
  pub line : slice_index_or (ticks (mended p xs k i v) 100).after.box.registers 0 0 ≡ x0

abbrev pub text_b : List ℕ
text_b = codes "x0 := x1 + 0; LOOP x2 DO x0 := x0 + 2 END"

abbrev pub sheet_b : Sheet
sheet_b = plus 0 1 0 (loop 2 (plus 0 0 2 done) done)

abbrev pub text_c : List ℕ
text_c = codes "WHILE x1 != 0 DO x1 := x1 - 1; x0 := x0 + 2 END"

abbrev pub sheet_c : Sheet
sheet_c = while 1 (minus 1 1 1 (plus 0 0 2 done)) done

abbrev pub text_d : List ℕ
text_d = codes "LOOP x1 DO LOOP x2 DO x0 := x0 + 1 END END"

abbrev pub sheet_d : Sheet
sheet_d = loop 1 (loop 2 (plus 0 0 1 done) done) done

pub record SheetsToTry : Type 0 where
  pub a : Star (codes "x0 := x1 - 5") (minus 0 1 5 done) flat_top (3 ∷ []) 0 1 1 Ended
  pub b : Star text_b sheet_b flat_top (3 ∷ 2 ∷ []) 7 4 11 Ended
  pub c : Star text_c sheet_c flat_top (3 ∷ []) 6 10 13 Ended
  pub d : Star text_d sheet_d flat_top (3 ∷ 0 ∷ []) 0 4 17 Ended
  pub e : Star text_d sheet_d flat_top (2 ∷ 2 ∷ []) 4 7 28 Ended
  pub f : Star (codes "LOOP x1 DO x1 := x1 + 1 END; x0 := x1 + 0") (loop 1 (plus 1 1 1 done) (plus 0 1 0 done)) flat_top (3 ∷ []) 6 5 15 Ended
  pub g : Star (codes "LOOP x1 DO x0 := x0 + 1 END") (loop 1 (plus 0 0 1 done) done) flat_top (0 ∷ []) 0 1 2 Ended
  pub h : Star (codes "x0 := x1 + 1") (plus 0 1 1 done) decimal_top (999999 ∷ []) 0 0 0 Over
  pub i : MendedStar text_b sheet_b (3 ∷ 2 ∷ []) 2 2 9 9 7
  pub j : MendedStar text_c sheet_c (3 ∷ []) 1 1 1 4 2
