-- The sheets to try, by computation.
use Rattle.std.specs.Prelude.{codes}
use Rattle.std.proofs.Common.{refl, arith}
use Rattle.std.specs.Fmt.{digits}
use Rattle.reader.specs.Sheet.{done, plus, minus, loop}
use Rattle.reader.specs.Claims.{SheetText}
use Rattle.reader.proofs.Exampled.{by_printing}
use Rattle.caption_box.specs.Calls.{tick_box, tick_steps, tick_state}
use Rattle.caption_box.specs.Stars.{text_b, sheet_b, text_c, sheet_c, text_d, sheet_d, SheetsToTry}

text_a_spells : SheetText (codes "x0 := x1 - 5") (minus 0 1 5 done)
unfolding digits
text_a_spells = by_printing _ (minus 0 1 5 done) (omega arith) refl tt tt (omega arith)

text_b_spells : SheetText text_b sheet_b
unfolding digits
text_b_spells = by_printing _ sheet_b (omega arith) refl tt (tt, tt, tt) (omega arith)

text_c_spells : SheetText text_c sheet_c
unfolding digits
text_c_spells = by_printing _ sheet_c (omega arith) refl tt (tt, tt, tt) (omega arith)

text_d_spells : SheetText text_d sheet_d
unfolding digits
text_d_spells = by_printing _ sheet_d (omega arith) refl tt (tt, (tt, tt, tt), tt) (omega arith)

text_f_spells : SheetText (codes "LOOP x1 DO x1 := x1 + 1 END; x0 := x1 + 0") (loop 1 (plus 1 1 1 done) (plus 0 1 0 done))
unfolding digits
text_f_spells = by_printing _ (loop 1 (plus 1 1 1 done) (plus 0 1 0 done)) (omega arith) refl tt (tt, tt, tt) (omega arith)

text_g_spells : SheetText (codes "LOOP x1 DO x0 := x0 + 1 END") (loop 1 (plus 0 0 1 done) done)
unfolding digits
text_g_spells = by_printing _ (loop 1 (plus 0 0 1 done) done) (omega arith) refl tt (tt, tt, tt) (omega arith)

text_h_spells : SheetText (codes "x0 := x1 + 1") (plus 0 1 1 done)
unfolding digits
text_h_spells = by_printing _ (plus 0 1 1 done) (omega arith) refl tt tt (omega arith)

pub sheets_to_try : SheetsToTry
unfolding tick_box tick_steps tick_state
sheets_to_try =
    record {
      a = record { spelled = text_a_spells; starts = refl; answer = refl; line = refl; written_total = refl; box_total = refl; written_line = refl; written_run = refl };
      b = record { spelled = text_b_spells; starts = refl; answer = refl; line = refl; written_total = refl; box_total = refl; written_line = refl; written_run = refl };
      c = record { spelled = text_c_spells; starts = refl; answer = refl; line = refl; written_total = refl; box_total = refl; written_line = refl; written_run = refl };
      d = record { spelled = text_d_spells; starts = refl; answer = refl; line = refl; written_total = refl; box_total = refl; written_line = refl; written_run = refl };
      e = record { spelled = text_d_spells; starts = refl; answer = refl; line = refl; written_total = refl; box_total = refl; written_line = refl; written_run = refl };
      f = record { spelled = text_f_spells; starts = refl; answer = refl; line = refl; written_total = refl; box_total = refl; written_line = refl; written_run = refl };
      g = record { spelled = text_g_spells; starts = refl; answer = refl; line = refl; written_total = refl; box_total = refl; written_line = refl; written_run = refl };
      h = record { spelled = text_h_spells; starts = refl; answer = refl; line = refl; written_total = refl; box_total = refl; written_line = refl; written_run = refl };
      i = record { spelled = text_b_spells; starts = refl; first = refl; correction = refl; answer = refl; line = refl };
      j = record { spelled = text_c_spells; starts = refl; first = refl; correction = refl; answer = refl; line = refl };
    }
