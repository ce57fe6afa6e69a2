-- The examples, by computation: a refused text by reading it, another by printing its sheet.
use Rattle.std.proofs.Common.{◌≡◌, ℕ, ◌≤◌, List, length, sym, refl, subst, arith}
use native.Mathlib.Decide.{ℕ_discrete, dec_lt}
use Rattle.std.specs.Fmt.{digits}
use Rattle.reader.specs.declared.types.Refusal.{Refusal}
use Rattle.reader.specs.declared.types.Refusal.TheVariants.{StrayByte, StrangeWord, TooBig, OutOfOrder, TooDeep}
use Rattle.reader.specs.Sheet.{Sheet, done, plus, minus, loop, while, Some, Whole, Within}
use Rattle.reader.specs.Grammar.{Spells}
use Rattle.reader.specs.Machine.{Verdict, refused, judge, verdict}
use Rattle.reader.specs.Refusals.{refusal_number}
use Rattle.reader.specs.Printed.{printed, spelling}
use Rattle.reader.specs.Reading.{faulty}
use Rattle.reader.specs.Claims.{Says, RefusedText, SheetText, ExampleTexts}
use Rattle.reader.proofs.Exactly.{exact}
use Rattle.reader.proofs.Counts.{fine_spelled}
use Rattle.reader.proofs.Printing.{spelling_spells, reads_back}
use Rattle.reader.proofs.Scanning.{scanned, scanned_by, holds?, blank_by, front?, mark_from, mark?, numeral_by, same?, numeral?, register_by, register?, meaning_by, meaning, split_by, split}

unfoldable answer : (text : List ℕ) → length text ≤ 16384 → Verdict
unfolding scanned scanned_by holds? blank_by front? mark_from mark? numeral_by same? numeral? register_by register? meaning_by meaning split_by split ℕ_discrete dec_lt judge
answer text h = verdict (length text) (scanned (length text) 0 text (omega arith)).0

by_reading : (text : List ℕ) (r : Refusal) (p : ℕ) (h : length text ≤ 16384) → answer text h ≡ refused (refusal_number r) p → RefusedText text r p
unfolding answer
by_reading text r p h e =
    let s = scanned (length text) 0 text (omega arith) in
    faulty (record { short = h; reads = s.1 }) (subst (Says (length text) s.0) e (exact (length text) s.0))

pub by_printing : (text : List ℕ) (p : Sheet) → length text ≤ 16384 → printed p ≡ text → Some p → Whole p → Within p → SheetText text p
by_printing text p l e s h w =
    let k = spelling_spells p h s in
    let back = reads_back (spelling p) (fine_spelled k w.fit) in
    subst (λ t. length t ≤ 16384 → SheetText t p) e
    (λ l. (back.0, record { short = l; reads = back.1 }, record { spells = subst (λ xs. Spells xs p) (sym back.2) k; within = w })) l

pub exampled : ExampleTexts
unfolding answer digits
exampled = record {
  too_big = by_reading _ TooBig 11 (omega arith) refl;
  open_semicolon = by_reading _ OutOfOrder 13 (omega arith) refl;
  nothing = by_reading _ OutOfOrder 0 (omega arith) refl;
  leading_zero = by_reading _ StrangeWord 0 (omega arith) refl;
  lone_colon = by_reading _ StrayByte 3 (omega arith) refl;
  empty_body = by_reading _ OutOfOrder 11 (omega arith) refl;
  not_zero = by_reading _ OutOfOrder 12 (omega arith) refl;
  smaller_number = by_reading _ TooBig 0 (omega arith) refl;
  ninth_level = by_reading _ TooDeep 88 (omega arith) refl;
  one_minus = by_printing _ (minus 0 1 5 done) (omega arith) refl tt tt (omega arith);
  plus_and_loop = by_printing _ (plus 0 1 0 (loop 2 (plus 0 0 2 done) done)) (omega arith) refl tt (tt, tt, tt) (omega arith);
  single_while = by_printing _ (while 1 (minus 1 1 1 (plus 0 0 2 done)) done) (omega arith) refl tt (tt, tt, tt) (omega arith);
  loop_in_loop = by_printing _ (loop 1 (loop 2 (plus 0 0 1 done) done) done) (omega arith) refl tt (tt, (tt, tt, tt), tt) (omega arith);
}
