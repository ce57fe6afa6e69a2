-- The printed form of a sheet is read back.
use Rattle.std.proofs.Common.{◌≡◌, ℕ, zero, suc, ◌+◌, ◌*◌, ◌^◌, ◌<◌, ◌≤◌, Bool, true, false, ◌&&◌, ◌||◌, T, List, [], ◌∷◌, ◌++◌, length, get_or, decimal, sym, refl, ap, subst, append_assoc, append-nil, arith, length-append, rules}
use Rattle.std.specs.Char.{is_ascii_alphanumeric, is_ascii_digit}
use Rattle.std.specs.Str.{all_ascii_digits}
use Rattle.std.proofs.lemmas.Str.Parse.{IsNumeralModel, numerals_by_fold}
use Rattle.std.proofs.lemmas.Fmt.{decimal_digit, decimal_nonempty, first_decimal, digits_decimal, digits_value-decimal, length-decimal-le}
use Rattle.reader.specs.Sheet.{Sheet, done, plus, minus, loop, while, then, Some, Whole, Fit, size, Within}
use Rattle.reader.specs.Symbols.{Symbol, LOOP, WHILE, DO, END, number, register, assign, unequal, plus_sign, minus_sign, semicolon, stray, strange, PlacedSymbol, placed, symbols, heads, Flaw, stray_byte, strange_word, total}
use Rattle.reader.specs.Grammar.{Spells, adds, subtracts, sequence, loops, whiles}
use Rattle.reader.specs.Text.{space, mark_assign, mark_unequal, mark_plus, mark_minus, mark_semicolon, Numeral, just_zero, some_digits, read_on, value, word_loop, word_while, word_do, word_end, word_number, word_register, a_word, AllAlnum, Stops, Reads, the_end, a_blank, a_mark, a_run}
use Rattle.reader.specs.Printed.{and_then, spelling, bytes_of, gap, text_on, text_of, printed}
use Rattle.reader.specs.Reading.{accepted}
use Rattle.reader.specs.PrintClaims.{PrintedSheetReadsBack}
use Rattle.reader.proofs.Reaches.{total_append}
use Rattle.reader.proofs.Judged.{AllFine}
use Rattle.reader.proofs.Counts.{small_number, small_register, fine_spelled, size-then, fit_first, fit_second}
use Rattle.reader.proofs.Uniquely.{then_done}
use Rattle.reader.proofs.Readings.{both_hold}
use Rattle.reader.proofs.Records.{counted}

-- the symbols of a sheet spell it
spelled_then : (p s : Sheet) (xs : List Symbol) → Spells xs s → (Some p → Spells (spelling p) p) → Spells (xs ++ and_then p (spelling p)) (then s p)
spelled_then done s xs h k = subst (λ (l : List Symbol). Spells l (then s done)) (sym (append-nil xs)) (subst (Spells xs) (sym (then_done s)) h)
spelled_then (plus i j c p) s xs h k = sequence h (k tt)
spelled_then (minus i j c p) s xs h k = sequence h (k tt)
spelled_then (loop i b p) s xs h k = sequence h (k tt)
spelled_then (while i b p) s xs h k = sequence h (k tt)

pub spelling_spells : (p : Sheet) → Whole p → Some p → Spells (spelling p) p
spelling_spells done h n = absurd n
spelling_spells (plus i j c p) h n = spelled_then p (plus i j c done) _ adds (spelling_spells p h)
spelling_spells (minus i j c p) h n = spelled_then p (minus i j c done) _ subtracts (spelling_spells p h)
spelling_spells (loop i b p) h n =
    subst (λ (l : List Symbol). Spells (LOOP ∷ register i ∷ DO ∷ l) (loop i b p)) (append_assoc (spelling b) (END ∷ []) (and_then p (spelling p)))
    (spelled_then p (loop i b done) _ (loops (spelling_spells b h.1 h.0)) (spelling_spells p h.2))
spelling_spells (while i b p) h n =
    subst (λ (l : List Symbol). Spells (WHILE ∷ register i ∷ unequal ∷ number 0 ∷ DO ∷ l) (while i b p)) (append_assoc (spelling b) (END ∷ []) (and_then p (spelling p)))
    (spelled_then p (while i b done) _ (whiles (spelling_spells b h.1 h.0)) (spelling_spells p h.2))

-- digits
own : IsNumeralModel (λ ds. all_ascii_digits ds ≡ true) (read_on 0)
own = numerals_by_fold _ (search rules) read_on (search rules)

truth : {b : Bool} → b ≡ true → T b
truth e = subst T (sym e) tt

both : (a b : Bool) → (a && b) ≡ true → T a × T b
both true b e = (tt, truth e)
both false b e = absurd (truth {b = false} e)

numeral : (n : ℕ) → n < 2 ^ 64 → Numeral (decimal n)
numeral zero h = subst Numeral (sym (decimal_digit 0 (omega arith))) just_zero
numeral (suc n) h = go (decimal (suc n)) (digits_decimal own (suc n) h) (first_decimal (suc n) (omega arith) h) (decimal_nonempty (suc n) h)
  where
    go : (ds : List ℕ) → all_ascii_digits ds ≡ true → 48 < get_or ds 0 0 → 0 < length ds → Numeral ds
    go [] a f s = absurd (omega arith)
    go (d ∷ ds) a f s = let b = both (is_ascii_digit d) (all_ascii_digits ds) a in some_digits f b.0 b.1

either : (a b c : Bool) → T a → T ((a || b) || c)
either true b c h = tt
either false b c h = absurd h

alnum_digit : (d : ℕ) → T (is_ascii_digit d) → T (is_ascii_alphanumeric d)
alnum_digit d h = either (is_ascii_digit d) _ _ h

alnum_digits : (ds : List ℕ) → T (all_ascii_digits ds) → AllAlnum ds
alnum_digits [] h = tt
alnum_digits (d ∷ ds) h = let b = both_hold (is_ascii_digit d) (all_ascii_digits ds) h in (alnum_digit d b.0, alnum_digits ds b.1)

alnum_numeral : {ds : List ℕ} → Numeral ds → AllAlnum ds
alnum_numeral just_zero = (tt, tt)
alnum_numeral (some_digits {d} {ds} f g a) = (alnum_digit d g, alnum_digits ds a)

number_read : {ds : List ℕ} {ys : List PlacedSymbol} (p c : ℕ) (r : List ℕ) → Numeral ds → value ds ≡ c → Stops r → Reads (p + length ds) r ys → Reads p (ds ++ r) (placed p (number c) ∷ ys)
number_read {ys = ys} p c r just_zero e h k = subst (λ (v : ℕ). Reads p (48 ∷ r) (placed p (number v) ∷ ys)) e (a_run [] r (tt, tt) h (a_word (word_number just_zero)) k)
number_read {ys = ys} p c r (some_digits {d} {ds} f g a) e h k =
    subst (λ (v : ℕ). Reads p (d ∷ (ds ++ r)) (placed p (number v) ∷ ys)) e (a_run ds r (alnum_digit d g, alnum_digits ds a) h (a_word (word_number (some_digits f g a))) k)

register_read : {ds : List ℕ} {ys : List PlacedSymbol} (p i : ℕ) (r : List ℕ) → Numeral ds → value ds ≡ i → Stops r → Reads (p + suc (length ds)) r ys → Reads p (120 ∷ (ds ++ r)) (placed p (register i) ∷ ys)
register_read {ds} {ys} p i r n e h k = subst (λ (v : ℕ). Reads p (120 ∷ (ds ++ r)) (placed p (register v) ∷ ys)) e (a_run ds r (tt, alnum_numeral n) h (a_word (word_register n)) k)

one : (s : Symbol) (p : ℕ) (r : List ℕ) {ys : List PlacedSymbol} → ((n : ℕ) → Flaw s n → ⊥) → Stops r → Reads (p + length (bytes_of s)) r ys → Reads p (bytes_of s ++ r) (placed p s ∷ ys)
one LOOP p r f h k = a_run _ r (tt, (tt, (tt, (tt, tt)))) h (a_word word_loop) k
one WHILE p r f h k = a_run _ r (tt, (tt, (tt, (tt, (tt, tt))))) h (a_word word_while) k
one DO p r f h k = a_run _ r (tt, (tt, tt)) h (a_word word_do) k
one END p r f h k = a_run _ r (tt, (tt, (tt, tt))) h (a_word word_end) k
one (number c) p r f h k = let small = small_number c f in number_read p c r (numeral c (omega arith)) (digits_value-decimal own c (omega arith)) h k
one (register i) p r f h k = let small = small_register i f in register_read p i r (numeral i (omega arith)) (digits_value-decimal own i (omega arith)) h k
one assign p r f h k = a_mark _ r mark_assign k
one unequal p r f h k = a_mark _ r mark_unequal k
one plus_sign p r f h k = a_mark _ r mark_plus k
one minus_sign p r f h k = a_mark _ r mark_minus k
one semicolon p r f h k = a_mark _ r mark_semicolon k
one stray p r f h k = absurd (f 2 stray_byte)
one strange p r f h k = absurd (f 3 strange_word)

moved : {p q : ℕ} {r : List ℕ} {ys : List PlacedSymbol} → p ≡ q → Reads p r ys → Reads q r ys
moved {r = r} {ys = ys} e k = subst (λ (n : ℕ). Reads n r ys) e k

-- what stands before a token
spaced : (s : Symbol) (p : ℕ) (r : List ℕ) {ys : List PlacedSymbol} → Reads (p + length (gap s)) r ys → Reads p (gap s ++ r) ys
spaced LOOP p r k = a_blank space (moved (omega arith) k)
spaced WHILE p r k = a_blank space (moved (omega arith) k)
spaced DO p r k = a_blank space (moved (omega arith) k)
spaced END p r k = a_blank space (moved (omega arith) k)
spaced (number c) p r k = a_blank space (moved (omega arith) k)
spaced (register i) p r k = a_blank space (moved (omega arith) k)
spaced assign p r k = a_blank space (moved (omega arith) k)
spaced unequal p r k = a_blank space (moved (omega arith) k)
spaced plus_sign p r k = a_blank space (moved (omega arith) k)
spaced minus_sign p r k = a_blank space (moved (omega arith) k)
spaced semicolon p r k = moved (omega arith) k
spaced stray p r k = a_blank space (moved (omega arith) k)
spaced strange p r k = a_blank space (moved (omega arith) k)

stops : (xs : List Symbol) → Stops (text_on xs)
stops [] = tt
stops (LOOP ∷ xs) = λ h. h
stops (WHILE ∷ xs) = λ h. h
stops (DO ∷ xs) = λ h. h
stops (END ∷ xs) = λ h. h
stops ((number c) ∷ xs) = λ h. h
stops ((register i) ∷ xs) = λ h. h
stops (assign ∷ xs) = λ h. h
stops (unequal ∷ xs) = λ h. h
stops (plus_sign ∷ xs) = λ h. h
stops (minus_sign ∷ xs) = λ h. h
stops (semicolon ∷ xs) = λ h. h
stops (stray ∷ xs) = λ h. h
stops (strange ∷ xs) = λ h. h

reads_on : (xs : List Symbol) (p : ℕ) → AllFine xs → (ys : List PlacedSymbol) × Reads p (text_on xs) ys × (symbols ys ≡ xs)
reads_on [] p f = ([], the_end, refl)
reads_on (s ∷ xs) p f =
    let rest = reads_on xs (p + length (gap s) + length (bytes_of s)) f.1 in
    (placed (p + length (gap s)) s ∷ rest.0, spaced s p _ (one s (p + length (gap s)) (text_on xs) f.0 (stops xs) rest.1), ap (λ (l : List Symbol). s ∷ l) rest.2)

-- any symbols in order are read back from their printed form
pub reads_back : (xs : List Symbol) → AllFine xs → (ys : List PlacedSymbol) × Reads 0 (text_of xs) ys × (symbols ys ≡ xs)
reads_back [] f = ([], the_end, refl)
reads_back (s ∷ xs) f =
    let rest = reads_on xs (0 + length (bytes_of s)) f.1 in
    (placed 0 s ∷ rest.0, one s 0 (text_on xs) f.0 (stops xs) rest.1, ap (λ (l : List Symbol). s ∷ l) rest.2)

-- how long the printed form can get
weight : Symbol → ℕ
weight s = suc (length (bytes_of s))

length-gap : (s : Symbol) → length (gap s) ≤ 1
length-gap LOOP = omega arith
length-gap WHILE = omega arith
length-gap DO = omega arith
length-gap END = omega arith
length-gap (number c) = omega arith
length-gap (register i) = omega arith
length-gap assign = omega arith
length-gap unequal = omega arith
length-gap plus_sign = omega arith
length-gap minus_sign = omega arith
length-gap semicolon = omega arith
length-gap stray = omega arith
length-gap strange = omega arith

length_on : (xs : List Symbol) → length (text_on xs) ≤ total weight xs
unfolding weight
length_on [] = omega arith
length_on (s ∷ xs) = simp length-append (omega (arith, length-gap s, length_on xs))

length_text : (xs : List Symbol) → length (text_of xs) ≤ total weight xs
unfolding weight
length_text [] = omega arith
length_text (s ∷ xs) = simp length-append (omega (arith, length_on xs))

short_number : (c : ℕ) → c ≤ 999999 → length (decimal c) ≤ 6
short_number c h = length-decimal-le 6 c (omega arith) (omega arith) (omega arith)

short_register : (i : ℕ) → i ≤ 31 → length (decimal i) ≤ 2
short_register i h = length-decimal-le 2 i (omega arith) (omega arith) (omega arith)

light : {xs : List Symbol} {p : Sheet} → Spells xs p → Fit p → total weight xs + 2 ≤ 24 * size p
unfolding weight
light (adds {i} {j} {c}) h = omega (arith, short_register i h.0, short_register j h.1, short_number c h.2)
light (subtracts {i} {j} {c}) h = omega (arith, short_register i h.0, short_register j h.1, short_number c h.2)
light (sequence {xs} {ys} {p} {q} s t) h = omega (arith, light s (fit_first p q h), light t (fit_second p q h), size-then p q, total_append weight xs (semicolon ∷ ys))
light (loops {i} {xs} s) h = omega (arith, short_register i h.0, light s h.1, total_append weight xs (END ∷ []))
light (whiles {i} {xs} s) h = omega (arith, short_register i h.0, length-decimal-le 1 0 (omega arith) (omega arith) (omega arith), light s h.1, total_append weight xs (END ∷ []))

pub printed_short : (p : Sheet) → Some p → Whole p → Within p → length (printed p) ≤ 16384
printed_short p n h w = omega (arith, length_text (spelling p), light (spelling_spells p h n) w.fit, w.few)

pub round_trip : PrintedSheetReadsBack
round_trip p n h w =
    let s = spelling_spells p h n in
    let back = reads_back (spelling p) (fine_spelled s w.fit) in
    let t = subst (λ (xs : List Symbol). Spells xs p) (sym back.2) s in
    let short = printed_short p n h w in (
      short,
      (heads back.0, (counted back.0 p t).0, λ room k. accepted (record { short = short; reads = back.1 }) (record { spells = t; within = w }) k),
    )
