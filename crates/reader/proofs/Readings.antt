-- A text reads in one way.
use Rattle.std.proofs.Common.{◌≡◌, ℕ, suc, ◌+◌, ◌≤◌, Bool, true, false, cond, ◌&&◌, T, eqb, leb, List, [], ◌∷◌, ◌++◌, length, sym, refl, ap, ◌∙◌, subst, ap₂, arith, leb→le}
use mathlib.Core.List.{append_cancel_left}
use Rattle.std.specs.Char.{is_ascii_alphanumeric, is_ascii_digit}
use Rattle.std.proofs.lemmas.Bool.Decides.{nat_tests}
use Rattle.reader.specs.Symbols.{Symbol, LOOP, WHILE, DO, END, number, register, assign, unequal, plus_sign, minus_sign, semicolon, strange, PlacedSymbol, placed}
use Rattle.reader.specs.Text.{Blank, space, line_feed, Mark, mark_assign, mark_unequal, mark_plus, mark_minus, mark_semicolon, just_zero, some_digits, value, Word, word_loop, word_while, word_do, word_end, word_number, word_register, Means, a_word, no_word, AllAlnum, Stops, Reads, the_end, a_blank, a_mark, a_run, a_stray}
use Rattle.reader.specs.Printed.{bytes_of}

pub both_hold : (a b : Bool) → T (a && b) → T a × T b
both_hold true b h = (tt, h)
both_hold false b h = absurd h

-- a mark is told by its first byte
abbrev mark_by : ℕ → Symbol
mark_by b = cond (eqb b 58) assign (cond (eqb b 33) unequal (cond (eqb b 43) plus_sign (cond (eqb b 45) minus_sign semicolon)))

abbrev first : List ℕ → ℕ
first [] = 0
first (b ∷ bs) = b

mark_symbol : {m : List ℕ} {s : Symbol} (r : List ℕ) → Mark m s → s ≡ mark_by (first (m ++ r))
mark_symbol r mark_assign = refl
mark_symbol r mark_unequal = refl
mark_symbol r mark_plus = refl
mark_symbol r mark_minus = refl
mark_symbol r mark_semicolon = refl

mark_bytes : {m : List ℕ} {s : Symbol} → Mark m s → m ≡ bytes_of s
mark_bytes mark_assign = refl
mark_bytes mark_unequal = refl
mark_bytes mark_plus = refl
mark_bytes mark_minus = refl
mark_bytes mark_semicolon = refl

-- what a first byte is: no mark begins with a blank, a letter or a digit
mark_no_blank : {m : List ℕ} {s : Symbol} (r : List ℕ) → Mark m s → Blank (first (m ++ r)) → ⊥
mark_no_blank r mark_assign h = elim h [ ]
mark_no_blank r mark_unequal h = elim h [ ]
mark_no_blank r mark_plus h = elim h [ ]
mark_no_blank r mark_minus h = elim h [ ]
mark_no_blank r mark_semicolon h = elim h [ ]

mark_no_run : {m : List ℕ} {s : Symbol} (r : List ℕ) → Mark m s → T (is_ascii_alphanumeric (first (m ++ r))) → ⊥
mark_no_run r mark_assign h = h
mark_no_run r mark_unequal h = h
mark_no_run r mark_plus h = h
mark_no_run r mark_minus h = h
mark_no_run r mark_semicolon h = h

mark_some : {m : List ℕ} {s : Symbol} (r : List ℕ) → Mark m s → m ++ r ≡ [] → ⊥
mark_some r mark_assign e = let z : ◌≡◌ {A = ℕ} 0 1 = cc in omega arith
mark_some r mark_unequal e = let z : ◌≡◌ {A = ℕ} 0 1 = cc in omega arith
mark_some r mark_plus e = let z : ◌≡◌ {A = ℕ} 0 1 = cc in omega arith
mark_some r mark_minus e = let z : ◌≡◌ {A = ℕ} 0 1 = cc in omega arith
mark_some r mark_semicolon e = let z : ◌≡◌ {A = ℕ} 0 1 = cc in omega arith

blank_no_run : {b : ℕ} → Blank b → T (is_ascii_alphanumeric b) → ⊥
blank_no_run space h = h
blank_no_run line_feed h = h

-- a word has one meaning, told by its first byte too
abbrev word_by : ℕ → List ℕ → Symbol
word_by b w = cond (eqb b 76) LOOP (cond (eqb b 87) WHILE (cond (eqb b 68) DO (cond (eqb b 69) END (cond (eqb b 120) (register (value w)) (number (value (b ∷ w)))))))

abbrev word_of : List ℕ → Symbol
word_of [] = strange
word_of (b ∷ w) = word_by b w

digit_below : (d : ℕ) → T (is_ascii_digit d) → d ≤ 57
digit_below d h = leb→le d 57 (both_hold (leb 48 d) (leb d 57) h).1

word_number_by : (d : ℕ) (ds : List ℕ) → d ≤ 57 → number (value (d ∷ ds)) ≡ word_by d ds
word_number_by d ds h =
    let a : eqb d 76 ≡ false = grind (arith, nat_tests) in
    let b : eqb d 87 ≡ false = grind (arith, nat_tests) in
    let c : eqb d 68 ≡ false = grind (arith, nat_tests) in
    let e : eqb d 69 ≡ false = grind (arith, nat_tests) in
    let f : eqb d 120 ≡ false = grind (arith, nat_tests) in
    rw (a, b, c, e, f)

word_is : {w : List ℕ} {s : Symbol} → Word w s → s ≡ word_of w
word_is word_loop = refl
word_is word_while = refl
word_is word_do = refl
word_is word_end = refl
word_is (word_number just_zero) = refl
word_is (word_number (some_digits {d} {ds} f g a)) = word_number_by d ds (digit_below d g)
word_is (word_register n) = refl

means_one : {w : List ℕ} {s t : Symbol} → Means w s → Means w t → s ≡ t
means_one (a_word u) (a_word v) = word_is u ∙ sym (word_is v)
means_one (a_word {s} u) (no_word f) = absurd (f s u)
means_one (no_word f) (a_word {s} u) = absurd (f s u)
means_one (no_word f) (no_word g) = refl

-- the longest run is one
same_run : (w v r s : List ℕ) → AllAlnum w → Stops r → AllAlnum v → Stops s → w ++ r ≡ v ++ s → (w ≡ v) × (r ≡ s)
same_run [] [] r s a h b k e = (refl, e)
same_run [] (y ∷ v) [] s a h b k e = absurd (let z : ◌≡◌ {A = ℕ} 0 1 = cc in omega arith)
same_run [] (y ∷ v) (x ∷ r) s a h b k e = absurd (h (subst (λ (c : ℕ). T (is_ascii_alphanumeric c)) (sym (ap first e)) b.0))
same_run (x ∷ w) [] r [] a h b k e = absurd (let z : ◌≡◌ {A = ℕ} 0 1 = cc in omega arith)
same_run (x ∷ w) [] r (y ∷ s) a h b k e = absurd (k (subst (λ (c : ℕ). T (is_ascii_alphanumeric c)) (ap first e) a.0))
same_run (x ∷ w) (y ∷ v) r s a h b k e =
    let t = same_run w v r s a.1 h b.1 k (cc e) in
    (ap₂ (λ (c : ℕ) (l : List ℕ). c ∷ l) (ap first e) t.0, t.1)

cons_nil : {b : ℕ} {bs : List ℕ} → b ∷ bs ≡ [] → ⊥
cons_nil e = let z : ◌≡◌ {A = ℕ} 0 1 = cc in omega arith

rest_same : {a b : ℕ} {ks bs : List ℕ} → a ∷ ks ≡ b ∷ bs → ks ≡ bs
rest_same e = cc

placed_same : {p q : ℕ} {s t : Symbol} {ys zs : List PlacedSymbol} → p ≡ q → s ≡ t → ys ≡ zs → placed p s ∷ ys ≡ placed q t ∷ zs
placed_same a b c = λ i. placed (a i) (b i) ∷ c i

-- the same places and bytes have the same symbols
pub same_reading : {p q : ℕ} {l k : List ℕ} {ys zs : List PlacedSymbol} → Reads p l ys → Reads q k zs → p ≡ q → l ≡ k → ys ≡ zs
same_reading the_end the_end d e = refl
same_reading the_end (a_blank h r) d e = absurd (cons_nil (sym e))
same_reading the_end (a_mark m bs h r) d e = absurd (mark_some bs h (sym e))
same_reading the_end (a_run w bs a s h r) d e = absurd (cons_nil (sym e))
same_reading the_end (a_stray f g h r) d e = absurd (cons_nil (sym e))
same_reading (a_blank h r) the_end d e = absurd (cons_nil e)
same_reading (a_blank h r) (a_blank h' r') d e = same_reading r r' (ap suc d) (rest_same e)
same_reading (a_blank h r) (a_mark m bs h' r') d e = absurd (mark_no_blank bs h' (subst Blank (ap first e) h))
same_reading (a_blank h r) (a_run w bs a s h' r') d e = absurd (blank_no_run (subst Blank (ap first e) h) a.0)
same_reading (a_blank h r) (a_stray f g h' r') d e = absurd (f (subst Blank (ap first e) h))
same_reading (a_mark m bs h r) the_end d e = absurd (mark_some bs h e)
same_reading (a_mark m bs h r) (a_blank h' r') d e = absurd (mark_no_blank bs h (subst Blank (sym (ap first e)) h'))
same_reading (a_mark {s = s} m bs h r) (a_mark {s = s'} m' bs' h' r') d e =
    let t : s ≡ s' = mark_symbol bs h ∙ ap (λ (l : List ℕ). mark_by (first l)) e ∙ sym (mark_symbol bs' h') in
    let same : m ≡ m' = mark_bytes h ∙ ap bytes_of t ∙ sym (mark_bytes h') in
    placed_same d t (same_reading r r' (ap₂ (λ (a : ℕ) (l : List ℕ). a + length l) d same) (append_cancel_left m bs bs' (e ∙ ap (λ (l : List ℕ). l ++ bs') (sym same))))
same_reading (a_mark m bs h r) (a_run w bs' a s h' r') d e = absurd (mark_no_run bs h (subst (λ (c : ℕ). T (is_ascii_alphanumeric c)) (sym (ap first e)) a.0))
same_reading (a_mark {s = s} m bs h r) (a_stray f g h' r') d e = absurd (h' m bs s h (sym e))
same_reading (a_run w bs a s h r) the_end d e = absurd (cons_nil e)
same_reading (a_run w bs a s h r) (a_blank h' r') d e = absurd (blank_no_run (subst Blank (sym (ap first e)) h') a.0)
same_reading (a_run w bs a s h r) (a_mark m bs' h' r') d e = absurd (mark_no_run bs' h' (subst (λ (c : ℕ). T (is_ascii_alphanumeric c)) (ap first e) a.0))
same_reading (a_run {b = b} {s = x} w bs a s h r) (a_run {b = b'} {s = x'} w' bs' a' s' h' r') d e =
    let t = same_run (b ∷ w) (b' ∷ w') bs bs' a s a' s' e in
    placed_same d (means_one (subst (λ (l : List ℕ). Means l x) t.0 h) h') (same_reading r r' (ap₂ (λ (c : ℕ) (l : List ℕ). c + length l) d t.0) t.1)
same_reading (a_run w bs a s h r) (a_stray f g h' r') d e = absurd (g (subst (λ (c : ℕ). T (is_ascii_alphanumeric c)) (ap first e) a.0))
same_reading (a_stray f g h r) the_end d e = absurd (cons_nil e)
same_reading (a_stray f g h r) (a_blank h' r') d e = absurd (f (subst Blank (sym (ap first e)) h'))
same_reading (a_stray f g h r) (a_mark {s = s} m bs h' r') d e = absurd (h m bs s h' e)
same_reading (a_stray f g h r) (a_run w bs a s h' r') d e = absurd (g (subst (λ (c : ℕ). T (is_ascii_alphanumeric c)) (sym (ap first e)) a.0))
same_reading (a_stray f g h r) (a_stray f' g' h' r') d e = placed_same d refl (same_reading r r' (ap suc d) (rest_same e))
