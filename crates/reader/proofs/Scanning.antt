-- Every text can be read as symbols.
use Rattle.std.proofs.Common.{◌≡◌, ℕ, zero, suc, ◌+◌, ◌<◌, ◌≤◌, Bool, true, false, T, List, [], ◌∷◌, ◌++◌, length, codes, sym, refl, ap, subst, ap₂, arith, length-append}
use native.Mathlib.Decide.{ℕ_discrete, dec_lt}
use Rattle.std.specs.Char.{is_ascii_alphanumeric, is_ascii_digit}
use Rattle.std.specs.Str.{all_ascii_digits}
use Rattle.reader.specs.Symbols.{Symbol, LOOP, WHILE, DO, END, number, register, assign, unequal, plus_sign, minus_sign, semicolon, strange, stray, PlacedSymbol, placed}
use Rattle.reader.specs.Text.{Blank, space, line_feed, Mark, mark_assign, mark_unequal, mark_plus, mark_minus, mark_semicolon, Numeral, just_zero, some_digits, value, Word, word_loop, word_while, word_do, word_end, word_number, word_register, Means, a_word, no_word, AllAlnum, Stops, Reads, the_end, a_blank, a_mark, a_run, a_stray}

unfoldable pub holds? : (b : Bool) → Dec (T b)
holds? true = yes tt
holds? false = no (λ h. h)

-- blanks
unfoldable pub not_blank : {b : ℕ} → (b ≡ 32 → ⊥) → (b ≡ 10 → ⊥) → Blank b → ⊥
not_blank f g space = f refl
not_blank f g line_feed = g refl

unfoldable pub blank_by : (b : ℕ) → Dec (b ≡ 32) → Dec (b ≡ 10) → Dec (Blank b)
blank_by b (yes e) x = yes (subst Blank (sym e) space)
blank_by b (no f) (yes e) = yes (subst Blank (sym e) line_feed)
blank_by b (no f) (no g) = no (not_blank f g)

-- marks
abbrev pub Front : List ℕ → List ℕ → Type 0
Front m l = (rest : List ℕ) × (l ≡ m ++ rest)

unfoldable pub front? : (m l : List ℕ) → Dec (Front m l)
front? [] l = yes (l, refl)
front? (x ∷ m) [] = no (λ h. let z : ◌≡◌ {A = ℕ} 0 1 = cc h.1 in omega arith)
front? (x ∷ m) (y ∷ l) = go (ℕ_discrete y x) (front? m l)
  where
    go : Dec (y ≡ x) → Dec (Front m l) → Dec (Front (x ∷ m) (y ∷ l))
    go (yes e) (yes h) = yes (h.0, cc h.1)
    go (yes e) (no f) = no (λ h. f (h.0, cc h.1))
    go (no f) d = no (λ h. f (cc h.1))

abbrev pub MarkIn : List ℕ → Type 0
MarkIn l = (m : List ℕ) × (rest : List ℕ) × (s : Symbol) × Mark m s × (l ≡ m ++ rest)

unfoldable pub mark_from : (l : List ℕ) → Dec (Front (codes ":=") l) → Dec (Front (codes "!=") l) → Dec (Front (codes "+") l) → Dec (Front (codes "-") l) → Dec (Front (codes ";") l) → Dec (MarkIn l)
mark_from l (yes h) b c d e = yes (codes ":=", h.0, assign, mark_assign, h.1)
mark_from l (no f) (yes h) c d e = yes (codes "!=", h.0, unequal, mark_unequal, h.1)
mark_from l (no f) (no g) (yes h) d e = yes (codes "+", h.0, plus_sign, mark_plus, h.1)
mark_from l (no f) (no g) (no i) (yes h) e = yes (codes "-", h.0, minus_sign, mark_minus, h.1)
mark_from l (no f) (no g) (no i) (no j) (yes h) = yes (codes ";", h.0, semicolon, mark_semicolon, h.1)
mark_from l (no f) (no g) (no i) (no j) (no k) = no (λ h. none h.1 h.3 h.4)
  where
    none : {m : List ℕ} {s : Symbol} (rest : List ℕ) → Mark m s → l ≡ m ++ rest → ⊥
    none rest mark_assign e = f (rest, e)
    none rest mark_unequal e = g (rest, e)
    none rest mark_plus e = i (rest, e)
    none rest mark_minus e = j (rest, e)
    none rest mark_semicolon e = k (rest, e)

unfoldable pub mark? : (l : List ℕ) → Dec (MarkIn l)
mark? l = mark_from l (front? (codes ":=") l) (front? (codes "!=") l) (front? (codes "+") l) (front? (codes "-") l) (front? (codes ";") l)

-- numbers and words
unfoldable pub numeral_by : (d : ℕ) (ds : List ℕ) → Dec (d ∷ ds ≡ 48 ∷ []) → Dec (48 < d) → Dec (T (is_ascii_digit d)) → Dec (T (all_ascii_digits ds)) → Dec (Numeral (d ∷ ds))
numeral_by d ds (yes e) b c h = yes (subst Numeral (sym e) just_zero)
numeral_by d ds (no f) (yes b) (yes c) (yes h) = yes (some_digits b c h)
numeral_by d ds (no f) (no g) c h = no (none f g)
  where
    none : {d : ℕ} {ds : List ℕ} → (d ∷ ds ≡ 48 ∷ [] → ⊥) → (48 < d → ⊥) → Numeral (d ∷ ds) → ⊥
    none f g just_zero = f refl
    none f g (some_digits b c h) = g b
numeral_by d ds (no f) (yes b) (no g) h = no (none f g)
  where
    none : {d : ℕ} {ds : List ℕ} → (d ∷ ds ≡ 48 ∷ [] → ⊥) → (T (is_ascii_digit d) → ⊥) → Numeral (d ∷ ds) → ⊥
    none f g just_zero = f refl
    none f g (some_digits b c h) = g c
numeral_by d ds (no f) (yes b) (yes c) (no g) = no (none f g)
  where
    none : {d : ℕ} {ds : List ℕ} → (d ∷ ds ≡ 48 ∷ [] → ⊥) → (T (all_ascii_digits ds) → ⊥) → Numeral (d ∷ ds) → ⊥
    none f g just_zero = f refl
    none f g (some_digits b c h) = g h

unfoldable pub same? : (l k : List ℕ) → Dec (l ≡ k)
same? [] [] = yes refl
same? [] (y ∷ k) = no (λ e. let z : ◌≡◌ {A = ℕ} 0 1 = cc in omega arith)
same? (x ∷ l) [] = no (λ e. let z : ◌≡◌ {A = ℕ} 0 1 = cc in omega arith)
same? (x ∷ l) (y ∷ k) = go (ℕ_discrete x y) (same? l k)
  where
    go : Dec (x ≡ y) → Dec (l ≡ k) → Dec (x ∷ l ≡ y ∷ k)
    go (yes e) (yes f) = yes (ap₂ (λ (a : ℕ) (b : List ℕ). a ∷ b) e f)
    go (yes e) (no f) = no (λ h. f (cc h))
    go (no f) d = no (λ h. f (cc h))

unfoldable pub numeral? : (ds : List ℕ) → Dec (Numeral ds)
numeral? [] = no (λ h. elim h [ ])
numeral? (d ∷ ds) = numeral_by d ds (same? (d ∷ ds) (48 ∷ [])) (dec_lt 48 d) (holds? (is_ascii_digit d)) (holds? (all_ascii_digits ds))

abbrev pub Register : List ℕ → Type 0
Register w = (ds : List ℕ) × (w ≡ 120 ∷ ds) × Numeral ds

unfoldable pub register_by : (b : ℕ) (ds : List ℕ) → Dec (b ≡ 120) → Dec (Numeral ds) → Dec (Register (b ∷ ds))
register_by b ds (yes e) (yes n) = yes (ds, ap (λ (c : ℕ). c ∷ ds) e, n)
register_by b ds (yes e) (no f) = no (λ h. let same : h.0 ≡ ds = cc h.1 in f (subst Numeral same h.2))
register_by b ds (no f) n = no (λ h. f (cc h.1))

unfoldable pub register? : (w : List ℕ) → Dec (Register w)
register? [] = no (λ h. let z : ◌≡◌ {A = ℕ} 0 1 = cc h.1 in omega arith)
register? (b ∷ ds) = register_by b ds (ℕ_discrete b 120) (numeral? ds)

pub is_no_word : {w : List ℕ} {s : Symbol} → (w ≡ codes "LOOP" → ⊥) → (w ≡ codes "WHILE" → ⊥) → (w ≡ codes "DO" → ⊥) → (w ≡ codes "END" → ⊥) → (Numeral w → ⊥) → (Register w → ⊥) → Word w s → ⊥
is_no_word f g h i j k word_loop = f refl
is_no_word f g h i j k word_while = g refl
is_no_word f g h i j k word_do = h refl
is_no_word f g h i j k word_end = i refl
is_no_word f g h i j k (word_number n) = j n
is_no_word f g h i j k (word_register {ds} n) = k (ds, refl, n)

unfoldable pub meaning_by : (w : List ℕ) → Dec (w ≡ codes "LOOP") → Dec (w ≡ codes "WHILE") → Dec (w ≡ codes "DO") → Dec (w ≡ codes "END") → Dec (Numeral w) → Dec (Register w) → (s : Symbol) × Means w s
meaning_by w (yes e) b c d n r = (LOOP, a_word (subst (λ (l : List ℕ). Word l LOOP) (sym e) word_loop))
meaning_by w (no f) (yes e) c d n r = (WHILE, a_word (subst (λ (l : List ℕ). Word l WHILE) (sym e) word_while))
meaning_by w (no f) (no g) (yes e) d n r = (DO, a_word (subst (λ (l : List ℕ). Word l DO) (sym e) word_do))
meaning_by w (no f) (no g) (no h) (yes e) n r = (END, a_word (subst (λ (l : List ℕ). Word l END) (sym e) word_end))
meaning_by w (no f) (no g) (no h) (no i) (yes n) r = (number (value w), a_word (word_number n))
meaning_by w (no f) (no g) (no h) (no i) (no j) (yes r) = (register (value r.0), a_word (subst (λ (l : List ℕ). Word l (register (value r.0))) (sym r.1) (word_register r.2)))
meaning_by w (no f) (no g) (no h) (no i) (no j) (no k) = (strange, no_word (λ s. is_no_word f g h i j k))

unfoldable pub meaning : (w : List ℕ) → (s : Symbol) × Means w s
meaning w = meaning_by w (same? w (codes "LOOP")) (same? w (codes "WHILE")) (same? w (codes "DO")) (same? w (codes "END")) (numeral? w) (register? w)

-- the longest run
abbrev pub Split : List ℕ → Type 0
Split bs = (w : List ℕ) × (rest : List ℕ) × (bs ≡ w ++ rest) × AllAlnum w × Stops rest

unfoldable pub split_by : (b : ℕ) (bs : List ℕ) → Dec (T (is_ascii_alphanumeric b)) → Split bs → Split (b ∷ bs)
split_by b bs (yes h) s = (b ∷ s.0, s.1, ap (λ (l : List ℕ). b ∷ l) s.2, (h, s.3), s.4)
split_by b bs (no f) s = ([], b ∷ bs, refl, tt, f)

unfoldable pub split : (bs : List ℕ) → Split bs
split [] = ([], [], refl, tt, tt)
split (b ∷ bs) = split_by b bs (holds? (is_ascii_alphanumeric b)) (split bs)

-- symbol by symbol
pub some_mark : {m : List ℕ} {s : Symbol} → Mark m s → 0 < length m
some_mark mark_assign = omega arith
some_mark mark_unequal = omega arith
some_mark mark_plus = omega arith
some_mark mark_minus = omega arith
some_mark mark_semicolon = omega arith

module _ (f p b : ℕ) (bs : List ℕ) (h : length bs ≤ f) (on : (q : ℕ) (cs : List ℕ) → length cs ≤ f → (ys : List PlacedSymbol) × Reads q cs ys) where
  unfoldable pub scanned_by : Dec (Blank b) → Dec (T (is_ascii_alphanumeric b)) → Dec (MarkIn (b ∷ bs)) → (ys : List PlacedSymbol) × Reads p (b ∷ bs) ys
  scanned_by (yes k) a m = let r = on (suc p) bs h in (r.0, a_blank k r.1)
  scanned_by (no n) (yes a) m =
      let s = split bs in
      let mean = meaning (b ∷ s.0) in
      let r = on (p + suc (length s.0)) s.1 (omega (arith, ap length s.2, length-append s.0 s.1)) in
      (placed p mean.0 ∷ r.0, subst (λ (l : List ℕ). Reads p (b ∷ l) (placed p mean.0 ∷ r.0)) (sym s.2) (a_run s.0 s.1 (a, s.3) s.4 mean.1 r.1))
  scanned_by (no n) (no a) (yes m) =
      let r = on (p + length m.0) m.1 (omega (arith, ap length m.4, length-append m.0 m.1, some_mark m.3)) in
      (placed p m.2 ∷ r.0, subst (λ (l : List ℕ). Reads p l (placed p m.2 ∷ r.0)) (sym m.4) (a_mark m.0 m.1 m.3 r.1))
  scanned_by (no n) (no a) (no m) = let r = on (suc p) bs h in (placed p stray ∷ r.0, a_stray n a (λ k rest s mk e. m (k, rest, s, mk, e)) r.1)

unfoldable pub scanned : (f p : ℕ) (bs : List ℕ) → length bs ≤ f → (ys : List PlacedSymbol) × Reads p bs ys
scanned f p [] h = ([], the_end)
scanned zero p (b ∷ bs) h = absurd (omega arith)
scanned (suc f) p (b ∷ bs) h =
    scanned_by f p b bs (omega arith) (λ q cs k. scanned f q cs k) (blank_by b (ℕ_discrete b 32) (ℕ_discrete b 10)) (holds? (is_ascii_alphanumeric b)) (mark? (b ∷ bs))
