-- What the records tell.
use Rattle.std.proofs.Common.{◌≡◌, ℕ, zero, suc, ◌+◌, ◌≤◌, List, [], ◌∷◌, ◌++◌, length, sym, refl, ap, ◌∙◌, arith, length-append}
use Rattle.reader.specs.Sheet.{Sheet, done, plus, minus, loop, while, size}
use Rattle.reader.specs.Symbols.{Symbol, LOOP, WHILE, DO, END, number, register, assign, unequal, plus_sign, minus_sign, semicolon, stray, strange, PlacedSymbol, symbols, separating, total, heads_after}
use Rattle.reader.specs.Grammar.{Spells, adds, subtracts, sequence, loops, whiles}
use Rattle.reader.specs.declared.types.Statement.{Statement}
use Rattle.reader.specs.Records.{kind_number, records_from}
use Rattle.reader.specs.Claims.{RecordsTellSheet, RecordForEachStatement}
use Rattle.reader.proofs.Reaches.{starting}
use Rattle.reader.proofs.Counts.{size_spelled}

pub length-records : (n : ℕ) (p : Sheet) → length (records_from n p) ≡ size p
length-records n done = refl
length-records n (plus i j c p) = ap suc (length-records (suc n) p)
length-records n (minus i j c p) = ap suc (length-records (suc n) p)
length-records n (loop i b p) = simp length-append (omega (arith, length-records (suc n) b, length-records (suc n + size b) p))
length-records n (while i b p) = simp length-append (omega (arith, length-records (suc n) b, length-records (suc n + size b) p))

-- lists of the same length in front of others
fronts : (xs ys us vs : List Statement) → length xs ≡ length ys → xs ++ us ≡ ys ++ vs → (xs ≡ ys) × (us ≡ vs)
fronts [] [] us vs l e = (refl, e)
fronts [] (y ∷ ys) us vs l e = absurd (omega arith)
fronts (x ∷ xs) [] us vs l e = absurd (omega arith)
fronts (x ∷ xs) (y ∷ ys) us vs l e =
    let t = fronts xs ys us vs (omega arith) (cc e) in
    let h : x ≡ y = cc e in
    (cc (t.0, h), t.1)

abbrev kind_of : List Statement → ℕ
kind_of [] = 0
kind_of (r ∷ rs) = kind_number r.kind

abbrev get : (Statement → ℕ) → List Statement → ℕ
get f [] = 0
get f (r ∷ rs) = f r

abbrev others : List Statement → List Statement
others [] = []
others (r ∷ rs) = rs

bodies : (n : ℕ) (b d p q : Sheet) → size b ≡ size d → records_from (suc n) b ++ records_from (suc n + size b) p ≡ records_from (suc n) d ++ records_from (suc n + size d) q
    → (records_from (suc n) b ≡ records_from (suc n) d) × (records_from (suc n + size b) p ≡ records_from (suc n + size b) q)
bodies n b d p q s e =
    let t = fronts (records_from (suc n) b) (records_from (suc n) d) (records_from (suc n + size b) p) (records_from (suc n + size d) q) (length-records (suc n) b ∙ s ∙ sym (length-records (suc n) d)) e in
    (t.0, t.1 ∙ ap (λ (k : ℕ). records_from (suc n + k) q) (sym s))

same_records : (n : ℕ) (p q : Sheet) → records_from n p ≡ records_from n q → p ≡ q
same_records n done done e = refl
same_records n done (plus i' j' c' q) e = absurd (omega (arith, ap kind_of e))
same_records n done (minus i' j' c' q) e = absurd (omega (arith, ap kind_of e))
same_records n done (loop i' b' q) e = absurd (omega (arith, ap kind_of e))
same_records n done (while i' b' q) e = absurd (omega (arith, ap kind_of e))
same_records n (plus i j c p) done e = absurd (omega (arith, ap kind_of e))
same_records n (plus i j c p) (plus i' j' c' q) e =
    let t = same_records (suc n) p q (ap others e) in
    λ x. plus (ap (get (λ r. r.target)) e x) (ap (get (λ r. r.source)) e x) (ap (get (λ r. r.constant)) e x) (t x)
same_records n (plus i j c p) (minus i' j' c' q) e = absurd (omega (arith, ap kind_of e))
same_records n (plus i j c p) (loop i' b' q) e = absurd (omega (arith, ap kind_of e))
same_records n (plus i j c p) (while i' b' q) e = absurd (omega (arith, ap kind_of e))
same_records n (minus i j c p) done e = absurd (omega (arith, ap kind_of e))
same_records n (minus i j c p) (plus i' j' c' q) e = absurd (omega (arith, ap kind_of e))
same_records n (minus i j c p) (minus i' j' c' q) e =
    let t = same_records (suc n) p q (ap others e) in
    λ x. minus (ap (get (λ r. r.target)) e x) (ap (get (λ r. r.source)) e x) (ap (get (λ r. r.constant)) e x) (t x)
same_records n (minus i j c p) (loop i' b' q) e = absurd (omega (arith, ap kind_of e))
same_records n (minus i j c p) (while i' b' q) e = absurd (omega (arith, ap kind_of e))
same_records n (loop i b p) done e = absurd (omega (arith, ap kind_of e))
same_records n (loop i b p) (plus i' j' c' q) e = absurd (omega (arith, ap kind_of e))
same_records n (loop i b p) (minus i' j' c' q) e = absurd (omega (arith, ap kind_of e))
same_records n (loop i b p) (loop i' b' q) e =
    let s : size b ≡ size b' = omega (arith, ap (get (λ r. r.end)) e) in
    let t = bodies n b b' p q s (ap others e) in
    let u = same_records (suc n) b b' t.0 in
    let v = same_records (suc n + size b) p q t.1 in
    λ x. loop (ap (get (λ r. r.source)) e x) (u x) (v x)
same_records n (loop i b p) (while i' b' q) e = absurd (omega (arith, ap kind_of e))
same_records n (while i b p) done e = absurd (omega (arith, ap kind_of e))
same_records n (while i b p) (plus i' j' c' q) e = absurd (omega (arith, ap kind_of e))
same_records n (while i b p) (minus i' j' c' q) e = absurd (omega (arith, ap kind_of e))
same_records n (while i b p) (loop i' b' q) e = absurd (omega (arith, ap kind_of e))
same_records n (while i b p) (while i' b' q) e =
    let s : size b ≡ size b' = omega (arith, ap (get (λ r. r.end)) e) in
    let t = bodies n b b' p q s (ap others e) in
    let u = same_records (suc n) b b' t.0 in
    let v = same_records (suc n + size b) p q t.1 in
    λ x. while (ap (get (λ r. r.source)) e x) (u x) (v x)

pub recorded : RecordsTellSheet
recorded p q e = same_records 0 p q e

-- one place for each statement
at_most_one : (s : Symbol) → separating s ≤ 1
at_most_one LOOP = omega arith
at_most_one WHILE = omega arith
at_most_one DO = omega arith
at_most_one END = omega arith
at_most_one (number c) = omega arith
at_most_one (register i) = omega arith
at_most_one assign = omega arith
at_most_one unequal = omega arith
at_most_one plus_sign = omega arith
at_most_one minus_sign = omega arith
at_most_one semicolon = omega arith
at_most_one stray = omega arith
at_most_one strange = omega arith

count-heads : (b : ℕ) (ys : List PlacedSymbol) → b ≤ 1 → length (heads_after b ys) + starting b (symbols ys) ≡ b + total separating (symbols ys)
unfolding starting
count-heads b [] h = omega arith
count-heads zero (y ∷ ys) h = omega (arith, count-heads (separating y.item) ys (at_most_one y.item))
count-heads (suc b) (y ∷ ys) h = omega (arith, count-heads (separating y.item) ys (at_most_one y.item))

starting_append : (b : ℕ) (xs ys : List Symbol) → starting b (xs ++ ys) ≡ starting (starting b xs) ys
unfolding starting
starting_append b [] ys = refl
starting_append b (x ∷ xs) ys = starting_append (separating x) xs ys

-- no statement begins behind a whole sheet
pub starting_spelled : {xs : List Symbol} {p : Sheet} (b : ℕ) → Spells xs p → starting b xs ≡ 0
unfolding starting
starting_spelled b adds = refl
starting_spelled b subtracts = refl
starting_spelled b (sequence {xs} {ys} s t) = starting_append b xs (semicolon ∷ ys) ∙ starting_spelled 1 t
starting_spelled b (loops {xs = xs} s) = starting_append 1 xs (END ∷ [])
starting_spelled b (whiles {xs = xs} s) = starting_append 1 xs (END ∷ [])

pub counted : RecordForEachStatement
counted ys p s = (omega (arith, count-heads 1 ys (omega arith), starting_spelled 1 s, size_spelled s), length-records 0 p)
