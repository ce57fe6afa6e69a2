-- What is counted of the symbols that spell a sheet is what is counted of the sheet.
use Rattle.std.proofs.Common.{◌≡◌, ℕ, suc, ◌+◌, ◌<◌, ◌≤◌, List, [], ◌∷◌, ◌++◌, refl, arith}
use Rattle.reader.specs.Sheet.{Sheet, done, plus, minus, loop, while, then, size, loops, Fit}
use Rattle.reader.specs.Symbols.{Symbol, END, number, register, semicolon, Flaw, big_number, big_register, total, separating, looping}
use Rattle.reader.specs.Grammar.{Spells, adds, subtracts, sequence, loops as loops-spelt, whiles}
use Rattle.reader.proofs.Reaches.{total_append}
use Rattle.reader.proofs.Judged.{AllFine}

pub size-then : (p q : Sheet) → size (then p q) ≡ size p + size q
size-then done q = omega arith
size-then (plus i j c p) q = omega (arith, size-then p q)
size-then (minus i j c p) q = omega (arith, size-then p q)
size-then (loop i b p) q = omega (arith, size-then p q)
size-then (while i b p) q = omega (arith, size-then p q)

loops-then : (p q : Sheet) → loops (then p q) ≡ loops p + loops q
loops-then done q = omega arith
loops-then (plus i j c p) q = loops-then p q
loops-then (minus i j c p) q = loops-then p q
loops-then (loop i b p) q = omega (arith, loops-then p q)
loops-then (while i b p) q = omega (arith, loops-then p q)

pub size_spelled : {xs : List Symbol} {p : Sheet} → Spells xs p → size p ≡ suc (total separating xs)
size_spelled adds = refl
size_spelled subtracts = refl
size_spelled (sequence {xs} {ys} {p} {q} s t) = omega (arith, size_spelled s, size_spelled t, size-then p q, total_append separating xs (semicolon ∷ ys))
size_spelled (loops-spelt {xs = xs} s) = omega (arith, size_spelled s, total_append separating xs (END ∷ []))
size_spelled (whiles {xs = xs} s) = omega (arith, size_spelled s, total_append separating xs (END ∷ []))

pub loops_spelled : {xs : List Symbol} {p : Sheet} → Spells xs p → loops p ≡ total looping xs
loops_spelled adds = refl
loops_spelled subtracts = refl
loops_spelled (sequence {xs} {ys} {p} {q} s t) = omega (arith, loops_spelled s, loops_spelled t, loops-then p q, total_append looping xs (semicolon ∷ ys))
loops_spelled (loops-spelt {xs = xs} s) = omega (arith, loops_spelled s, total_append looping xs (END ∷ []))
loops_spelled (whiles {xs = xs} s) = omega (arith, loops_spelled s, total_append looping xs (END ∷ []))

fine_front : (xs ys : List Symbol) → AllFine (xs ++ ys) → AllFine xs
fine_front [] ys h = tt
fine_front (x ∷ xs) ys h = (h.0, fine_front xs ys h.1)

fine_back : (xs ys : List Symbol) → AllFine (xs ++ ys) → AllFine ys
fine_back [] ys h = h
fine_back (x ∷ xs) ys h = fine_back xs ys h.1

fine_append : (xs ys : List Symbol) → AllFine xs → AllFine ys → AllFine (xs ++ ys)
fine_append [] ys h k = k
fine_append (x ∷ xs) ys h k = (h.0, fine_append xs ys h.1 k)

pub fit_then : (p q : Sheet) → Fit p → Fit q → Fit (then p q)
fit_then done q h k = k
fit_then (plus i j c p) q h k = (h.0, h.1, h.2, fit_then p q h.3 k)
fit_then (minus i j c p) q h k = (h.0, h.1, h.2, fit_then p q h.3 k)
fit_then (loop i b p) q h k = (h.0, h.1, fit_then p q h.2 k)
fit_then (while i b p) q h k = (h.0, h.1, fit_then p q h.2 k)

pub fit_first : (p q : Sheet) → Fit (then p q) → Fit p
fit_first done q h = tt
fit_first (plus i j c p) q h = (h.0, h.1, h.2, fit_first p q h.3)
fit_first (minus i j c p) q h = (h.0, h.1, h.2, fit_first p q h.3)
fit_first (loop i b p) q h = (h.0, h.1, fit_first p q h.2)
fit_first (while i b p) q h = (h.0, h.1, fit_first p q h.2)

pub fit_second : (p q : Sheet) → Fit (then p q) → Fit q
fit_second done q h = h
fit_second (plus i j c p) q h = fit_second p q h.3
fit_second (minus i j c p) q h = fit_second p q h.3
fit_second (loop i b p) q h = fit_second p q h.2
fit_second (while i b p) q h = fit_second p q h.2

pub small_number : (c : ℕ) → ((n : ℕ) → Flaw (number c) n → ⊥) → c ≤ 999999
small_number c f = let k : 999999 < c → ⊥ = λ h. f 4 (big_number h) in omega arith

pub small_register : (i : ℕ) → ((n : ℕ) → Flaw (register i) n → ⊥) → i ≤ 31
small_register i f = let k : 31 < i → ⊥ = λ h. f 4 (big_register h) in omega arith

pub fine_number : (c : ℕ) → c ≤ 999999 → (n : ℕ) → Flaw (number c) n → ⊥
fine_number c h n (big_number k) = omega arith

pub fine_register : (i : ℕ) → i ≤ 31 → (n : ℕ) → Flaw (register i) n → ⊥
fine_register i h n (big_register k) = omega arith

pub fit_spelled : {xs : List Symbol} {p : Sheet} → Spells xs p → AllFine xs → Fit p
fit_spelled (adds {i} {j} {c}) h = (small_register i h.0, small_register j h.1.1.0, small_number c h.1.1.1.1.0, tt)
fit_spelled (subtracts {i} {j} {c}) h = (small_register i h.0, small_register j h.1.1.0, small_number c h.1.1.1.1.0, tt)
fit_spelled (sequence {xs} {ys} {p} {q} s t) h = fit_then p q (fit_spelled s (fine_front xs (semicolon ∷ ys) h)) (fit_spelled t (fine_back xs (semicolon ∷ ys) h).1)
fit_spelled (loops-spelt {i} {xs} s) h = (small_register i h.1.0, fit_spelled s (fine_front xs (END ∷ []) h.1.1.1), tt)
fit_spelled (whiles {i} {xs} s) h = (small_register i h.1.0, fit_spelled s (fine_front xs (END ∷ []) h.1.1.1.1.1), tt)

pub fine_spelled : {xs : List Symbol} {p : Sheet} → Spells xs p → Fit p → AllFine xs
fine_spelled (adds {i} {j} {c}) h = (fine_register i h.0, ((λ n f. elim f [ ]), (fine_register j h.1, ((λ n f. elim f [ ]), (fine_number c h.2, tt)))))
fine_spelled (subtracts {i} {j} {c}) h = (fine_register i h.0, ((λ n f. elim f [ ]), (fine_register j h.1, ((λ n f. elim f [ ]), (fine_number c h.2, tt)))))
fine_spelled (sequence {xs} {ys} {p} {q} s t) h = fine_append xs (semicolon ∷ ys) (fine_spelled s (fit_first p q h)) ((λ n f. elim f [ ]), fine_spelled t (fit_second p q h))
fine_spelled (loops-spelt {i} {xs} s) h = ((λ n f. elim f [ ]), (fine_register i h.0, ((λ n f. elim f [ ]), fine_append xs (END ∷ []) (fine_spelled s h.1) ((λ n f. elim f [ ]), tt))))
fine_spelled (whiles {i} {xs} s) h = ((λ n f. elim f [ ]), (fine_register i h.0, ((λ n f. elim f [ ]), (fine_number 0 (omega arith), ((λ n f. elim f [ ]), fine_append xs (END ∷ []) (fine_spelled s h.1) ((λ n f. elim f [ ]), tt))))))
