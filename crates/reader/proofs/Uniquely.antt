-- Symbols spell at most one sheet: read from the right, they build it up.
use Rattle.std.proofs.Common.{◌≡◌, ℕ, zero, suc, List, [], ◌∷◌, ◌++◌, sym, refl, ap, ◌∙◌, append_assoc, append-nil}
use Rattle.reader.specs.Sheet.{Sheet, done, plus, minus, loop, while, then}
use Rattle.reader.specs.Symbols.{Symbol, LOOP, WHILE, DO, END, number, register, assign, unequal, plus_sign, minus_sign, semicolon, stray, strange}
use Rattle.reader.specs.Grammar.{Spells, adds, subtracts, sequence, loops, whiles}
use Rattle.reader.specs.Claims.{SheetIsUnique}

-- the numbers and registers seen of the statement at hand, and the sheets behind it, the innermost first
data Built : Type 0 where
  built : List ℕ → List Sheet → Built

push : ℕ → Built → Built
push v (built vs st) = built (v ∷ vs) st

-- xi := xj + c or xi := xj - c
setting : ℕ → ℕ → ℕ → ℕ → List Sheet → Built
setting i j g c [] = built [] []
setting i j zero c (p ∷ st) = built [] (plus i j c p ∷ st)
setting i j (suc g) c (p ∷ st) = built [] (minus i j c p ∷ st)

naming : ℕ → Built → Built
naming i (built [] st) = built (i ∷ []) st
naming i (built (a ∷ []) st) = built (i ∷ a ∷ []) st
naming i (built (a ∷ b ∷ []) st) = built (i ∷ a ∷ b ∷ []) st
naming i (built (j ∷ g ∷ c ∷ vs) st) = setting i j g c st

wrapping : (ℕ → Sheet → Sheet → Sheet) → Built → Built
wrapping f (built [] st) = built [] st
wrapping f (built (i ∷ vs) []) = built [] []
wrapping f (built (i ∷ vs) (b ∷ [])) = built [] []
wrapping f (built (i ∷ vs) (b ∷ p ∷ st)) = built [] (f i b p ∷ st)

closing_up : Built → Built
closing_up (built vs st) = built [] (done ∷ st)

taking : Symbol → Built → Built
taking LOOP b = wrapping loop b
taking WHILE b = wrapping while b
taking DO b = b
taking END b = closing_up b
taking (number c) b = push c b
taking (register i) b = naming i b
taking assign b = b
taking unequal b = b
taking plus_sign b = push 0 b
taking minus_sign b = push 1 b
taking semicolon b = b
taking stray b = b
taking strange b = b

build : List Symbol → Built
build [] = built [] (done ∷ [])
build (s ∷ xs) = taking s (build xs)

pub then_done : (p : Sheet) → then p done ≡ p
then_done done = refl
then_done (plus i j c p) = ap (plus i j c) (then_done p)
then_done (minus i j c p) = ap (minus i j c) (then_done p)
then_done (loop i b p) = ap (loop i b) (then_done p)
then_done (while i b p) = ap (while i b) (then_done p)

then_assoc : (p q r : Sheet) → then (then p q) r ≡ then p (then q r)
then_assoc done q r = refl
then_assoc (plus i j c p) q r = ap (plus i j c) (then_assoc p q r)
then_assoc (minus i j c p) q r = ap (minus i j c) (then_assoc p q r)
then_assoc (loop i b p) q r = ap (loop i b) (then_assoc p q r)
then_assoc (while i b p) q r = ap (while i b) (then_assoc p q r)

builds : {xs : List Symbol} {p : Sheet} → Spells xs p → (ys : List Symbol) (q : Sheet) (st : List Sheet) → build ys ≡ built [] (q ∷ st) → build (xs ++ ys) ≡ built [] (then p q ∷ st)
unfolding build taking push naming setting wrapping closing_up
builds (adds {i} {j} {c}) ys q st e = ap (λ (b : Built). naming i (naming j (push 0 (push c b)))) e
builds (subtracts {i} {j} {c}) ys q st e = ap (λ (b : Built). naming i (naming j (push 1 (push c b)))) e
builds (sequence {xs} {ys = zs} {p} {q = r} s t) ys q st e =
    ap build (append_assoc xs (semicolon ∷ zs) ys) ∙ builds s (semicolon ∷ (zs ++ ys)) (then r q) st (builds t ys q st e) ∙ ap (λ (k : Sheet). built [] (k ∷ st)) (sym (then_assoc p r q))
builds (loops {i} {xs} {b} s) ys q st e =
    ap (λ (l : List Symbol). wrapping loop (naming i (build l))) (append_assoc xs (END ∷ []) ys)
    ∙ ap (λ (k : Built). wrapping loop (naming i k)) (builds s (END ∷ ys) done (q ∷ st) (ap closing_up e))
    ∙ ap (λ (k : Sheet). built [] (loop i k q ∷ st)) (then_done b)
builds (whiles {i} {xs} {b} s) ys q st e =
    ap (λ (l : List Symbol). wrapping while (naming i (push 0 (build l)))) (append_assoc xs (END ∷ []) ys)
    ∙ ap (λ (k : Built). wrapping while (naming i (push 0 k))) (builds s (END ∷ ys) done (q ∷ st) (ap closing_up e))
    ∙ ap (λ (k : Sheet). built [] (while i k q ∷ st)) (then_done b)

first : Built → Sheet
first (built vs []) = done
first (built vs (p ∷ st)) = p

builds_all : (xs : List Symbol) (p : Sheet) → Spells xs p → first (build xs) ≡ p
unfolding build first
builds_all xs p s = ap (λ (l : List Symbol). first (build l)) (sym (append-nil xs)) ∙ ap first (builds s [] done [] refl) ∙ then_done p

pub unique : SheetIsUnique
unique xs p q s t = sym (builds_all xs p s) ∙ builds_all xs q t
