-- The machine's runs to the end, under a top of the levels, are the spellings of sheets of that depth.
--
use Rattle.std.proofs.Common.{◌≡◌, ℕ, suc, ◌+◌, ◌≤◌, max, List, [], ◌∷◌, ◌++◌, sym, subst, append_assoc, append-nil, arith}
use Rattle.reader.specs.Sheet.{Sheet, done, plus, minus, loop, while, then, depth}
use Rattle.reader.specs.Symbols.{Symbol, LOOP, WHILE, DO, END, number, register, unequal, semicolon}
use Rattle.reader.specs.Grammar.{Spells, adds, subtracts, sequence, loops, whiles}
use Rattle.reader.specs.Machine.{Expect, statement, more, Step, to_target, to_loop, to_while, to_assign, to_source, to_plus, to_minus, to_constant, to_loop_register, to_loop_do, to_while_register, to_unequal, to_zero, to_while_do, to_next, to_end}

-- from a state the symbols lead to the end, over at most `top` levels
pub data Run (top : ℕ) : Expect → ℕ → List Symbol → Type 0 where
  at_last : Run top more 0 []
  onward : {e e' : Expect} {d d' : ℕ} {s : Symbol} {ys : List Symbol} → Step e s d e' d' → d' ≤ top → Run top e' d' ys → Run top e d (s ∷ ys)

pub depth-then : (p q : Sheet) → depth (then p q) ≡ max (depth p) (depth q)
depth-then done q = omega arith
depth-then (plus i j c p) q = depth-then p q
depth-then (minus i j c p) q = depth-then p q
depth-then (loop i b p) q = omega (arith, depth-then p q)
depth-then (while i b p) q = omega (arith, depth-then p q)

-- what a spelling leads through
pub runs : (top : ℕ) {xs : List Symbol} {p : Sheet} → Spells xs p → (d : ℕ) (ys : List Symbol) → d + depth p ≤ top → Run top more d ys → Run top statement d (xs ++ ys)
runs top adds d ys h r =
    let k : d ≤ top = omega arith in
    onward to_target k (onward to_assign k (onward to_source k (onward to_plus k (onward to_constant k r))))
runs top subtracts d ys h r =
    let k : d ≤ top = omega arith in
    onward to_target k (onward to_assign k (onward to_source k (onward to_minus k (onward to_constant k r))))
runs top (sequence {xs} {ys = zs} {p} {q} s t) d ys h r =
    let e = depth-then p q in
    let later = runs top t d ys (omega arith) r in
    let all = runs top s d (semicolon ∷ (zs ++ ys)) (omega arith) (onward to_next (omega arith) later) in
    subst (Run top statement d) (sym (append_assoc xs (semicolon ∷ zs) ys)) all
runs top (loops {i} {xs} {b} s) d ys h r =
    let k : suc d ≤ top = omega arith in
    let inner = runs top s (suc d) (END ∷ ys) (omega arith) (onward to_end (omega arith) r) in
    onward to_loop k (onward to_loop_register k (onward to_loop_do k (subst (Run top statement (suc d)) (sym (append_assoc xs (END ∷ []) ys)) inner)))
runs top (whiles {i} {xs} {b} s) d ys h r =
    let k : suc d ≤ top = omega arith in
    let inner = runs top s (suc d) (END ∷ ys) (omega arith) (onward to_end (omega arith) r) in
    onward to_while k (onward to_while_register k (onward to_unequal k (onward to_zero k (onward to_while_do k (subst (Run top statement (suc d)) (sym (append_assoc xs (END ∷ []) ys)) inner)))))

-- behind a statement: nothing, or a semicolon and a spelling
data More (top d : ℕ) : List Symbol → Type 0 where
  no_more : More top d []
  and_more : {xs : List Symbol} {p : Sheet} → Spells xs p → d + depth p ≤ top → More top d (semicolon ∷ xs)

-- and so on at each level, with END between
data Rest (top : ℕ) : ℕ → List Symbol → Type 0 where
  outside : {xs : List Symbol} → More top 0 xs → Rest top 0 xs
  inside : {d : ℕ} (xs ys : List Symbol) → More top (suc d) xs → Rest top d ys → Rest top (suc d) (xs ++ (END ∷ ys))

data Body (top : ℕ) : ℕ → List Symbol → Type 0 where
  whole : {xs : List Symbol} {p : Sheet} → Spells xs p → 0 + depth p ≤ top → Body top 0 xs
  part : {d : ℕ} {p : Sheet} (xs ys : List Symbol) → Spells xs p → suc d + depth p ≤ top → Rest top d ys → Body top (suc d) (xs ++ (END ∷ ys))

join : (top : ℕ) (xs : List Symbol) (p : Sheet) {d : ℕ} {ys : List Symbol} → Spells xs p → d + depth p ≤ top → Rest top d ys → Body top d (xs ++ ys)
join top xs p s h (outside no_more) = whole (subst (λ (l : List Symbol). Spells l p) (sym (append-nil xs)) s) h
join top xs p s h (outside (and_more {p = q} t k)) = let e = depth-then p q in whole (sequence s t) (omega arith)
join top xs p s h (inside us vs no_more r) = part xs vs s h r
join top xs p {d = suc d} s h (inside us vs (and_more {xs = zs} {p = q} t k) r) =
    let e = depth-then p q in
    subst (Body top (suc d)) (append_assoc xs (semicolon ∷ zs) (END ∷ vs)) (part (xs ++ (semicolon ∷ zs)) vs (sequence s t) (omega arith) r)

body_in_loop : (top i : ℕ) {d : ℕ} {ys : List Symbol} → Body top (suc d) ys → Body top d (LOOP ∷ register i ∷ DO ∷ ys)
body_in_loop top i {d = d} (part {p = p} xs ys s h r) =
    subst (λ (l : List Symbol). Body top d (LOOP ∷ register i ∷ DO ∷ l)) (append_assoc xs (END ∷ []) ys) (join top _ (loop i p done) (loops s) (omega arith) r)

body_in_while : (top i : ℕ) {d : ℕ} {ys : List Symbol} → Body top (suc d) ys → Body top d (WHILE ∷ register i ∷ unequal ∷ number 0 ∷ DO ∷ ys)
body_in_while top i {d = d} (part {p = p} xs ys s h r) =
    subst (λ (l : List Symbol). Body top d (WHILE ∷ register i ∷ unequal ∷ number 0 ∷ DO ∷ l)) (append_assoc xs (END ∷ []) ys) (join top _ (while i p done) (whiles s) (omega arith) r)

behind : (top : ℕ) {d : ℕ} {ys : List Symbol} → Body top d ys → Rest top d (semicolon ∷ ys)
behind top (whole s h) = outside (and_more s h)
behind top (part xs ys s h r) = inside (semicolon ∷ xs) ys (and_more s h) r

mutual
  body : (top : ℕ) {d : ℕ} {ys : List Symbol} → Run top statement d ys → Body top d ys
  body top (onward to_target h (onward to_assign h₁ (onward to_source h₂ (onward to_plus h₃ (onward to_constant h₄ r))))) = join top _ _ adds (omega arith) (rest top r)
  body top (onward to_target h (onward to_assign h₁ (onward to_source h₂ (onward to_minus h₃ (onward to_constant h₄ r))))) = join top _ _ subtracts (omega arith) (rest top r)
  body top (onward to_loop h (onward (to_loop_register {i = i}) h₁ (onward to_loop_do h₂ r))) = body_in_loop top i (body top r)
  body top (onward to_while h (onward (to_while_register {i = i}) h₁ (onward to_unequal h₂ (onward to_zero h₃ (onward to_while_do h₄ r))))) = body_in_while top i (body top r)

  rest : (top : ℕ) {d : ℕ} {ys : List Symbol} → Run top more d ys → Rest top d ys
  rest top at_last = outside no_more
  rest top (onward to_next h r) = behind top (body top r)
  rest top (onward to_end h r) = inside [] _ no_more (rest top r)

-- what runs to the end is spelled
pub spelled : (top : ℕ) {ys : List Symbol} → Run top statement 0 ys → (p : Sheet) × Spells ys p × (depth p ≤ top)
spelled top r = go (body top r)
  where
    go : {ys : List Symbol} → Body top 0 ys → (p : Sheet) × Spells ys p × (depth p ≤ top)
    go (whole {p = p} s h) = (p, s, omega arith)
