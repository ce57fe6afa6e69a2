-- The code of a sheet is laid as `Lays` says. Of counters it uses what `proofs/Counters` has.
use Rattle.std.proofs.Common.{◌≡◌, ℕ, suc, ◌+◌, ◌<◌, ◌≤◌, List, [], ◌∷◌, ◌++◌, length, sym, refl, ap, ◌∙◌, subst, le_trans, add-zero, arith, length-append}
use mathlib.Core.Option.{some}
use native.Mathlib.Nat.{le-suc}
use Rattle.reader.specs.Sheet.{Sheet, done, plus, minus, loop, while, Whole, Fit, depth}
use Rattle.translator.specs.JumpCode.{instruction, halt, instruction_at}
use Rattle.translator.specs.Counters.{first_counter, inside_loop, behind_loop, behind_while, counters_end, sheet_width}
use Rattle.translator.specs.Translation.{FlatSheet, flat_done, flat_plus, flat_minus, flat_while, flat_from, flat, code_size, lay, compiled}
use Rattle.translator.proofs.Counters.{first_high, loop_counters, while_counters, plus_counters, minus_counters}
use Rattle.translator.specs.Standing.{Away, Lays, outermost, before, Place}
use Rattle.translator.specs.declared.types.Role.{Role}
use Rattle.translator.specs.declared.types.Role.TheVariants.{Written, Test, Down, Jump}
use Rattle.translator.specs.declared.types.Operation.TheVariants.{Goto}
use Rattle.translator.specs.declared.types.Instruction.{Instruction}

-- the instructions xs stand from label l on
abbrev Has : List Instruction → ℕ → List Instruction → Type 0
Has c l [] = Unit {0}
Has c l (x ∷ xs) = (instruction_at c l ≡ some x) × Has c (suc l) xs

has_split : (c : List Instruction) (l : ℕ) (xs ys : List Instruction) → Has c l (xs ++ ys) → Has c l xs × Has c (l + length xs) ys
has_split c l [] ys h = (tt, subst (λ (z : ℕ). Has c z ys) (sym (add-zero l)) h)
has_split c l (x ∷ xs) ys h =
    let r = has_split c (suc l) xs ys h.1 in
    let e : suc l + length xs ≡ l + suc (length xs) = omega arith in
    ((h.0, r.0), subst (λ (z : ℕ). Has c z ys) e r.1)

has_shift : (y : Instruction) (c : List Instruction) (n : ℕ) (xs : List Instruction) → Has c (suc n) xs → Has (y ∷ c) (suc (suc n)) xs
has_shift y c n [] h = tt
has_shift y c n (x ∷ xs) h = (h.0, has_shift y c (suc n) xs h.1)

has_self : (c : List Instruction) → Has c 1 c
has_self [] = tt
has_self (x ∷ xs) = (refl, has_shift x xs 0 xs (has_self xs))

pub lay-length : (f : FlatSheet) (l : ℕ) → length (lay l f) ≡ code_size f
lay-length flat_done l = refl
lay-length (flat_plus r i j k f) l = ap suc (lay-length f (suc l))
lay-length (flat_minus r i j k f) l = ap suc (lay-length f (suc l))
lay-length (flat_while r i b f) l =
    let eb = lay-length b (suc l) in
    let ef = lay-length f (suc (suc l + code_size b)) in
    ap suc (length-append (lay (suc l) b) _ ∙ (λ i. eb i + suc (ef i)))

-- each of the list is below c
abbrev Under : List ℕ → ℕ → Type 0
Under [] c = Unit {0}
Under (x ∷ xs) c = (x < c) × Under xs c

under_more : (xs : List ℕ) (c c' : ℕ) → c ≤ c' → Under xs c → Under xs c'
under_more [] c c' h u = tt
under_more (x ∷ xs) c c' h u = (let l = u.0 in omega arith, under_more xs c c' h u.1)

under_away : (xs : List ℕ) (c : ℕ) → Under xs c → Away c xs
under_away [] c u = tt
under_away (x ∷ xs) c u = (λ e. let l = u.0 in omega arith, under_away xs c u.1)

-- a WHILE's code in two parts, the body's and what stands from the jump back on
halves : (c : List Instruction) (l : ℕ) (r : Role) (i : ℕ) (b f : FlatSheet) → Has c l (lay l (flat_while r i b f))
    → Has c (suc l) (lay (suc l) b) × Has c (suc l + code_size b) (instruction Jump (Goto l) ∷ lay (suc (suc l + code_size b)) f)
halves c l r i b f h =
    let tail = instruction Jump (Goto l) ∷ lay (suc (suc l + code_size b)) f in
    let cut = has_split c (suc l) (lay (suc l) b) tail h.1 in
    (cut.0, subst (λ (z : ℕ). Has c (suc l + z) tail) (lay-length b (suc l)) cut.1)

low : (i : ℕ) → i ≤ 31 → i < 32
low i h = omega arith

lays : (f : List Instruction) (n : ℕ) (p : Sheet) (l c : ℕ) (out : List ℕ)
    → Whole p → Fit p → Has f l (lay l (flat_from c p)) → Under out c → 32 ≤ c → counters_end c p ≤ n → Lays f n out p l (l + code_size (flat_from c p))
lays f n done l c out w g h u hc hn = sym (add-zero l)
lays f n (plus i j v p) l c out w g h u hc hn =
    let e : suc l + code_size (flat_from c p) ≡ l + suc (code_size (flat_from c p)) = omega arith in
    let r = plus_counters c i j v p in
    (low i g.0, low j g.1, h.0, subst (λ (z : ℕ). Lays f n out p (suc l) z) e (lays f n p (suc l) c out w g.3 h.1 u hc (le_trans r hn)))
lays f n (minus i j v p) l c out w g h u hc hn =
    let e : suc l + code_size (flat_from c p) ≡ l + suc (code_size (flat_from c p)) = omega arith in
    let r = minus_counters c i j v p in
    (low i g.0, low j g.1, h.0, subst (λ (z : ℕ). Lays f n out p (suc l) z) e (lays f n p (suc l) c out w g.3 h.1 u hc (le_trans r hn)))
lays f n (loop i b p) l c out w g h u hc hn =
    let b' = flat_from (inside_loop c) b in
    let p' = flat_from (behind_loop c b) p in
    let q = suc (suc l) + suc (code_size b') in
    let cut = halves f (suc l) Test c (flat_minus Down c c 1 b') p' h.1 in
    let eb : suc (suc (suc l)) + code_size b' ≡ q = omega arith in
    let ep : suc q + code_size p' ≡ l + suc (suc (suc (code_size b') + suc (code_size p'))) = omega arith in
    let r = loop_counters c i b p in (
      c,
      q,
      low i g.0,
      h.0,
      record {
        counter = record { high = hc; below = le_trans r.own hn; away = under_away out c u };
        full = w.0;
        test = h.1.0;
        down = cut.0.0;
        body = subst (λ (z : ℕ). Lays f n (c ∷ out) b (suc (suc (suc l))) z) eb
            (lays f n b (suc (suc (suc l))) (inside_loop c) (c ∷ out) w.1 g.1 cut.0.1
            (r.inner, under_more out c (inside_loop c) (le_trans (le-suc c) r.inner) u) (le_trans hc (le_trans (le-suc c) r.inner)) (le_trans r.body hn));
        back = cut.1.0;
        after = subst (λ (z : ℕ). Lays f n out p (suc q) z) ep
            (lays f n p (suc q) (behind_loop c b) out w.2 g.2 cut.1.1 (under_more out c (behind_loop c b) r.later u) (le_trans hc r.later) (le_trans r.after hn));
      },
    )
lays f n (while i b p) l c out w g h u hc hn =
    let b' = flat_from c b in
    let p' = flat_from (behind_while c b) p in
    let q = suc l + code_size b' in
    let cut = halves f l Written i b' p' h in
    let ep : suc q + code_size p' ≡ l + suc (code_size b' + suc (code_size p')) = omega arith in
    let r = while_counters c i b p in (
      q,
      record {
        reads = low i g.0;
        full = w.0;
        test = h.0;
        body = lays f n b (suc l) c out w.1 g.1 cut.0 u hc (le_trans r.body hn);
        back = cut.1.0;
        after = subst (λ (z : ℕ). Lays f n out p (suc q) z) ep
            (lays f n p (suc q) (behind_while c b) out w.2 g.2 cut.1.1 (under_more out c (behind_while c b) r.later u) (le_trans hc r.later) (le_trans r.after hn));
      },
    )

-- before M1 a box stands before the whole sheet
pub at_start : (p : Sheet) → Whole p → Fit p → Place (compiled p) (sheet_width p) (depth p) 1 (before p outermost)
at_start p w g =
    let f = compiled p in
    let cut = has_split f 1 (lay 1 (flat p)) (halt ∷ []) (has_self f) in (
      1 + code_size (flat p),
      lays f (sheet_width p) p 1 first_counter [] w g cut.0 tt first_high (omega arith),
      subst (λ (z : ℕ). instruction_at f (1 + z) ≡ some halt) (lay-length (flat p) 1) cut.1.0,
      omega arith,
    )
