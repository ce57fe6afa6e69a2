-- N of a sheet's code, and that every instruction of it fits.
use Rattle.std.proofs.Common.{◌≡◌, ℕ, zero, suc, ◌+◌, ◌<◌, ◌≤◌, max, T, List, [], ◌∷◌, ◌++◌, length, refl, ap, ◌∙◌, subst, ⊎_elim, arith, length-append}
use mathlib.Core.Option.{some}
use lib.ListN.{get_elem?}
use Rattle.std.proofs.lemmas.Bool.{cases_lt}
use Rattle.reader.specs.Sheet.{Sheet, done, plus, minus, loop, while, Fit, loops}
use Rattle.translator.specs.declared.types.Role.TheVariants.{Jump}
use Rattle.translator.specs.declared.types.Operation.TheVariants.{Goto}
use Rattle.translator.specs.declared.types.Instruction.{Instruction}
use Rattle.translator.specs.JumpCode.{instruction, halt, instruction_at, fits, AllFit}
use Rattle.translator.specs.Counters.{first_counter, inside_loop, behind_loop, behind_while, counters_end, sheet_width}
use Rattle.translator.specs.Translation.{flat_from, flat, lay, code_size, compiled}
use Rattle.translator.specs.Width.{width}
use Rattle.translator.specs.Sizes.{CodeWidthIsSheetWidth, CodeIsWhole}
use Rattle.translator.proofs.Laid.{lay-length}
use Rattle.translator.proofs.Fits.{two_fit, label_fit, test_fit}

pub width_low : (xs : List Instruction) → 32 ≤ width xs
width_low [] = omega arith
width_low (x ∷ xs) = let h = width_low xs in omega arith

width_append : (xs ys : List Instruction) → width (xs ++ ys) ≡ max (width xs) (width ys)
width_append [] ys = let h = width_low ys in omega arith
width_append (x ∷ xs) ys = let h = width_append xs ys in omega arith

-- k LOOPs, from counter c on
record Needs (c k n : ℕ) : Type 0 where
  high : n ≤ c + k
  hit : 1 ≤ k → c + k ≤ n

-- f LOOPs of its own, then those of a body, and those behind it
nest : (c f m a b q k x y w : ℕ) → m ≡ c + f → q ≡ m + a → k ≡ f + a + b → Needs m a x → Needs q b y → w ≤ max m (max x y) → x ≤ w → y ≤ w → (1 ≤ f → m ≤ w) → Needs c k w
nest c f m a b q k x y w em eq ek nx ny up hx hy own =
    let tx = nx.high in
    let ty = ny.high in
    record {
      high = omega arith;
      hit = λ h.
          ⊎_elim
          (λ (lt : 0 < b). let z = ny.hit lt in omega arith)
          (λ (le : b ≤ 0).
          ⊎_elim (λ (lt : 0 < a). let z = nx.hit lt in omega arith) (λ (le' : a ≤ 0). let z = own (omega arith) in omega arith) (cases_lt 0 a))
          (cases_lt 0 b);
    }

needs : (p : Sheet) (c l : ℕ) → 32 ≤ c → Fit p → Needs c (loops p) (width (lay l (flat_from c p)))
needs done c l hc g = record { high = omega arith; hit = λ h. absurd (omega arith) }
needs (plus i j n p) c l hc g =
    let r = needs p c (suc l) hc g.3 in
    let hi = g.0 in
    let hj = g.1 in
    let a = r.high in
    record { high = omega arith; hit = λ h. let b = r.hit h in omega arith }
needs (minus i j n p) c l hc g =
    let r = needs p c (suc l) hc g.3 in
    let hi = g.0 in
    let hj = g.1 in
    let a = r.high in
    record { high = omega arith; hit = λ h. let b = r.hit h in omega arith }
needs (loop i b p) c l hc g =
    let lb = suc (suc (suc l)) in
    let X = lay lb (flat_from (inside_loop c) b) in
    let lp = suc (suc (suc l) + suc (code_size (flat_from (inside_loop c) b))) in
    let Y = lay lp (flat_from (behind_loop c b) p) in
    let rb = needs b (inside_loop c) lb (omega arith) g.1 in
    let rp = needs p (behind_loop c b) lp (omega arith) g.2 in
    let join = width_append X (instruction Jump (Goto (suc l)) ∷ Y) in
    let hi = g.0 in
    let low = width_low Y in
    nest c 1 (inside_loop c) (loops b) (loops p) (behind_loop c b) (loops (loop i b p)) (width X) (width Y) (width (lay l (flat_from c (loop i b p)))) (omega arith) refl (omega arith) rb rp (omega arith)
    (omega arith) (omega arith) (λ h. omega arith)
needs (while i b p) c l hc g =
    let X = lay (suc l) (flat_from c b) in
    let lp = suc (suc l + code_size (flat_from c b)) in
    let Y = lay lp (flat_from (behind_while c b) p) in
    let rb = needs b c (suc l) hc g.1 in
    let rp = needs p (behind_while c b) lp (omega arith) g.2 in
    let join = width_append X (instruction Jump (Goto l) ∷ Y) in
    let hi = g.0 in
    let low = width_low Y in
    nest c 0 c (loops b) (loops p) (behind_while c b) (loops (while i b p)) (width X) (width Y) (width (lay l (flat_from c (while i b p)))) (omega arith) refl (omega arith) rb rp (omega arith)
    (omega arith) (omega arith) (λ h. absurd (omega arith))

pub code_width : CodeWidthIsSheetWidth
code_width p fit =
    let X = lay 1 (flat p) in
    let r = needs p first_counter 1 (omega arith) fit in
    let a = width_append X (halt ∷ []) in
    let low = width_low X in
    let high = r.high in
    (⊎_elim (λ (lt : 0 < loops p). let q = r.hit lt in omega arith) (λ (le : loops p ≤ 0). omega arith) (cases_lt 0 (loops p)), refl)

-- every instruction of a list fits a code of that length with n registers
abbrev Every : ℕ → ℕ → List Instruction → Type 0
Every n len [] = Unit {0}
Every n len (x ∷ xs) = T (fits n len x.operation) × Every n len xs

every_append : (n len : ℕ) (xs ys : List Instruction) → Every n len xs → Every n len ys → Every n len (xs ++ ys)
every_append n len [] ys h g = g
every_append n len (x ∷ xs) ys h g = (h.0, every_append n len xs ys h.1 g)

every_at : (n len : ℕ) (xs : List Instruction) (m : ℕ) (x : Instruction) → Every n len xs → get_elem? xs m ≡ some x → T (fits n len x.operation)
every_at n len [] m x h e = let z : ◌≡◌ {A = ℕ} 0 1 = cc in absurd (omega arith)
every_at n len (y ∷ xs) zero x h e =
    let same : y ≡ x = cc in
    subst (λ (z : Instruction). T (fits n len z.operation)) same h.0
every_at n len (y ∷ xs) (suc m) x h e = every_at n len xs m x h.1 e

every_fit : (n : ℕ) (c : List Instruction) → Every n (length c) c → AllFit n c
every_fit n c h zero x e = let z : ◌≡◌ {A = ℕ} 0 1 = cc in absurd (omega arith)
every_fit n c h (suc m) x e = every_at n (length c) c m x h e

-- the code from label l on, with one instruction more behind it
every_lay : (n len : ℕ) (p : Sheet) (c l : ℕ) → Fit p → 32 ≤ c → counters_end c p ≤ n → 1 ≤ l → l + code_size (flat_from c p) ≤ len → Every n len (lay l (flat_from c p))
every_lay n len done c l g hc hn hl h = tt
every_lay n len (plus i j k p) c l g hc hn hl h =
    let hi = g.0 in
    let hj = g.1 in
    (two_fit n i j (omega arith) (omega arith), every_lay n len p c (suc l) g.3 hc hn (omega arith) (omega arith))
every_lay n len (minus i j k p) c l g hc hn hl h =
    let hi = g.0 in
    let hj = g.1 in
    (two_fit n i j (omega arith) (omega arith), every_lay n len p c (suc l) g.3 hc hn (omega arith) (omega arith))
every_lay n len (loop i b p) c l g hc hn hl h =
    let hi = g.0 in
    let b' = flat_from (inside_loop c) b in
    let p' = flat_from (behind_loop c b) p in
    let lb = suc (suc (suc l)) in
    let lp = suc (suc (suc l) + suc (code_size b')) in
    let body = every_lay n len b (inside_loop c) lb g.1 (omega arith) (omega arith) (omega arith) (omega arith) in
    let after = every_lay n len p (behind_loop c b) lp g.2 (omega arith) (omega arith) (omega arith) (omega arith) in
    let rest = every_append n len (lay lb b') (instruction Jump (Goto (suc l)) ∷ lay lp p') body (label_fit len (suc l) (omega arith) (omega arith), after) in
    (two_fit n c i (omega arith) (omega arith), (test_fit n len c lp (omega arith) (label_fit len lp (omega arith) (omega arith)), (two_fit n c c (omega arith) (omega arith), rest)))
every_lay n len (while i b p) c l g hc hn hl h =
    let hi = g.0 in
    let b' = flat_from c b in
    let p' = flat_from (behind_while c b) p in
    let lp = suc (suc l + code_size b') in
    let body = every_lay n len b c (suc l) g.1 hc (omega arith) (omega arith) (omega arith) in
    let after = every_lay n len p (behind_while c b) lp g.2 (omega arith) (omega arith) (omega arith) (omega arith) in (
      test_fit n len i lp (omega arith) (label_fit len lp (omega arith) (omega arith)),
      every_append n len (lay (suc l) b') (instruction Jump (Goto l) ∷ lay lp p') body (label_fit len l (omega arith) (omega arith), after),
    )

-- the last of a list
last_of : (xs : List Instruction) (x : Instruction) → get_elem? (xs ++ x ∷ []) (length xs) ≡ some x
last_of [] x = refl
last_of (y ∷ xs) x = last_of xs x

pub code_whole : CodeIsWhole
code_whole p h =
    let c = compiled p in
    let X = lay 1 (flat p) in
    let few = h.few_loops in
    let long : length c ≡ suc (length X) = let e = length-append X (halt ∷ []) in omega arith in
    let size = lay-length (flat p) 1 in
    record {
      fits = every_fit (sheet_width p) c
          (every_append (sheet_width p) (length c) X (halt ∷ []) (every_lay (sheet_width p) (length c) p first_counter 1 h.fit (omega arith) (omega arith) (omega arith) (omega arith)) (tt, tt));
      narrow = omega arith;
      last = ap (instruction_at c) long ∙ last_of X halt;
    }
