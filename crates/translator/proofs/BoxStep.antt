-- One box step: it is silent, or it is one written step, or both wait, or both have ended.
use Rattle.std.proofs.Common.{◌≡◌, ℕ, zero, suc, ◌+◌, ◌-◌, ◌*◌, ◌<◌, ◌≤◌, Bool, true, false, T, leb, List, [], ◌∷◌, length, get_or, take, set, sym, refl, ap, ◌∙◌, subst, suc-le-suc, add-zero, arith, le→leb, leb→le, length-set, get_or-set_other, get_or-take, get_or-set_same}
use mathlib.Core.Option.{Option, some}
use lib.ListN.{get_elem?}
use lib.Seq.{take-set-lt, take-set-le}
use Rattle.reader.specs.Sheet.{Sheet, done, plus, minus, loop, while, then, Some}
use Rattle.reader.specs.Steps.{went, waits, if_low}
use Rattle.reader.specs.WrittenRun.{Counts, running, times, written_step, after_while, one_plain}
use Rattle.translator.specs.JumpCode.{halt, instruction_at, Box, inside, fits, box_step, obey, obey_fit, obey_at, to, after_if, tallied}
use Rattle.translator.specs.Following.{Silent, Wrote, RoleAt}
use Rattle.translator.specs.Standing.{Away, Lays, Around, outermost, in_while, in_loop, counters, levels, tail, pending, Ends, Spot, before, testing, lowering, Place, Live, owed_of, lack, lack_of, quiet_at, quiet, seen, StandsAt}
use Rattle.translator.specs.declared.types.Role.TheVariants.{Written, Entry, Test, Down}
use Rattle.translator.specs.declared.types.Operation.TheVariants.{If}
use Rattle.translator.specs.declared.types.Instruction.{Instruction}
use Rattle.translator.proofs.Fits.{is_true, true_is, two_fit, label_fit, test_fit}

-- a path between written runs
pub run_path : {ρ ρ' : List ℕ} {p p' : Sheet} {n n' : Counts} → ρ ≡ ρ' → p ≡ p' → n ≡ n' → running ρ p n ≡ running ρ' p' n'
run_path a b c = λ i. record { registers = a i; rest = b i; counts = c i }

pub counts_path : {w e r r' h : ℕ} → r ≡ r' → ◌≡◌ {A = Counts} (record { written = w; entered = e; rounds = r; whiles = h }) (record { written = w; entered = e; rounds = r'; whiles = h })
counts_path {w = w} {e = e} {h = h} a = λ i. record { written = w; entered = e; rounds = a i; whiles = h }

-- what a write at x leaves, where x is no counter of k
pub tail-set : (ν : List ℕ) (x v : ℕ) (k : Around) → Away x (counters k) → tail (set ν x v) k ≡ tail ν k
tail-set ν x v outermost a = refl
tail-set ν x v (in_while i b p k) a = ap (λ (r : Sheet). while i b (then p r)) (tail-set ν x v k a)
tail-set ν x v (in_loop c b p k) a =
    let here = get_or-set_other ν x c v 0 (λ e. a.0 (sym e)) in
    let there = tail-set ν x v k a.1 in
    λ i. times (here i) b (then p (there i))

pub pending-set : (ν : List ℕ) (x v : ℕ) (k : Around) → Away x (counters k) → pending (set ν x v) k ≡ pending ν k
pending-set ν x v outermost a = refl
pending-set ν x v (in_while i b p k) a = pending-set ν x v k a
pending-set ν x v (in_loop c b p k) a =
    let here = get_or-set_other ν x c v 0 (λ e. a.0 (sym e)) in
    let there = pending-set ν x v k a.1 in
    λ i. here i + there i

-- the written registers are no counters
pub away_low : (code : List Instruction) (n d q x : ℕ) (k : Around) → x < 32 → Ends code n d q k → Away x (counters k)
away_low code n d q x outermost h e = tt
away_low code n d q x (in_while i b p k) h e = away_low code n d e.1 x k h e.3.rest
away_low code n d q x (in_loop c b p k) h e =
    let high = e.2.counter.high in
    (λ same. omega arith, away_low code n d e.1 x k h e.3.rest)

pub set_low : (ν : List ℕ) (x v top : ℕ) → ((i : ℕ) → get_or ν i 0 ≤ top) → v ≤ top → (i : ℕ) → get_or (set ν x v) i 0 ≤ top
set_low [] x v top h hv i = h i
set_low (y ∷ ys) zero v top h hv zero = hv
set_low (y ∷ ys) zero v top h hv (suc i) = h (suc i)
set_low (y ∷ ys) (suc x) v top h hv zero = h 0
set_low (y ∷ ys) (suc x) v top h hv (suc i) = set_low ys x v top (λ k. h (suc k)) hv i

pub set_long : (n : ℕ) (ν : List ℕ) (x v : ℕ) → n ≤ length ν → n ≤ length (set ν x v)
set_long n ν x v h = simp length-set h

pub lack-some : (b : Sheet) → Some b → lack b ≡ 0
lack-some done h = absurd h
lack-some (plus i j c p) h = refl
lack-some (minus i j c p) h = refl
lack-some (loop i b p) h = refl
lack-some (while i b p) h = refl

pub lack_one : (b : Sheet) → lack b ≤ 1
lack_one done = omega arith
lack_one (plus i j c p) = omega arith
lack_one (minus i j c p) = omega arith
lack_one (loop i b p) = omega arith
lack_one (while i b p) = omega arith

pub quiet-some : (b : Sheet) (k : Around) → Some b → quiet_at b k ≡ 0
quiet-some done k h = absurd h
quiet-some (plus i j c p) k h = refl
quiet-some (minus i j c p) k h = refl
quiet-some (loop i b p) k h = refl
quiet-some (while i b p) k h = refl

pub quiet_most : (b : Sheet) (k : Around) → quiet_at b k ≤ suc (2 * levels k)
quiet_most done k = omega arith
quiet_most (plus i j c p) k = omega arith
quiet_most (minus i j c p) k = omega arith
quiet_most (loop i b p) k = omega arith
quiet_most (while i b p) k = omega arith

-- what one box step comes to, beside the written run that the box stands for
pub record Moved (s s' : Box) (more : ℕ) : Type 0 where
  pub steps : s'.steps ≡ suc s.steps
  pub written : s'.counts.written ≡ s.counts.written + more

pub data Stepped (code : List Instruction) (n d top : ℕ) (s : Box) (m : Spot) : Type 0 where
  silent : (s' : Box) (m' : Spot) → RoleAt code s.label Silent → box_step top n code s ≡ went s' → Moved s s' 0 → StandsAt code n d top s' m' → seen s' m' ≡ seen s m → quiet m' < quiet m → Stepped code n d top s m
  wrote : (s' : Box) (m' : Spot) → RoleAt code s.label Wrote → box_step top n code s ≡ went s' → Moved s s' 1 → StandsAt code n d top s' m' → written_step top (seen s m) ≡ went (seen s' m') → Stepped code n d top s m
  stuck : box_step top n code s ≡ waits → written_step top (seen s m) ≡ waits → Stepped code n d top s m
  halted : instruction_at code s.label ≡ some halt → m ≡ before done outermost → Stepped code n d top s m

pub obeys : (code : List Instruction) (n top : ℕ) (s : Box) {x : Instruction} → instruction_at code s.label ≡ some x → T (fits n (length code) x.operation) → box_step top n code s ≡ obey top x.role x.operation s
obeys code n top s {x} e f = ap (λ (o : Option Instruction). obey_at top n (length code) o s) e ∙ ap (λ (b : Bool). obey_fit b top x s) (is_true (fits n (length code) x.operation) f)

-- what the code of a sheet names is there
elem_below : (l : List Instruction) (i : ℕ) (y : Instruction) → get_elem? l i ≡ some y → i < length l
elem_below [] i y e = let z : ◌≡◌ {A = ℕ} 0 1 = cc in absurd (omega arith)
elem_below (x ∷ l) zero y e = omega arith
elem_below (x ∷ l) (suc i) y e = suc-le-suc (elem_below l i y e)

fit_label : (code : List Instruction) (k : ℕ) (y : Instruction) → instruction_at code k ≡ some y → T (inside (length code) k)
fit_label code zero y e = let z : ◌≡◌ {A = ℕ} 0 1 = cc in absurd (omega arith)
fit_label code (suc k) y e = label_fit (length code) (suc k) (omega arith) (elem_below code k y e)

abbrev There : List Instruction → ℕ → Type 0
There code l = (y : Instruction) × (instruction_at code l ≡ some y)

ends_there : (code : List Instruction) (n d q : ℕ) (k : Around) → Ends code n d q k → There code q
ends_there code n d q outermost e = (_, e)
ends_there code n d q (in_while i b p k) e = (_, e.2.back)
ends_there code n d q (in_loop c b p k) e = (_, e.2.back)

lays_there : (code : List Instruction) (n l m : ℕ) (out : List ℕ) (p : Sheet) → Lays code n out p l m → There code m → There code l
lays_there code n l m out done e t = subst (There code) (sym e) t
lays_there code n l m out (plus i j c p) e t = (_, e.2)
lays_there code n l m out (minus i j c p) e t = (_, e.2)
lays_there code n l m out (loop i b p) e t = (_, e.3)
lays_there code n l m out (while i b p) e t = (_, e.1.test)

fit_test : (code : List Instruction) (n i k : ℕ) → i < n → There code k → T (fits n (length code) (If i k))
fit_test code n i k h t = test_fit n (length code) i k h (fit_label code k t.0 t.1)

module _ (code : List Instruction) (n d top : ℕ) (s : Box) where
  -- at a label, with other tallies: the numbers are as they were, or v is written at x
  kept : {m : Spot} (l : ℕ) (c : Counts) (m' : Spot) → StandsAt code n d top s m → Place code n d l m' → Live s.registers m'
      → suc s.steps + owed_of m' ≡ c.written + c.entered + 3 * c.rounds + c.whiles → c.entered ≤ c.written → c.rounds + c.whiles + lack_of m' ≤ c.written
      → StandsAt code n d top (to l s.registers c s) m'
  kept l c m' h at live paid few bound = record { place = at; live = live; wide = h.wide; long = h.long; low = h.low; paid = paid; few = few; bound = bound }

  put : {m : Spot} (x v l : ℕ) (c : Counts) (m' : Spot) → StandsAt code n d top s m → v ≤ top → Place code n d l m' → Live (set s.registers x v) m'
      → suc s.steps + owed_of m' ≡ c.written + c.entered + 3 * c.rounds + c.whiles → c.entered ≤ c.written → c.rounds + c.whiles + lack_of m' ≤ c.written
      → StandsAt code n d top (to l (set s.registers x v) c s) m'
  put x v l c m' h le at live paid few bound =
      record {
        place = at;
        live = live;
        wide = h.wide;
        long = set_long n s.registers x v h.long;
        low = set_low s.registers x v top h.low le;
        paid = paid;
        few = few;
        bound = bound;
      }

  -- xi := xj + c
  step_plus : (i j c : ℕ) (p : Sheet) (k : Around) → StandsAt code n d top s (before (plus i j c p) k)
      → (x : Bool) → leb (get_or s.registers j 0 + c) top ≡ x → Stepped code n d top s (before (plus i j c p) k)
  step_plus i j c p k h true e =
      let ν = s.registers in
      let at = h.place in
      let v = get_or ν j 0 + c in
      let away = away_low code n d at.0 i k at.1.0 at.2 in
      let reads = get_or-take 32 ν j 0 at.1.1 in
      let v_low = leb→le v top (true_is (leb v top) e) in
      let q = h.paid in
      let g = h.bound in
      let f = h.few in
      let l = lack_one p in
      let s' : Box = to (suc s.label) (set ν i v) (tallied Written s.counts) s in
      wrote s' (before p k) (_, at.1.2, tt) (obeys code n top s at.1.2 (two_fit n i j (omega (arith, at.1.0, h.wide)) (omega (arith, at.1.1, h.wide))) ∙ ap (λ (x : Bool). if_low x s') e)
      (record { steps = refl; written = omega arith })
      (put i v _ _ _ h v_low (at.0, at.1.3, at.2, at.3) tt (omega arith) (omega arith) (omega arith))
      (ap (λ (x : ℕ). if_low (leb (x + c) top) (running (set (take 32 ν) i (x + c)) (then p (tail ν k)) (one_plain (seen s (before p k)).counts))) reads
      ∙ ap (λ (x : Bool). if_low x (running (set (take 32 ν) i v) (then p (tail ν k)) (one_plain (seen s (before p k)).counts))) e
      ∙ ap went (run_path (sym (take-set-lt 32 ν i v at.1.0)) (ap (then p) (sym (tail-set ν i v k away))) (counts_path (ap (λ (x : ℕ). s.counts.rounds + x) (sym (pending-set ν i v k away))))))
  step_plus i j c p k h false e =
      let at = h.place in
      let ν = s.registers in
      let reads = get_or-take 32 ν j 0 at.1.1 in
      stuck (obeys code n top s at.1.2 (two_fit n i j (omega (arith, at.1.0, h.wide)) (omega (arith, at.1.1, h.wide))) ∙ ap (λ (x : Bool). if_low x (to (suc s.label) (set ν i (get_or ν j 0 + c)) (tallied Written s.counts) s)) e)
      (ap (λ (x : ℕ). if_low (leb (x + c) top) (running (set (take 32 ν) i (x + c)) (then p (tail ν k)) (one_plain (seen s (before p k)).counts))) reads
      ∙ ap (λ (x : Bool). if_low x (running (set (take 32 ν) i (get_or ν j 0 + c)) (then p (tail ν k)) (one_plain (seen s (before p k)).counts))) e)

  -- xi := xj - c
  step_minus : (i j c : ℕ) (p : Sheet) (k : Around) → StandsAt code n d top s (before (minus i j c p) k) → Stepped code n d top s (before (minus i j c p) k)
  step_minus i j c p k h =
      let ν = s.registers in
      let at = h.place in
      let v = get_or ν j 0 - c in
      let away = away_low code n d at.0 i k at.1.0 at.2 in
      let reads = get_or-take 32 ν j 0 at.1.1 in
      let low = h.low j in
      let v_low : v ≤ top = omega arith in
      let q = h.paid in
      let g = h.bound in
      let f = h.few in
      let l = lack_one p in
      wrote (to (suc s.label) (set ν i v) (tallied Written s.counts) s) (before p k) (_, at.1.2, tt) (obeys code n top s at.1.2 (two_fit n i j (omega (arith, at.1.0, h.wide)) (omega (arith, at.1.1, h.wide))))
      (record { steps = refl; written = omega arith })
      (put i v _ _ _ h v_low (at.0, at.1.3, at.2, at.3) tt (omega arith) (omega arith) (omega arith))
      (ap (λ (x : ℕ). went (running (set (take 32 ν) i (x - c)) (then p (tail ν k)) (one_plain (seen s (before p k)).counts))) reads
      ∙ ap went (run_path (sym (take-set-lt 32 ν i v at.1.0)) (ap (then p) (sym (tail-set ν i v k away))) (counts_path (ap (λ (x : ℕ). s.counts.rounds + x) (sym (pending-set ν i v k away))))))

  -- the entry of a LOOP
  step_loop : (i : ℕ) (b p : Sheet) (k : Around) → StandsAt code n d top s (before (loop i b p) k) → Stepped code n d top s (before (loop i b p) k)
  step_loop i b p k h =
      let ν = s.registers in
      let at = h.place in
      let c = at.1.0 in
      let laid = at.1.4 in
      let v = get_or ν i 0 + 0 in
      let ν' = set ν c v in
      let away = laid.counter.away in
      let below = laid.counter.below in
      let long = h.long in
      let low = h.low i in
      let v_low : v ≤ top = omega arith in
      let holds = get_or-set_same ν c v 0 (omega arith) in
      let reads : get_or (take 32 ν) i 0 ≡ get_or ν' c 0 = get_or-take 32 ν i 0 at.1.2 ∙ sym (add-zero (get_or ν i 0)) ∙ sym holds in
      let rests = tail-set ν c v k away in
      let pends = pending-set ν c v k away in
      let deep = at.3 in
      let q = h.paid in
      let g = h.bound in
      let f = h.few in
      let s' : Box = to (suc s.label) ν' (tallied Entry s.counts) s in
      wrote s' (testing c b p k) (_, at.1.3, tt) (obeys code n top s at.1.3 (two_fit n c i below (omega (arith, at.1.2, h.wide))) ∙ ap (λ (x : Bool). if_low x s') (is_true (leb v top) (le→leb v top v_low)))
      (record { steps = refl; written = omega arith })
      (put c v _ _ _ h v_low (at.1.1, at.0, laid, record { body_deep = omega arith; after_deep = omega arith; rest = at.2 }) tt (omega arith) (omega arith) (omega arith))
      (ap went (run_path (sym (take-set-le 32 ν c v laid.counter.high)) (λ z. times (reads z) b (then p (sym rests z))) (counts_path (omega arith))))

  -- the test of a WHILE
  step_while : (i : ℕ) (b p : Sheet) (k : Around) → StandsAt code n d top s (before (while i b p) k)
      → (x : ℕ) → get_or s.registers i 0 ≡ x → Stepped code n d top s (before (while i b p) k)
  step_while i b p k h zero e =
      let at = h.place in
      let laid = at.1.1 in
      let reads = get_or-take 32 s.registers i 0 laid.reads ∙ e in
      let deep = at.3 in
      let q = h.paid in
      let g = h.bound in
      let f = h.few in
      let l = lack_one p in
      wrote (after_if 0 Written (suc at.1.0) s) (before p k) (_, laid.test, tt) (obeys code n top s laid.test (fit_test code n i (suc at.1.0) (omega (arith, laid.reads, h.wide)) (lays_there code n (suc at.1.0) at.0 (counters k) p laid.after (ends_there code n d at.0 k at.2))) ∙ ap (λ (x : ℕ). went (after_if x Written (suc at.1.0) s)) e)
      (record { steps = refl; written = omega arith })
      (kept _ _ _ h (at.0, laid.after, at.2, omega arith) tt (omega arith) (omega arith) (omega arith))
      (ap (λ (x : ℕ). went (after_while x i b (then p (tail s.registers k)) (take 32 s.registers) (seen s (before p k)).counts)) reads)
  step_while i b p k h (suc v) e =
      let at = h.place in
      let laid = at.1.1 in
      let reads = get_or-take 32 s.registers i 0 laid.reads ∙ e in
      let deep = at.3 in
      let q = h.paid in
      let g = h.bound in
      let f = h.few in
      let l = lack-some b laid.full in
      wrote (after_if (suc v) Written (suc at.1.0) s) (before b (in_while i b p k))
      (_, laid.test, tt) (obeys code n top s laid.test (fit_test code n i (suc at.1.0) (omega (arith, laid.reads, h.wide)) (lays_there code n (suc at.1.0) at.0 (counters k) p laid.after (ends_there code n d at.0 k at.2))) ∙ ap (λ (x : ℕ). went (after_if x Written (suc at.1.0) s)) e)
      (record { steps = refl; written = omega arith })
      (kept _ _ _ h (at.1.0, laid.body, (s.label, at.0, laid, record { body_deep = omega arith; after_deep = omega arith; rest = at.2 }), omega arith) tt (omega arith) (omega arith) (omega arith))
      (ap (λ (x : ℕ). went (after_while x i b (then p (tail s.registers k)) (take 32 s.registers) (seen s (before p k)).counts)) reads)

  -- the counter test of a LOOP
  step_testing : (c : ℕ) (b p : Sheet) (k : Around) → StandsAt code n d top s (testing c b p k)
      → (x : ℕ) → get_or s.registers c 0 ≡ x → Stepped code n d top s (testing c b p k)
  step_testing c b p k h zero e =
      let at = h.place in
      let ν = s.registers in
      let q = h.paid in
      let g = h.bound in
      let l = lack_one p in
      let most = quiet_most p k in
      silent (after_if 0 Test (suc at.0) s) (before p k) (_, at.2.test, tt) (obeys code n top s at.2.test (fit_test code n c (suc at.0) at.2.counter.below (lays_there code n (suc at.0) at.1 (counters k) p at.2.after (ends_there code n d at.1 k at.3.rest))) ∙ ap (λ (x : ℕ). went (after_if x Test (suc at.0) s)) e)
      (record { steps = refl; written = omega arith })
      (kept _ _ _ h (at.1, at.2.after, at.3.rest, at.3.after_deep) tt (omega arith) h.few (omega arith))
      (run_path refl (ap (λ (x : ℕ). times x b (then p (tail ν k))) (sym e)) (counts_path (omega arith)))
      (omega arith)
  step_testing c b p k h (suc v) e =
      let q = h.paid in
      silent (after_if (suc v) Test (suc h.place.0) s) (lowering c b p k)
      (_, h.place.2.test, tt) (obeys code n top s h.place.2.test (fit_test code n c (suc h.place.0) h.place.2.counter.below (lays_there code n (suc h.place.0) h.place.1 (counters k) p h.place.2.after (ends_there code n d h.place.1 k h.place.3.rest))) ∙ ap (λ (x : ℕ). went (after_if x Test (suc h.place.0) s)) e)
      (record { steps = refl; written = omega arith })
      (kept _ _ _ h (s.label, refl, h.place) (v, e) (omega arith) h.few h.bound)
      refl (omega arith)

  -- the counter goes down
  step_lowering : (c : ℕ) (b p : Sheet) (k : Around) → StandsAt code n d top s (lowering c b p k) → Stepped code n d top s (lowering c b p k)
  step_lowering c b p k h =
      let ν = s.registers in
      let t = h.place.0 in
      let is = h.place.1 in
      let at = h.place.2 in
      let laid = at.2 in
      let v = get_or ν c 0 - 1 in
      let ν' = set ν c v in
      let left = h.live.1 in
      let away = laid.counter.away in
      let below = laid.counter.below in
      let long = h.long in
      let low = h.low c in
      let v_low : v ≤ top = omega arith in
      let holds = get_or-set_same ν c v 0 (omega arith) in
      let reads : get_or ν' c 0 ≡ h.live.0 = omega arith in
      let rests = tail-set ν c v k away in
      let pends = pending-set ν c v k away in
      let deep = at.3.body_deep in
      let l = lack-some b laid.full in
      let none = quiet-some b (in_loop c b p k) laid.full in
      let q = h.paid in
      let g = h.bound in
      silent (to (suc s.label) ν' (tallied Down s.counts) s) (before b (in_loop c b p k)) (_, ap (instruction_at code) is ∙ laid.down, tt) (obeys code n top s (ap (instruction_at code) is ∙ laid.down) (two_fit n c c below below))
      (record { steps = refl; written = omega arith })
      (put c v _ _ _ h v_low (at.0, subst (λ (x : ℕ). Lays code n (c ∷ counters k) b (suc x) at.0) (sym is) laid.body, (t, at.1, laid, at.3), omega arith) tt (omega arith) h.few (omega arith))
      (run_path (take-set-le 32 ν c v laid.counter.high)
      ((λ z. then b (times (reads z) b (then p (rests z)))) ∙ ap (λ (x : ℕ). times x b (then p (tail ν k))) (sym left))
      (counts_path (omega arith)))
      (omega arith)

  -- the jump back of a WHILE, and of a LOOP
  step_back : (i : ℕ) (b p : Sheet) (k : Around) → StandsAt code n d top s (before done (in_while i b p k)) → Stepped code n d top s (before done (in_while i b p k))
  step_back i b p k h =
      let e = h.place.2 in
      let q = h.paid in
      let g = h.bound in
      let deep = e.3.body_deep in
      let deep2 = e.3.after_deep in
      silent (to e.0 s.registers s.counts s) (before (while i b p) k) (_, ap (instruction_at code) h.place.1 ∙ e.2.back, tt) (obeys code n top s (ap (instruction_at code) h.place.1 ∙ e.2.back) (fit_label code e.0 _ e.2.test))
      (record { steps = refl; written = omega arith })
      (kept _ _ _ h (e.1, (h.place.0, e.2), e.3.rest, omega arith) tt (omega arith) h.few (omega arith))
      refl (omega arith)

  step-again : (c : ℕ) (b p : Sheet) (k : Around) → StandsAt code n d top s (before done (in_loop c b p k)) → Stepped code n d top s (before done (in_loop c b p k))
  step-again c b p k h =
      let e = h.place.2 in
      let q = h.paid in
      silent (to e.0 s.registers s.counts s) (testing c b p k) (_, ap (instruction_at code) h.place.1 ∙ e.2.back, tt) (obeys code n top s (ap (instruction_at code) h.place.1 ∙ e.2.back) (fit_label code e.0 _ e.2.test))
      (record { steps = refl; written = omega arith })
      (kept _ _ _ h (h.place.0, e.1, e.2, e.3) tt (omega arith) h.few h.bound)
      refl (omega arith)

pub step : (code : List Instruction) (n d top : ℕ) (s : Box) (m : Spot) → StandsAt code n d top s m → Stepped code n d top s m
step code n d top s (before done outermost) h = halted (ap (instruction_at code) h.place.1 ∙ h.place.2) refl
step code n d top s (before done (in_while i b p k)) h = step_back code n d top s i b p k h
step code n d top s (before done (in_loop c b p k)) h = step-again code n d top s c b p k h
step code n d top s (before (plus i j c p) k) h = step_plus code n d top s i j c p k h (leb (get_or s.registers j 0 + c) top) refl
step code n d top s (before (minus i j c p) k) h = step_minus code n d top s i j c p k h
step code n d top s (before (loop i b p) k) h = step_loop code n d top s i b p k h
step code n d top s (before (while i b p) k) h = step_while code n d top s i b p k h (get_or s.registers i 0) refl
step code n d top s (testing c b p k) h = step_testing code n d top s c b p k h (get_or s.registers c 0) refl
step code n d top s (lowering c b p k) h = step_lowering code n d top s c b p k h
