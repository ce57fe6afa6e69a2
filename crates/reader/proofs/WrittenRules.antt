-- The written step takes exactly the published steps of LOOP and WHILE programs.
use Rattle.std.proofs.Common.{◌≡◌, ℕ, zero, suc, ◌+◌, ◌-◌, Bool, true, false, T, leb, List, get_or, set, sym, refl, ap, ◌∙◌, subst, arith, le→leb, leb→le}
use Rattle.reader.specs.Sheet.{Sheet, done, plus, minus, loop, while, then, Some, Whole}
use Rattle.reader.specs.Steps.{Next, went, waits, ended, unfit, if_low}
use Rattle.reader.specs.WrittenRun.{Counts, WrittenRun, running, times, one_plain, one_loop, one_while, after_while, written_of}
use Rattle.reader.specs.WrittenRules.{Program, assign_plus, assign_minus, sequence, loop_do_end, while_do_end, Left, empty, left, before, copies, RuleStep, plus_rule, minus_rule, first_ends, first_goes_on, loop_rule, while_vanishes, while_goes_on, sheet_of, sheet_left, SheetIsProgram, WrittenStepIsPublished}

pub then_done : (p : Sheet) → then p done ≡ p
then_done done = refl
then_done (plus i j c p) = ap (plus i j c) (then_done p)
then_done (minus i j c p) = ap (minus i j c) (then_done p)
then_done (loop i b p) = ap (loop i b) (then_done p)
then_done (while i b p) = ap (while i b) (then_done p)

pub then-then : (p q r : Sheet) → then (then p q) r ≡ then p (then q r)
then-then done q r = refl
then-then (plus i j c p) q r = ap (plus i j c) (then-then p q r)
then-then (minus i j c p) q r = ap (minus i j c) (then-then p q r)
then-then (loop i b p) q r = ap (loop i b) (then-then p q r)
then-then (while i b p) q r = ap (while i b) (then-then p q r)

times-then : (n : ℕ) (b p q : Sheet) → then (times n b p) q ≡ times n b (then p q)
times-then zero b p q = refl
times-then (suc n) b p q = then-then b (times n b p) q ∙ ap (then b) (times-then n b p q)

pub some_then : (p q : Sheet) → Some p → Some (then p q)
some_then done q h = absurd h
some_then (plus i j c p) q h = tt
some_then (minus i j c p) q h = tt
some_then (loop i b p) q h = tt
some_then (while i b p) q h = tt

some_program : (p : Program) → Some (sheet_of p)
some_program (assign_plus i j c) = tt
some_program (assign_minus i j c) = tt
some_program (sequence p q) = some_then (sheet_of p) (sheet_of q) (some_program p)
some_program (loop_do_end i p) = tt
some_program (while_do_end i p) = tt

-- the same run with q behind what is left
abbrev put : Sheet → WrittenRun → WrittenRun
put q a = running a.registers (then a.rest q) a.counts

abbrev behind : Sheet → Next WrittenRun → Next WrittenRun
behind q (went a) = went (put q a)
behind q waits = waits
behind q ended = ended
behind q unfit = unfit

low_behind : (x : Bool) (q : Sheet) (a : WrittenRun) → if_low x (put q a) ≡ behind q (if_low x a)
low_behind true q a = refl
low_behind false q a = refl

while_behind : (v i : ℕ) (b p q : Sheet) (ρ : List ℕ) (n : Counts) → after_while v i b (then p q) ρ n ≡ put q (after_while v i b p ρ n)
while_behind zero i b p q ρ n = refl
while_behind (suc v) i b p q ρ n = ap (λ (r : Sheet). running ρ r (one_while n)) (sym (then-then b (while i b p) q))

-- the step of p; q is that of p, with q behind
step_then : (top : ℕ) (ρ : List ℕ) (n : Counts) (p q : Sheet) → Some p → written_of top ρ n (then p q) ≡ behind q (written_of top ρ n p)
step_then top ρ n done q h = absurd h
step_then top ρ n (plus i j c p) q h = low_behind (leb (get_or ρ j 0 + c) top) q (running (set ρ i (get_or ρ j 0 + c)) p (one_plain n))
step_then top ρ n (minus i j c p) q h = refl
step_then top ρ n (loop i b p) q h = ap (λ (r : Sheet). went (running ρ r (one_loop (get_or ρ i 0) n))) (sym (times-then (get_or ρ i 0) b p q))
step_then top ρ n (while i b p) q h = ap went (while_behind (get_or ρ i 0) i b p q ρ n)

before_sheet : (p : Program) (q : Left) → sheet_left (before p q) ≡ then (sheet_of p) (sheet_left q)
before_sheet p empty = sym (then_done (sheet_of p))
before_sheet p (left q) = refl

-- the copies of a program are those of its sheet
pub copies_sheet : (n : ℕ) (p : Program) → sheet_left (copies n p) ≡ times n (sheet_of p) done
copies_sheet zero p = refl
copies_sheet (suc n) p = before_sheet p (copies n p) ∙ ap (then (sheet_of p)) (copies_sheet n p)

-- a body's program
body_program : (b : Sheet) → Some b → (q : Left) × (sheet_left q ≡ b) → (q : Program) × (sheet_of q ≡ b)
body_program b s (empty, e) = absurd (subst Some (sym e) s)
body_program b s (left q, e) = (q, e)

first_program : (p : Program) (q : Left) (r s : Sheet) → sheet_of p ≡ r → sheet_left q ≡ s → (q : Left) × (sheet_left q ≡ then r s)
first_program p q r s e f = (before p q, before_sheet p q ∙ (λ i. then (e i) (f i)))

-- every sheet without an empty body is that of a program
sheet_program : (p : Sheet) → Whole p → (q : Left) × (sheet_left q ≡ p)
sheet_program done h = (empty, refl)
sheet_program (plus i j c p) h = let r = sheet_program p h in first_program (assign_plus i j c) r.0 (plus i j c done) p refl r.1
sheet_program (minus i j c p) h = let r = sheet_program p h in first_program (assign_minus i j c) r.0 (minus i j c done) p refl r.1
sheet_program (loop i b p) h =
    let q = body_program b h.0 (sheet_program b h.1) in
    let r = sheet_program p h.2 in
    first_program (loop_do_end i q.0) r.0 (loop i b done) p (ap (λ (x : Sheet). loop i x done) q.1) r.1
sheet_program (while i b p) h =
    let q = body_program b h.0 (sheet_program b h.1) in
    let r = sheet_program p h.2 in
    first_program (while_do_end i q.0) r.0 (while i b done) p (ap (λ (x : Sheet). while i x done) q.1) r.1

pub sheets_are_programs : SheetIsProgram
sheets_are_programs p h = sheet_program p h

is_true : (b : Bool) → T b → b ≡ true
is_true true t = refl
is_true false t = absurd t

-- what is taken of a published step
record Taken (top : ℕ) (ρ : List ℕ) (n : Counts) (p : Sheet) (ρ' : List ℕ) (q : Sheet) : Type 0 where
  to : WrittenRun
  step : written_of top ρ n p ≡ went to
  registers : to.registers ≡ ρ'
  rest : to.rest ≡ q
  written : to.counts.written ≡ suc n.written

taken_then : (top : ℕ) (ρ ρ' : List ℕ) (n : Counts) (p q r : Sheet) → Some p → Taken top ρ n p ρ' q → Taken top ρ n (then p r) ρ' (then q r)
taken_then top ρ ρ' n p q r s h =
    record {
      to = put r h.to;
      step = step_then top ρ n p r s ∙ ap (behind r) h.step;
      registers = h.registers;
      rest = ap (λ (x : Sheet). then x r) h.rest;
      written = h.written;
    }

while_on : (top : ℕ) (ρ : List ℕ) (n : Counts) (i : ℕ) (b : Sheet) (v : ℕ) → get_or ρ i 0 ≡ v → (v ≡ 0 → ⊥) → Taken top ρ n (while i b done) ρ (then b (while i b done))
while_on top ρ n i b zero e h = absurd (h refl)
while_on top ρ n i b (suc v) e h =
    record {
      to = running ρ (then b (while i b done)) (one_while n);
      step = ap (λ (x : ℕ). went (after_while x i b done ρ n)) e;
      registers = refl;
      rest = refl;
      written = refl;
    }

-- each published step is taken
taken : (top : ℕ) (n : Counts) (ρ : List ℕ) (p : Program) (ρ' : List ℕ) (q : Left) → RuleStep top ρ p ρ' q → Taken top ρ n (sheet_of p) ρ' (sheet_left q)
taken top n _ _ _ _ (plus_rule ρ i j c h) =
    record {
      to = running (set ρ i (get_or ρ j 0 + c)) done (one_plain n);
      step = ap (λ (x : Bool). if_low x (running (set ρ i (get_or ρ j 0 + c)) done (one_plain n))) (is_true (leb (get_or ρ j 0 + c) top) (le→leb (get_or ρ j 0 + c) top h));
      registers = refl;
      rest = refl;
      written = refl;
    }
taken top n _ _ _ _ (minus_rule ρ i j c) =
    record { to = running (set ρ i (get_or ρ j 0 - c)) done (one_plain n); step = refl; registers = refl; rest = refl; written = refl }
taken top n _ _ _ _ (first_ends ρ ρ' p q h) = taken_then top ρ ρ' n (sheet_of p) done (sheet_of q) (some_program p) (taken top n ρ p ρ' empty h)
taken top n _ _ _ _ (first_goes_on ρ ρ' p p' q h) = taken_then top ρ ρ' n (sheet_of p) (sheet_of p') (sheet_of q) (some_program p) (taken top n ρ p ρ' (left p') h)
taken top n _ _ _ _ (loop_rule ρ i p) =
    record {
      to = running ρ (times (get_or ρ i 0) (sheet_of p) done) (one_loop (get_or ρ i 0) n);
      step = refl;
      registers = refl;
      rest = sym (copies_sheet (get_or ρ i 0) p);
      written = refl;
    }
taken top n _ _ _ _ (while_vanishes ρ i p e) =
    record {
      to = running ρ done (one_plain n);
      step = ap (λ (x : ℕ). went (after_while x i (sheet_of p) done ρ n)) e;
      registers = refl;
      rest = refl;
      written = refl;
    }
taken top n _ _ _ _ (while_goes_on ρ i p h) = while_on top ρ n i (sheet_of p) (get_or ρ i 0) refl h

-- what the written step does is published
abbrev Published : ℕ → List ℕ → Program → WrittenRun → Type 0
Published top ρ p a = (q : Left) × RuleStep top ρ p a.registers q × (sheet_left q ≡ a.rest)

-- by what the written step came to
abbrev PublishedBy : ℕ → List ℕ → Program → Next WrittenRun → Type 0
PublishedBy top ρ p (went a) = Published top ρ p a
PublishedBy top ρ p waits = Unit {0}
PublishedBy top ρ p ended = Unit {0}
PublishedBy top ρ p unfit = Unit {0}

plus_published : (top : ℕ) (ρ : List ℕ) (n : Counts) (i j c : ℕ) (x : Bool) → leb (get_or ρ j 0 + c) top ≡ x
    → PublishedBy top ρ (assign_plus i j c) (if_low x (running (set ρ i (get_or ρ j 0 + c)) done (one_plain n)))
plus_published top ρ n i j c true e = (empty, plus_rule ρ i j c (leb→le (get_or ρ j 0 + c) top (subst T (sym e) tt)), refl)
plus_published top ρ n i j c false e = tt

while_published : (top : ℕ) (ρ : List ℕ) (n : Counts) (i : ℕ) (p : Program) (v : ℕ) → get_or ρ i 0 ≡ v
    → Published top ρ (while_do_end i p) (after_while v i (sheet_of p) done ρ n)
while_published top ρ n i p zero e = (empty, while_vanishes ρ i p e, refl)
while_published top ρ n i p (suc v) e = (left (sequence p (while_do_end i p)), while_goes_on ρ i p (λ z. omega arith), refl)

then_published : (top : ℕ) (ρ : List ℕ) (p q : Program) (o : Next WrittenRun) → PublishedBy top ρ p o → PublishedBy top ρ (sequence p q) (behind (sheet_of q) o)
then_published top ρ p q (went a) (empty, h, e) = (left q, first_ends ρ a.registers p q h, ap (λ (x : Sheet). then x (sheet_of q)) e)
then_published top ρ p q (went a) (left r, h, e) = (left (sequence r q), first_goes_on ρ a.registers p r q h, ap (λ (x : Sheet). then x (sheet_of q)) e)
then_published top ρ p q waits h = tt
then_published top ρ p q ended h = tt
then_published top ρ p q unfit h = tt

published : (top : ℕ) (ρ : List ℕ) (n : Counts) (p : Program) → PublishedBy top ρ p (written_of top ρ n (sheet_of p))
published top ρ n (assign_plus i j c) = plus_published top ρ n i j c (leb (get_or ρ j 0 + c) top) refl
published top ρ n (assign_minus i j c) = (empty, minus_rule ρ i j c, refl)
published top ρ n (sequence p q) =
    subst (PublishedBy top ρ (sequence p q)) (sym (step_then top ρ n (sheet_of p) (sheet_of q) (some_program p)))
    (then_published top ρ p q (written_of top ρ n (sheet_of p)) (published top ρ n p))
published top ρ n (loop_do_end i p) = (copies (get_or ρ i 0) p, loop_rule ρ i p, copies_sheet (get_or ρ i 0) p)
published top ρ n (while_do_end i p) = while_published top ρ n i p (get_or ρ i 0) refl

-- a program that is left has a step or waits
going : (top : ℕ) (ρ : List ℕ) (n : Counts) (p : Sheet) → Some p → written_of top ρ n p ≡ ended → ⊥
going top ρ n done h e = h
going top ρ n (plus i j c p) h e = low (leb (get_or ρ j 0 + c) top) e
  where
    low : (x : Bool) → if_low x (running (set ρ i (get_or ρ j 0 + c)) p (one_plain n)) ≡ ended → ⊥
    low true e = let z : ◌≡◌ {A = ℕ} 0 1 = cc in omega arith
    low false e = let z : ◌≡◌ {A = ℕ} 0 1 = cc in omega arith
going top ρ n (minus i j c p) h e = let z : ◌≡◌ {A = ℕ} 0 1 = cc in omega arith
going top ρ n (loop i b p) h e = let z : ◌≡◌ {A = ℕ} 0 1 = cc in omega arith
going top ρ n (while i b p) h e = let z : ◌≡◌ {A = ℕ} 0 1 = cc in omega arith

-- two published steps are the same
one_step : (top : ℕ) (ρ ρ' ρ'' : List ℕ) (p : Program) (q r : Left) → RuleStep top ρ p ρ' q → RuleStep top ρ p ρ'' r → (ρ' ≡ ρ'') × (q ≡ r)
one_step top _ _ _ _ _ _ (plus_rule ρ i j c h) (plus_rule _ _ _ _ g) = (refl, refl)
one_step top _ _ _ _ _ _ (minus_rule ρ i j c) (minus_rule _ _ _ _) = (refl, refl)
one_step top _ _ ρ'' _ _ _ (first_ends ρ ρ' p q h) (first_ends _ _ _ _ g) = let s = one_step top ρ ρ' ρ'' p empty empty h g in (s.0, refl)
one_step top _ _ ρ'' _ _ _ (first_ends ρ ρ' p q h) (first_goes_on _ _ _ p'' _ g) =
    let s = one_step top ρ ρ' ρ'' p empty (left p'') h g in let e = s.1 in let z : ◌≡◌ {A = ℕ} 0 1 = cc in absurd (omega arith)
one_step top _ _ ρ'' _ _ _ (first_goes_on ρ ρ' p p' q h) (first_ends _ _ _ _ g) =
    let s = one_step top ρ ρ' ρ'' p (left p') empty h g in let e = s.1 in let z : ◌≡◌ {A = ℕ} 0 1 = cc in absurd (omega arith)
one_step top _ _ ρ'' _ _ _ (first_goes_on ρ ρ' p p' q h) (first_goes_on _ _ _ p'' _ g) =
    let s = one_step top ρ ρ' ρ'' p (left p') (left p'') h g in (s.0, ap (λ (x : Left). before' x q) s.1)
  where
    before' : Left → Program → Left
    before' empty q = left q
    before' (left x) q = left (sequence x q)
one_step top _ _ _ _ _ _ (loop_rule ρ i p) (loop_rule _ _ _) = (refl, refl)
one_step top _ _ _ _ _ _ (while_vanishes ρ i p e) (while_vanishes _ _ _ f) = (refl, refl)
one_step top _ _ _ _ _ _ (while_vanishes ρ i p e) (while_goes_on _ _ _ h) = absurd (h e)
one_step top _ _ _ _ _ _ (while_goes_on ρ i p h) (while_vanishes _ _ _ e) = absurd (h e)
one_step top _ _ _ _ _ _ (while_goes_on ρ i p h) (while_goes_on _ _ _ g) = (refl, refl)

pub written_step_is_published : WrittenStepIsPublished
written_step_is_published top ρ n p =
    record {
      only = λ a e. subst (PublishedBy top ρ p) e (published top ρ n p);
      every = λ ρ' q h. let t = taken top n ρ p ρ' q h in (t.to, t.step, t.registers, t.rest, t.written);
      one = λ ρ' ρ'' q r h g. one_step top ρ ρ' ρ'' p q r h g;
      stops = λ e ρ' q h. let t = taken top n ρ p ρ' q h in let f = t.step in let z : ◌≡◌ {A = ℕ} 0 1 = cc in omega arith;
      goes = λ e. going top ρ n (sheet_of p) (some_program p) e;
    }
