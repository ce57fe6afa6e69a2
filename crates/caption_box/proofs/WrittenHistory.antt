-- A rehearsal takes the steps of the account, and histories of the same course have the same account.
use Rattle.std.proofs.Common.{◌≡◌, ℕ, zero, suc, ◌+◌, ◌-◌, ◌≤◌, Bool, true, false, cond, ltb, leb, List, [], ◌∷◌, length, get_or, take, drop, set, Ok, Err, Result, sym, refl, ap, ◌∙◌, subst, add-zero, arith}
use lib.Seq.{take-set-lt}
use Rattle.std.proofs.lemmas.List.{get_or-take}
use Rattle.reader.specs.declared.types.Refusal.{Refusal}
use Rattle.reader.specs.declared.types.Refusal.TheVariants.{NoRegister, OverTop, SmallStore, ManyInputs, LongTick, LongShow}
use Rattle.reader.specs.Sheet.{Sheet, done, plus, minus, loop, while, then, Fit}
use Rattle.reader.specs.Steps.{Next, went, waits, ended, unfit, if_low, go_on, count_on, many_done}
use Rattle.reader.specs.WrittenRun.{Counts, WrittenRun, running, no_counts, times, one_plain, one_loop, one_while, after_while, written_of, written_step, written_steps}
use Rattle.reader.proofs.Steps.{many_add, many-many_done}
use Rattle.reader.proofs.Counts.{fit_then}
use Rattle.stores.specs.Stores as stores
use Rattle.translator.specs.Following.{Playable}
use Rattle.translator.proofs.Fullest.{fit_times}
use Rattle.caption_box.specs.declared.types.Ticked.{Ticked}
use Rattle.caption_box.specs.Seats.{all_below}
use Rattle.caption_box.specs.Calls.{Scene, Outcome, state_of}
use Rattle.caption_box.specs.History.{History, started, ticked, corrected, rewound, asked, refused, Account, account_start, account_tick, account_correct, account, Past, on_start, on_tick, on_correct, on_rewind, on_ask, on_refusal, between}
use Rattle.caption_box.specs.WrittenCalls.{WrittenScene, written_scene, WrittenOutcome, written_outcome, written_ticks, written_beginning, written_rewinds, written_corrects}
use Rattle.caption_box.specs.WrittenHistory.{WrittenPast, rehearsal_start, rehearsal_tick, rehearsal_correct, rehearsal_rewind, rehearsal_ask, rehearsal_refusal, rehearsal_between, Correction, course_of, RehearsalFollows, RehearsalAndShowAgree}
use Rattle.caption_box.proofs.Low.{start_front}
use Rattle.caption_box.proofs.Holds.{by_tick, by_call, follows}
use Rattle.caption_box.proofs.Cases as show
use Rattle.caption_box.proofs.Cases.{below_31}

-- a run seen on x0 to x31
abbrev trimmed : WrittenRun → WrittenRun
trimmed a = running (take 32 a.registers) a.rest a.counts

abbrev trimmed_next : Next WrittenRun → Next WrittenRun
trimmed_next (went a) = went (trimmed a)
trimmed_next waits = waits
trimmed_next ended = ended
trimmed_next unfit = unfit

low_trimmed : (b : Bool) (a : WrittenRun) → if_low b (trimmed a) ≡ trimmed_next (if_low b a)
low_trimmed true a = refl
low_trimmed false a = refl

-- a step of a fitting sheet sees no more than x0 to x31
step-trimmed : (top : ℕ) (ν : List ℕ) (n : Counts) (p : Sheet) → Fit p → written_of top (take 32 ν) n p ≡ trimmed_next (written_of top ν n p)
step-trimmed top ν n done f = refl
step-trimmed top ν n (plus i j c p) f =
    let e = get_or-take 32 ν j 0 (omega (arith, f.1)) in
    (λ q. if_low (leb (e q + c) top) (running (set (take 32 ν) i (e q + c)) p (one_plain n)))
    ∙ (λ q. if_low (leb (get_or ν j 0 + c) top) (running (sym (take-set-lt 32 ν i (get_or ν j 0 + c) (omega (arith, f.0))) q) p (one_plain n)))
    ∙ low_trimmed (leb (get_or ν j 0 + c) top) (running (set ν i (get_or ν j 0 + c)) p (one_plain n))
step-trimmed top ν n (minus i j c p) f =
    let e = get_or-take 32 ν j 0 (omega (arith, f.1)) in
    (λ q. went (running (set (take 32 ν) i (e q - c)) p (one_plain n)))
    ∙ (λ q. went (running (sym (take-set-lt 32 ν i (get_or ν j 0 - c) (omega (arith, f.0))) q) p (one_plain n)))
step-trimmed top ν n (loop i b p) f =
    let e = get_or-take 32 ν i 0 (omega (arith, f.0)) in
    λ q. went (running (take 32 ν) (times (e q) b p) (one_loop (e q) n))
step-trimmed top ν n (while i b p) f =
    let e = get_or-take 32 ν i 0 (omega (arith, f.0)) in
    ap (λ (v : ℕ). went (after_while v i b p (take 32 ν) n)) e ∙ go (get_or ν i 0)
  where
    go : (v : ℕ) → went (after_while v i b p (take 32 ν) n) ≡ trimmed_next (went (after_while v i b p ν n))
    go zero = refl
    go (suc v) = refl

-- what is left of a fitting sheet fits
low_fit : (b : Bool) (a t : WrittenRun) → Fit a.rest → if_low b a ≡ went t → Fit t.rest
low_fit true a t f e = let q : a ≡ t = cc in subst (λ (x : WrittenRun). Fit x.rest) q f
low_fit false a t f e = let z : ◌≡◌ {A = ℕ} 0 1 = cc in absurd (omega arith)

went_fit : (a t : WrittenRun) → Fit a.rest → went a ≡ went t → Fit t.rest
went_fit a t f e = let q : a ≡ t = cc in subst (λ (x : WrittenRun). Fit x.rest) q f

step_fit : (top : ℕ) (ν : List ℕ) (n : Counts) (p : Sheet) (t : WrittenRun) → Fit p → written_of top ν n p ≡ went t → Fit t.rest
step_fit top ν n done t f e = let z : ◌≡◌ {A = ℕ} 0 1 = cc in absurd (omega arith)
step_fit top ν n (plus i j c p) t f e = low_fit (leb (get_or ν j 0 + c) top) (running (set ν i (get_or ν j 0 + c)) p (one_plain n)) t f.3 e
step_fit top ν n (minus i j c p) t f e = went_fit (running (set ν i (get_or ν j 0 - c)) p (one_plain n)) t f.3 e
step_fit top ν n (loop i b p) t f e = went_fit (running ν (times (get_or ν i 0) b p) (one_loop (get_or ν i 0) n)) t (fit_times (get_or ν i 0) b p f.1 f.2) e
step_fit top ν n (while i b p) t f e = go (get_or ν i 0) e
  where
    go : (v : ℕ) → went (after_while v i b p ν n) ≡ went t → Fit t.rest
    go zero e = went_fit (running ν p (one_plain n)) t f.2 e
    go (suc v) e = went_fit (running ν (then b (while i b p)) (one_while n)) t (fit_then b (while i b p) f.1 f) e

-- many steps
steps_trimmed : (top k : ℕ) (a : WrittenRun) → Fit a.rest → written_steps top k (trimmed a) ≡ trimmed (written_steps top k a)
steps_trimmed top zero a f = refl
steps_trimmed top (suc k) a f =
    ap (λ (o : Next WrittenRun). go_on o (trimmed a) (written_steps top k)) (step-trimmed top a.registers a.counts a.rest f)
    ∙ go (written_step top a) (λ t e. steps_trimmed top k t (step_fit top a.registers a.counts a.rest t f e)) refl
  where
    go : (o : Next WrittenRun) → ((t : WrittenRun) → written_step top a ≡ went t → written_steps top k (trimmed t) ≡ trimmed (written_steps top k t)) → written_step top a ≡ o
        → go_on (trimmed_next o) (trimmed a) (written_steps top k) ≡ trimmed (go_on o a (written_steps top k))
    go (went t) ih e = ih t e
    go waits ih e = refl
    go ended ih e = refl
    go unfit ih e = refl

steps_fit : (top k : ℕ) (a : WrittenRun) → Fit a.rest → Fit (written_steps top k a).rest
steps_fit top zero a f = f
steps_fit top (suc k) a f = go (written_step top a) (λ t e. steps_fit top k t (step_fit top a.registers a.counts a.rest t f e)) refl
  where
    go : (o : Next WrittenRun) → ((t : WrittenRun) → written_step top a ≡ went t → Fit (written_steps top k t).rest) → written_step top a ≡ o → Fit (go_on o a (written_steps top k)).rest
    go (went t) ih e = ih t e
    go waits ih e = f
    go ended ih e = f
    go unfit ih e = f

-- each step is counted
low_counts : (b : Bool) (a t : WrittenRun) (n : ℕ) → a.counts.written ≡ suc n → if_low b a ≡ went t → t.counts.written ≡ suc n
low_counts true a t n h e = let q : a ≡ t = cc in subst (λ (x : WrittenRun). x.counts.written ≡ suc n) q h
low_counts false a t n h e = let z : ◌≡◌ {A = ℕ} 0 1 = cc in absurd (omega arith)

went_counts : (a t : WrittenRun) (n : ℕ) → a.counts.written ≡ suc n → went a ≡ went t → t.counts.written ≡ suc n
went_counts a t n h e = let q : a ≡ t = cc in subst (λ (x : WrittenRun). x.counts.written ≡ suc n) q h

step_counts : (top : ℕ) (ν : List ℕ) (n : Counts) (p : Sheet) (t : WrittenRun) → written_of top ν n p ≡ went t → t.counts.written ≡ suc n.written
step_counts top ν n done t e = let z : ◌≡◌ {A = ℕ} 0 1 = cc in absurd (omega arith)
step_counts top ν n (plus i j c p) t e = low_counts (leb (get_or ν j 0 + c) top) (running (set ν i (get_or ν j 0 + c)) p (one_plain n)) t n.written refl e
step_counts top ν n (minus i j c p) t e = went_counts (running (set ν i (get_or ν j 0 - c)) p (one_plain n)) t n.written refl e
step_counts top ν n (loop i b p) t e = went_counts (running ν (times (get_or ν i 0) b p) (one_loop (get_or ν i 0) n)) t n.written refl e
step_counts top ν n (while i b p) t e = go (get_or ν i 0) e
  where
    go : (v : ℕ) → went (after_while v i b p ν n) ≡ went t → t.counts.written ≡ suc n.written
    go zero e = went_counts (running ν p (one_plain n)) t n.written refl e
    go (suc v) e = went_counts (running ν (then b (while i b p)) (one_while n)) t n.written refl e

steps_count : (top k : ℕ) (a : WrittenRun) → (written_steps top k a).counts.written ≡ a.counts.written + many_done (written_step top) k a
steps_count top zero a = sym (add-zero a.counts.written)
steps_count top (suc k) a = go (written_step top a) (λ t. steps_count top k t) refl
  where
    go : (o : Next WrittenRun) → ((t : WrittenRun) → (written_steps top k t).counts.written ≡ t.counts.written + many_done (written_step top) k t) → written_step top a ≡ o
        → (go_on o a (written_steps top k)).counts.written ≡ a.counts.written + count_on o (many_done (written_step top) k)
    go (went t) ih e = let b = ih t in let c = step_counts top a.registers a.counts a.rest t e in omega arith
    go waits ih e = sym (add-zero a.counts.written)
    go ended ih e = sym (add-zero a.counts.written)
    go unfit ih e = sym (add-zero a.counts.written)

-- to go on to the tally that k steps lead to is to take k steps
to-tally : (top k : ℕ) (a : WrittenRun) → written_steps top ((written_steps top k a).counts.written - a.counts.written) a ≡ written_steps top k a
to-tally top k a =
    let e = steps_count top k a in
    let d : (written_steps top k a).counts.written - a.counts.written ≡ many_done (written_step top) k a = omega arith in
    ap (λ (n : ℕ). written_steps top n a) d ∙ many-many_done (written_step top) k a

-- what the calls come to: a refusal, which changes nothing, or what they do
abbrev ticked_written : WrittenScene → ℕ → WrittenOutcome Ticked
ticked_written x k =
    written_outcome
    (Ok (record { steps = many_done (written_step x.top) k x.run; state = state_of (written_step x.top (written_steps x.top k x.run)) }))
    (written_scene x.sheet x.top (written_steps x.top k x.run))

tick_cases : (x : WrittenScene) (k : ℕ) (Q : WrittenOutcome Ticked → Type 0) → ((e : Refusal) → Q (written_outcome (Err e) x)) → Q (ticked_written x k) → Q (written_ticks x k)
tick_cases x k Q bad good = go (ltb (length x.run.registers) 32) (ltb 4096 k) (ltb 1099511627776 (x.run.counts.written + k))
  where
    go : (a b c : Bool) → Q (cond a (written_outcome (Err SmallStore) x) (cond b (written_outcome (Err LongTick) x) (cond c (written_outcome (Err LongShow) x) (ticked_written x k))))
    go true b c = bad SmallStore
    go false true c = bad LongTick
    go false false true = bad LongShow
    go false false false = good

-- a rehearsal of the sheet p and its account a
record Rehearses (p : Sheet) (x : WrittenScene) (a : WrittenRun) : Type 0 where
  pub same : trimmed x.run ≡ a
  pub sheet : x.sheet ≡ p
  pub fit : Fit x.run.rest

tick_rehearses : (p : Sheet) (x y : WrittenScene) (A : ℕ → Account) (k : ℕ) (t : Ticked) → Rehearses p x (A x.top).run → written_outcome (Ok t) y ≡ written_ticks x k
    → Rehearses p y (account_tick y.top t.steps y.run.counts.written (A y.top)).run
tick_rehearses p x y A k t h e = subst Fine (sym e) (tick_cases x k Fine (λ f. h) good)
  where
    Fine : WrittenOutcome Ticked → Type 0
    Fine o = Rehearses p o.after (by_tick o.after.top o.answer o.after.run.counts.written (A o.after.top)).run

    good : Rehearses p (written_scene x.sheet x.top (written_steps x.top k x.run))
        (written_steps x.top ((written_steps x.top k x.run).counts.written - (A x.top).run.counts.written) (A x.top).run)
    good =
        let trim = steps_trimmed x.top k x.run h.fit in
        record {
          same =
              sym trim
              ∙ sym (to-tally x.top k (trimmed x.run))
              ∙ (λ i. written_steps x.top ((trim i).counts.written - (h.same i).counts.written) (h.same i));
          sheet = h.sheet;
          fit = steps_fit x.top k x.run h.fit;
        }

correct_rehearses : (p : Sheet) (x y : WrittenScene) (A : ℕ → Account) (i v : ℕ) → Rehearses p x (A x.top).run → written_outcome (Ok tt) y ≡ written_corrects x i v
    → Rehearses p y (account_correct i v (A y.top)).run
correct_rehearses p x y A i v h e =
    subst Fine (sym e) (go (ltb (length x.run.registers) 32) (ltb 31 i) refl (ltb i (length x.run.registers)) (leb v x.top))
  where
    Fine : WrittenOutcome (Unit {0}) → Type 0
    Fine o = Rehearses p o.after (by_call o.answer (account_correct i v (A o.after.top)) (A o.after.top)).run

    go : (a b : Bool) → ltb 31 i ≡ b → (c d : Bool)
        → Fine (cond a (written_outcome (Err SmallStore) x) (cond b (written_outcome (Err NoRegister) x)
        (written_outcome (cond c (cond d (Ok tt) (Err OverTop)) (Err NoRegister))
        (written_scene x.sheet x.top (running (cond c (cond d (set x.run.registers i v) x.run.registers) x.run.registers) x.run.rest x.run.counts)))))
    go true b eb c d = h
    go false true eb c d = h
    go false false eb false d = h
    go false false eb true false = h
    go false false eb true true =
        record {
          same = (λ q. running (take-set-lt 32 x.run.registers i v (below_31 i eb) q) x.run.rest x.run.counts)
              ∙ ap (λ (a : WrittenRun). running (set a.registers i v) a.rest a.counts) h.same;
          sheet = h.sheet;
          fit = h.fit;
        }

begins : (p : Sheet) → Playable p → (top : ℕ) (xs ν : List ℕ) (q : Sheet) → q ≡ p → Rehearses p (written_scene q top (written_beginning q xs ν)) (account_start p xs).run
begins p play top xs ν q e =
    subst (λ (r : Sheet). Rehearses p (written_scene r top (written_beginning r xs ν)) (account_start p xs).run) (sym e)
    (record { same = ap (λ (ρ : List ℕ). running ρ p no_counts) (start_front 32 xs (drop 32 ν) (omega arith)); sheet = refl; fit = play.fit })

rewind_rehearses : (p : Sheet) → Playable p → (x y : WrittenScene) (A : ℕ → Account) (xs : List ℕ) → Rehearses p x (A x.top).run → written_outcome (Ok tt) y ≡ written_rewinds x xs
    → Rehearses p y (account_start p xs).run
rewind_rehearses p play x y A xs h e =
    subst Fine (sym e) (go (ltb (length x.run.registers) 32) (ltb 31 (length xs)) (all_below x.top xs))
  where
    Fine : WrittenOutcome (Unit {0}) → Type 0
    Fine o = Rehearses p o.after (by_call o.answer (account_start p xs) (A o.after.top)).run

    go : (a b c : Bool)
        → Fine (cond a (written_outcome (Err SmallStore) x) (cond b (written_outcome (Err ManyInputs) x)
        (cond c (written_outcome (Ok tt) (written_scene x.sheet x.top (written_beginning x.sheet xs x.run.registers))) (written_outcome (Err OverTop) x))))
    go true b c = h
    go false true c = h
    go false false true = begins p play x.top xs x.run.registers x.sheet h.sheet
    go false false false = h

rehearses : (p : Sheet) → Playable p → (h : History) (x : WrittenScene) → WrittenPast p h x → Rehearses p x (account x.top p h).run
rehearses p play _ _ (rehearsal_start top xs ν x ok e) = subst (λ (z : WrittenScene). Rehearses p z (account_start p xs).run) (sym e) (begins p play top xs ν p refl)
rehearses p play _ _ (rehearsal_tick k t h x y past e) = tick_rehearses p x y (λ top. account top p h) k t (rehearses p play h x past) e
rehearses p play _ _ (rehearsal_correct i v h x y past e) = correct_rehearses p x y (λ top. account top p h) i v (rehearses p play h x past) e
rehearses p play _ _ (rehearsal_rewind xs h x y past e) = rewind_rehearses p play x y (λ top. account top p h) xs (rehearses p play h x past) e
rehearses p play _ _ (rehearsal_ask q v h x past e) = rehearses p play h x past
rehearses p play _ _ (rehearsal_refusal c f h x past) = rehearses p play h x past
rehearses p play _ _ (rehearsal_between h x ν past room same) =
    let r = rehearses p play h x past in
    record { same = ap (λ (ρ : List ℕ). running ρ x.run.rest x.run.counts) same ∙ r.same; sheet = r.sheet; fit = r.fit }

pub rehearsal_follows : RehearsalFollows
rehearsal_follows p play h x past = (rehearses p play h x past).same

-- the account came to the tally at each tick of the history
abbrev Reaches : ℕ → Sheet → History → Type 0
Reaches top p (started xs) = Unit {0}
Reaches top p (ticked k t w h) = Reaches top p h × ((account top p (ticked k t w h)).run.counts.written ≡ w)
Reaches top p (corrected i v h) = Reaches top p h
Reaches top p (rewound xs h) = Unit {0}
Reaches top p (asked q v h) = Reaches top p h
Reaches top p (refused c e h) = Reaches top p h

-- the written run of a course
abbrev course_run : ℕ → Sheet → List ℕ → List Correction → ℕ → WrittenRun
course_run top p xs [] n = written_steps top n (account_start p xs).run
course_run top p xs (c ∷ cs) n =
    let a = course_run top p xs cs c.at in
    written_steps top (n - c.at) (running (set a.registers c.register c.value) a.rest a.counts)

-- no correction was made after n steps
abbrev Before : List Correction → ℕ → Type 0
Before [] n = Unit {0}
Before (c ∷ cs) n = c.at ≤ n

-- the run goes on
course_on : (top : ℕ) (p : Sheet) (xs : List ℕ) (cs : List Correction) (n m : ℕ) → Before cs n → n ≤ m
    → written_steps top (m - n) (course_run top p xs cs n) ≡ course_run top p xs cs m
course_on top p xs [] n m b h =
    let e : n + (m - n) ≡ m = omega arith in
    sym (many_add (written_step top) n (m - n) (account_start p xs).run) ∙ ap (λ (k : ℕ). written_steps top k (account_start p xs).run) e
course_on top p xs (c ∷ cs) n m b h =
    let a = course_run top p xs cs c.at in
    let s = running (set a.registers c.register c.value) a.rest a.counts in
    let e : (n - c.at) + (m - n) ≡ m - c.at = omega arith in
    sym (many_add (written_step top) (n - c.at) (m - n) s) ∙ ap (λ (k : ℕ). written_steps top k s) e

-- the account of a history is the run of its course
record Charted (top : ℕ) (p : Sheet) (h : History) : Type 0 where
  pub run : (account top p h).run ≡ course_run top p (course_of h).inputs (course_of h).corrections (course_of h).steps
  pub steps : (account top p h).run.counts.written ≡ (course_of h).steps
  pub before : Before (course_of h).corrections (course_of h).steps

before_later : (cs : List Correction) (n m : ℕ) → Before cs n → n ≤ m → Before cs m
before_later [] n m b h = tt
before_later (c ∷ cs) n m b h = omega arith

charted : (top : ℕ) (p : Sheet) (h : History) → Reaches top p h → Charted top p h
charted top p (started xs) r = record { run = refl; steps = refl; before = tt }
charted top p (ticked k t w h) r =
    let c = charted top p h r.0 in
    let a = (account top p h).run in
    let n = (course_of h).steps in
    let grown = steps_count top (w - a.counts.written) a in
    let here = c.steps in
    let there = r.1 in
    let up : n ≤ w = omega arith in
    record {
      run = (λ i. written_steps top (w - here i) (c.run i)) ∙ course_on top p (course_of h).inputs (course_of h).corrections n w c.before up;
      steps = r.1;
      before = before_later (course_of h).corrections n w c.before up;
    }
charted top p (corrected i v h) r =
    let c = charted top p h r in
    let n = (course_of h).steps in
    let still : n - n ≡ 0 = omega arith in
    let a = course_run top p (course_of h).inputs (course_of h).corrections n in
    let s = running (set a.registers i v) a.rest a.counts in
    record {
      run = ap (λ (b : WrittenRun). running (set b.registers i v) b.rest b.counts) c.run ∙ sym (ap (λ (k : ℕ). written_steps top k s) still);
      steps = c.steps;
      before = omega arith;
    }
charted top p (rewound xs h) r = record { run = refl; steps = refl; before = tt }
charted top p (asked q v h) r = let c = charted top p h r in record { run = c.run; steps = c.steps; before = c.before }
charted top p (refused q e h) r = let c = charted top p h r in record { run = c.run; steps = c.steps; before = c.before }

-- no call changes the top
abbrev Top : {A : Type 0} → ℕ → Outcome A → Type 0
Top top o = o.after.setting.top ≡ top

shown_reaches : (p : Sheet) (h : History) (x : Scene) → Past p h x → Reaches x.setting.top p h
shown_reaches p _ _ (on_start g xs ν x pl low ok e) = tt
shown_reaches p _ _ (on_tick k t h x y past e) =
    let same = subst (Top {A = Ticked} x.setting.top) (sym e) (show.tick_cases x k (Top {A = Ticked} x.setting.top) (λ f. refl) refl) in
    (subst (λ (top : ℕ). Reaches top p h) (sym same) (shown_reaches p h x past), sym (follows p _ y (on_tick k t h x y past e)).agrees.written)
shown_reaches p _ _ (on_correct i v h x y past e) =
    let same = subst (Top {A = Unit {0}} x.setting.top) (sym e) (show.correct_cases x i v (Top {A = Unit {0}} x.setting.top) (λ f. refl) (λ hi hv. refl)) in
    subst (λ (top : ℕ). Reaches top p h) (sym same) (shown_reaches p h x past)
shown_reaches p _ _ (on_rewind xs h x y past e) = tt
shown_reaches p _ _ (on_ask q v h x past e) = shown_reaches p h x past
shown_reaches p _ _ (on_refusal c f h x past) = shown_reaches p h x past
shown_reaches p _ _ (between h x ν past same) = shown_reaches p h x past

abbrev WrittenTop : {A : Type 0} → ℕ → WrittenOutcome A → Type 0
WrittenTop top o = o.after.top ≡ top

corrects_top : (x : WrittenScene) (i v : ℕ) → WrittenTop x.top (written_corrects x i v)
corrects_top x i v = go (ltb (length x.run.registers) 32) (ltb 31 i)
  where
    a : Result (Unit {0}) Refusal
    a = stores.write_of x.run.registers x.top i v

    y : WrittenScene
    y = written_scene x.sheet x.top (running (stores.written_of x.run.registers x.top i v) x.run.rest x.run.counts)

    go : (b c : Bool) → WrittenTop {A = Unit {0}} x.top (cond b (written_outcome (Err SmallStore) x) (cond c (written_outcome (Err NoRegister) x) (written_outcome a y)))
    go true c = refl
    go false true = refl
    go false false = refl

rehearsed_reaches : (p : Sheet) → Playable p → (h : History) (x : WrittenScene) → WrittenPast p h x → Reaches x.top p h
rehearsed_reaches p play _ _ (rehearsal_start top xs ν x ok e) = tt
rehearsed_reaches p play _ _ (rehearsal_tick k t h x y past e) =
    let same = subst (WrittenTop {A = Ticked} x.top) (sym e) (tick_cases x k (WrittenTop {A = Ticked} x.top) (λ f. refl) refl) in (
      subst (λ (top : ℕ). Reaches top p h) (sym same) (rehearsed_reaches p play h x past),
      sym (ap (λ (a : WrittenRun). a.counts.written) (rehearsal_follows p play _ y (rehearsal_tick k t h x y past e))),
    )
rehearsed_reaches p play _ _ (rehearsal_correct i v h x y past e) =
    let same = subst (WrittenTop {A = Unit {0}} x.top) (sym e) (corrects_top x i v) in
    subst (λ (top : ℕ). Reaches top p h) (sym same) (rehearsed_reaches p play h x past)
rehearsed_reaches p play _ _ (rehearsal_rewind xs h x y past e) = tt
rehearsed_reaches p play _ _ (rehearsal_ask q v h x past e) = rehearsed_reaches p play h x past
rehearsed_reaches p play _ _ (rehearsal_refusal c f h x past) = rehearsed_reaches p play h x past
rehearsed_reaches p play _ _ (rehearsal_between h x ν past room same) = rehearsed_reaches p play h x past

pub rehearsal_and_show_agree : RehearsalAndShowAgree
rehearsal_and_show_agree p h k x y past rehearsed top course =
    let f = (follows p h x past).agrees in
    let play = f.plays.playable in
    let there = (charted y.top p k (rehearsed_reaches p play k y rehearsed)).run in
    let here = (charted x.setting.top p h (shown_reaches p h x past)).run in
    let same : (account y.top p k).run ≡ (account x.setting.top p h).run =
    there ∙ (λ i. course_run (top i) p (course i).inputs (course i).corrections (course i).steps) ∙ sym here in
    ap (λ (a : WrittenRun). a.registers) (rehearsal_follows p play k y rehearsed ∙ same) ∙ sym f.registers
