-- The claim holds after any history.
use Rattle.std.proofs.Common.{◌≡◌, ℕ, ◌+◌, ◌-◌, ◌*◌, ◌<◌, ◌≤◌, Bool, true, false, cond, T, ltb, List, ◌++◌, length, take, drop, set, Ok, Err, Result, sym, refl, ap, ◌∙◌, subst, arith, length-append}
use Rattle.reader.specs.declared.types.Refusal.{Refusal}
use Rattle.reader.specs.declared.types.Refusal.TheVariants.{SmallStore, ManyInputs, OverTop}
use Rattle.reader.specs.Sheet.{Sheet, depth}
use Rattle.reader.specs.WrittenRun.{running, no_counts, written_steps}
use Rattle.translator.specs.JumpCode.{Box, box_start}
use Rattle.translator.specs.Counters.{sheet_width}
use Rattle.translator.specs.Translation.{compiled}
use Rattle.translator.specs.Standing.{Stands}
use Rattle.translator.specs.Following.{Playable, Low, over}
use Rattle.translator.proofs.Following.{start_stands, correction_stands, beyond_width, standing_agrees, steps_stand}
use Rattle.caption_box.specs.declared.types.Ticked.{Ticked}
use Rattle.caption_box.specs.Seats.{all_below, entered}
use Rattle.caption_box.specs.Calls.{Setting, setting, Scene, scene, Outcome, outcome, tick_box, tick_steps, largest_tally, ticks, seats, beginning, rewinds, corrects}
use Rattle.caption_box.specs.History.{History, Account, account_start, account_tick, account_correct, account, Plays, SameBelow, Past, on_start, on_tick, on_correct, on_rewind, on_ask, on_refusal, between}
use Rattle.caption_box.specs.Claim.{Agrees, Follows}
use Rattle.caption_box.proofs.Low.{low_start, start_length, start_front}
use Rattle.caption_box.proofs.Going.{tick_even, tick_adds}
use Rattle.caption_box.proofs.GotoRuns.{tick_runs}
use Rattle.caption_box.proofs.Cases.{tick_cases, correct_cases, rewind_cases}

-- the setting of a sheet
abbrev home : Sheet → ℕ → Setting
home p top = setting (compiled p) (sheet_width p) top

-- a show and its account stand together
record Together (top : ℕ) (p : Sheet) (s : Box) (a : Account) : Type 0 where
  pub stands : Stands top p s a.run
  pub steps : a.steps ≡ s.steps

starts : (top : ℕ) (p : Sheet) → Playable p → (xs ν : List ℕ) → all_below top xs ≡ true → Low top ν → Together top p (beginning (home p top) xs ν) (account_start p xs)
starts top p play xs ν t low =
    let n = sheet_width p in
    let ν' = entered n xs ++ drop n ν in
    let long = start_length n xs in
    let both = length-append (entered n xs) (drop n ν) in
    record {
      stands = subst (λ (ρ : List ℕ). Stands top p (box_start ν') (running ρ p no_counts)) (start_front n xs (drop n ν) (omega arith))
          (start_stands top p ν' play (omega arith) (low_start top n xs ν (subst T (sym t) tt) low));
      steps = refl;
    }

ticks_on : (top : ℕ) (p : Sheet) (s : Box) (a : Account) (k : ℕ) → Together top p s a
    → Together top p (tick_box (home p top) k s) (account_tick top (tick_steps (home p top) k s) (tick_box (home p top) k s).counts.written a)
unfolding tick_box tick_steps
ticks_on top p s a k h =
    let r = steps_stand top p s a.run k h.stands in
    let s' = tick_box (home p top) k s in
    let adds = tick_adds (home p top) k s in
    let written = (standing_agrees top p s a.run h.stands).written in
    let tally = r.1 in
    let same = h.steps in
    let more : s'.counts.written - a.run.counts.written ≡ r.0 = omega arith in
    record {
      stands = subst (λ (w : ℕ). Stands top p s' (written_steps top w a.run)) (sym more) r.2;
      steps = omega arith;
    }

corrects_on : (top : ℕ) (p : Sheet) (s : Box) (a : Account) (i v : ℕ) → i < 32 → v ≤ top → Together top p s a
    → Together top p (over s (set s.registers i v)) (account_correct i v a)
corrects_on top p s a i v hi hv h =
    record { stands = correction_stands top p s a.run i v (omega arith) hv h.stands; steps = h.steps }

-- the account after a call, by its answer
abbrev pub by_tick : ℕ → Result Ticked Refusal → ℕ → Account → Account
by_tick top (Ok t) w a = account_tick top t.steps w a
by_tick top (Err e) w a = a

abbrev pub by_call : Result (Unit {0}) Refusal → Account → Account → Account
by_call (Ok u) a b = a
by_call (Err e) a b = b

-- the inputs of a start that is done are not above the top
seats_low : (g : Setting) (ν xs : List ℕ) → seats g.need g.top ν xs ≡ Ok tt → all_below g.top xs ≡ true
seats_low g ν xs e = go (ltb (length ν) g.need) (ltb 31 (length xs)) (all_below g.top xs) e
  where
    go : (x y z : Bool) → ◌≡◌ {A = Result (Unit {0}) Refusal} (cond x (Err SmallStore) (cond y (Err ManyInputs) (cond z (Ok tt) (Err OverTop)))) (Ok tt) → z ≡ true
    go true y z e = let q : ◌≡◌ {A = ℕ} 0 1 = cc in absurd (omega arith)
    go false true z e = let q : ◌≡◌ {A = ℕ} 0 1 = cc in absurd (omega arith)
    go false false true e = refl
    go false false false e = let q : ◌≡◌ {A = ℕ} 0 1 = cc in absurd (omega arith)

-- the code of a history is the sheet's
plays : (p : Sheet) (h : History) (x : Scene) → Past p h x → Plays p x.setting
plays p _ _ (on_start g xs ν x pl low ok e) = subst (λ (z : Scene). Plays p z.setting) (sym e) pl
plays p _ _ (on_tick k t h x y past e) =
    let b = plays p h x past in
    subst (λ (o : Outcome Ticked). Plays p o.after.setting) (sym e) (tick_cases x k (λ o. Plays p o.after.setting) (λ f. b) b)
plays p _ _ (on_correct i v h x y past e) =
    let b = plays p h x past in
    subst (λ (o : Outcome (Unit {0})). Plays p o.after.setting) (sym e) (correct_cases x i v (λ o. Plays p o.after.setting) (λ f. b) (λ hi hv. b))
plays p _ _ (on_rewind xs h x y past e) =
    let b = plays p h x past in
    subst (λ (o : Outcome (Unit {0})). Plays p o.after.setting) (sym e) (rewind_cases x xs (λ o. Plays p o.after.setting) (λ f. b) (λ ok. b))
plays p _ _ (on_ask q v h x past e) = plays p h x past
plays p _ _ (on_refusal c f h x past) = plays p h x past
plays p _ _ (between h x ν past same) = plays p h x past

at_home : (p : Sheet) (g : Setting) → Plays p g → g ≡ home p g.top
at_home p g pl = λ i. setting (pl.code i) (pl.need i) g.top

tick_carried : (p : Sheet) (x y : Scene) (A : ℕ → Account) (k : ℕ) (t : Ticked) → Plays p x.setting → Together x.setting.top p x.box (A x.setting.top)
    → outcome (Ok t) y ≡ ticks x k → Together y.setting.top p y.box (account_tick y.setting.top t.steps y.box.counts.written (A y.setting.top))
tick_carried p x y A k t pl h e =
    let there = scene (home p x.setting.top) x.box in
    let e' : outcome (Ok t) y ≡ ticks there k = e ∙ ap (λ (g : Setting). ticks (scene g x.box) k) (at_home p x.setting pl) in
    subst Fine (sym e') (tick_cases there k Fine (λ f. h) (ticks_on x.setting.top p x.box (A x.setting.top) k h))
  where
    Fine : Outcome Ticked → Type 0
    Fine o = Together o.after.setting.top p o.after.box (by_tick o.after.setting.top o.answer o.after.box.counts.written (A o.after.setting.top))

correct_carried : (p : Sheet) (x y : Scene) (A : ℕ → Account) (i v : ℕ) → Together x.setting.top p x.box (A x.setting.top)
    → outcome (Ok tt) y ≡ corrects x i v → Together y.setting.top p y.box (account_correct i v (A y.setting.top))
correct_carried p x y A i v h e =
    subst Fine (sym e) (correct_cases x i v Fine (λ f. h) (λ hi hv. corrects_on x.setting.top p x.box (A x.setting.top) i v hi hv h))
  where
    Fine : Outcome (Unit {0}) → Type 0
    Fine o = Together o.after.setting.top p o.after.box (by_call o.answer (account_correct i v (A o.after.setting.top)) (A o.after.setting.top))

rewind_carried : (p : Sheet) (x y : Scene) (A : ℕ → Account) (xs : List ℕ) → Plays p x.setting → Together x.setting.top p x.box (A x.setting.top)
    → outcome (Ok tt) y ≡ rewinds x xs → Together y.setting.top p y.box (account_start p xs)
rewind_carried p x y A xs pl h e =
    let there = scene (home p x.setting.top) x.box in
    let e' : outcome (Ok tt) y ≡ rewinds there xs = e ∙ ap (λ (g : Setting). rewinds (scene g x.box) xs) (at_home p x.setting pl) in
    subst Fine (sym e') (rewind_cases there xs Fine (λ f. h) (λ ok. starts x.setting.top p pl.playable xs x.box.registers ok h.stands.at.low))
  where
    Fine : Outcome (Unit {0}) → Type 0
    Fine o = Together o.after.setting.top p o.after.box (by_call o.answer (account_start p xs) (A o.after.setting.top))

between_carried : (p : Sheet) (x : Scene) (a : Account) (ν : List ℕ) → Plays p x.setting → Together x.setting.top p x.box a → SameBelow x ν
    → Together x.setting.top p (over x.box ν) a
between_carried p x a ν pl h same =
    let r : take (sheet_width p) ν ≡ take (sheet_width p) x.box.registers = subst (λ (m : ℕ). take m ν ≡ take m x.box.registers) pl.need same.registers in
    let l : sheet_width p ≤ length ν = subst (λ (m : ℕ). m ≤ length ν) pl.need same.room in
    record { stands = beyond_width x.setting.top p x.box a.run ν r l same.low h.stands; steps = h.steps }

together : (p : Sheet) (h : History) (x : Scene) → Past p h x → Together x.setting.top p x.box (account x.setting.top p h)
together p _ _ (on_start g xs ν x pl low ok e) =
    subst (λ (z : Scene). Together z.setting.top p z.box (account_start p xs)) (sym (e ∙ ap (λ (z : Setting). scene z (beginning z xs ν)) (at_home p g pl)))
    (starts g.top p pl.playable xs ν (seats_low g ν xs ok) low)
together p _ _ (on_tick k t h x y past e) = tick_carried p x y (λ top. account top p h) k t (plays p h x past) (together p h x past) e
together p _ _ (on_correct i v h x y past e) = correct_carried p x y (λ top. account top p h) i v (together p h x past) e
together p _ _ (on_rewind xs h x y past e) = rewind_carried p x y (λ top. account top p h) xs (plays p h x past) (together p h x past) e
together p _ _ (on_ask q v h x past e) = together p h x past
together p _ _ (on_refusal c f h x past) = together p h x past
together p _ _ (between h x ν past same) = between_carried p x (account x.setting.top p h) ν (plays p h x past) (together p h x past) same

-- no tally is above the box steps
abbrev Even : Scene → Type 0
Even x = largest_tally x.box ≡ x.box.steps

even : (p : Sheet) (h : History) (x : Scene) → Past p h x → Even x
even p _ _ (on_start g xs ν x pl low ok e) = subst Even (sym e) refl
even p _ _ (on_tick k t h x y past e) =
    let b = even p h x past in
    subst (λ (o : Outcome Ticked). Even o.after) (sym e) (tick_cases x k (λ o. Even o.after) (λ f. b) (tick_even x.setting k x.box b))
even p _ _ (on_correct i v h x y past e) =
    let b = even p h x past in
    subst (λ (o : Outcome (Unit {0})). Even o.after) (sym e) (correct_cases x i v (λ o. Even o.after) (λ f. b) (λ hi hv. b))
even p _ _ (on_rewind xs h x y past e) =
    let b = even p h x past in
    subst (λ (o : Outcome (Unit {0})). Even o.after) (sym e) (rewind_cases x xs (λ o. Even o.after) (λ f. b) (λ ok. refl))
even p _ _ (on_ask q v h x past e) = even p h x past
even p _ _ (on_refusal c f h x past) = even p h x past
even p _ _ (between h x ν past same) = even p h x past

agrees_home : (top : ℕ) (p : Sheet) (s : Box) (a : Account) → Plays p (home p top) → Together top p s a → largest_tally s ≡ s.steps → Agrees p (home p top) s a
unfolding tick_box
agrees_home top p s a pl h big =
    let r = standing_agrees top p s a.run h.stands in
    record {
      registers = sym r.registers;
      written = sym r.written;
      steps = sym h.steps;
      ends = r.ends;
      goes = tick_runs (home p top) (2 * depth p + 2) s;
      moves = r.moves;
      plays = pl;
      fits = r.fits;
      largest = big;
    }

pub follows : (p : Sheet) (h : History) (x : Scene) → Past p h x → Follows p h x
follows p h x past =
    let pl = plays p h x past in
    let e = at_home p x.setting pl in
    record {
      past = past;
      agrees = subst (λ (g : Setting). Agrees p g x.box (account x.setting.top p h)) (sym e)
          (agrees_home x.setting.top p x.box (account x.setting.top p h) (subst (Plays p) e pl) (together p h x past) (even p h x past));
    }
