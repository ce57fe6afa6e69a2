-- The box beside the written run: start, steps, corrections, and whole runs.
use Rattle.std.proofs.Common.{◌≡◌, ℕ, zero, suc, ◌+◌, ◌*◌, ◌<◌, ◌≤◌, List, ◌∷◌, take, set, sym, refl, ap, ◌∙◌, subst, le_trans, add-zero, zero-add, arith, get_or-set_other}
use lib.Seq.{take-set-lt}
use Rattle.reader.specs.Sheet.{Sheet, done, then, depth}
use Rattle.reader.specs.Steps.{Next, went, go_on}
use Rattle.reader.specs.WrittenRun.{WrittenRun, running, no_counts, written_step, written_steps}
use Rattle.reader.proofs.WrittenRules.{then_done}
use Rattle.reader.proofs.Spelled.{spelled_some, spelled_whole}
use Rattle.translator.specs.declared.types.Instruction.{Instruction}
use Rattle.translator.specs.JumpCode.{Box, box_start, box_steps}
use Rattle.translator.specs.Counters.{first_counter, sheet_width}
use Rattle.translator.specs.Translation.{compiled}
use Rattle.translator.specs.Standing.{Away, Around, outermost, in_while, in_loop, counters, levels, owed, Spot, before, testing, lowering, Place, Live, rest_of, pending_of, owed_of, quiet, seen, StandsAt, Stands}
use Rattle.translator.specs.Following.{sheet_step, sheet_steps, Halted, silently, as_written, blocked, at_halt, BoxStepIsWrittenOrSilent, DoesNext, BoxKeepsUp, StartStands, SpelledSheetIsPlayable, CorrectionStands, BeyondWidthIsFree, StandingBoxAgrees, StepsAreAccounted, BoxStepsStand, BoxFollowsWritten}
use Rattle.translator.proofs.BoxStep.{run_path, counts_path, tail-set, pending-set, away_low, set_low, set_long, lack-some, silent, wrote, stuck, halted, step, obeys}
use Rattle.translator.proofs.BoxSteps.{goes, Soon, soon, quiet_bound, at-halt, never_unfit}
use Rattle.translator.proofs.Counters.{first_high, ends_above}
use Rattle.translator.proofs.Laid.{at_start}
use Rattle.translator.proofs.Elsewhere.{elsewhere}

pub box_step_is_written : BoxStepIsWrittenOrSilent
box_step_is_written top p s a h =
    elim (step (compiled p) (sheet_width p) (depth p) top s h.spot h.at) [
      | silent t m role e moved at same fall ↦
          silently t role e (moved.written ∙ add-zero s.counts.written) (record { spot = m; at = at; same = h.same ∙ sym same })
      | wrote t m role e moved at next ↦ as_written t (seen t m) role e (ap (written_step top) h.same ∙ next) (record { spot = m; at = at; same = refl })
      | stuck e same ↦ blocked e (ap (written_step top) h.same ∙ same)
      | halted e is ↦
          at_halt e (obeys (compiled p) (sheet_width p) top s e tt) (ap (λ (x : WrittenRun). x.rest) (h.same ∙ ap (seen s) is))
    ]

pub spelled_playable : SpelledSheetIsPlayable
spelled_playable xs p h w = record { some = spelled_some xs p h; whole = spelled_whole xs p h; fit = w.fit }

pub start_stands : StartStands
start_stands top p ν play long low =
    let lacks = lack-some p play.some in
    record {
      spot = before p outermost;
      at = record {
        place = at_start p play.whole play.fit;
        live = tt;
        wide = le_trans first_high (ends_above first_counter p);
        long = long;
        low = low;
        paid = omega arith;
        few = omega arith;
        bound = omega arith;
      };
      same = run_path refl (sym (then_done p)) refl;
    }

-- the counters of a spot, and that a written register is none of them
abbrev spot_counters : Spot → List ℕ
spot_counters (before p k) = counters k
spot_counters (testing c b p k) = c ∷ counters k
spot_counters (lowering c b p k) = c ∷ counters k

away_spot : (code : List Instruction) (n d l x : ℕ) (m : Spot) → x < 32 → Place code n d l m → Away x (spot_counters m)
away_spot code n d l x (before p k) h e = away_low code n d e.0 x k h e.2
away_spot code n d l x (testing c b p k) h e = let high = e.2.counter.high in (λ same. omega arith, away_low code n d e.1 x k h e.3.rest)
away_spot code n d l x (lowering c b p k) h e = let high = e.2.2.counter.high in (λ same. omega arith, away_low code n d e.2.1 x k h e.2.3.rest)

rest_set : (ν : List ℕ) (x v : ℕ) (m : Spot) → Away x (spot_counters m) → rest_of (set ν x v) m ≡ rest_of ν m
rest_set ν x v (before p k) a = ap (then p) (tail-set ν x v k a)
rest_set ν x v (testing c b p k) a = tail-set ν x v (in_loop c b p k) a
rest_set ν x v (lowering c b p k) a = tail-set ν x v (in_loop c b p k) a

pends_set : (ν : List ℕ) (x v : ℕ) (m : Spot) → Away x (spot_counters m) → pending_of (set ν x v) m ≡ pending_of ν m
pends_set ν x v (before p k) a = pending-set ν x v k a
pends_set ν x v (testing c b p k) a = pending-set ν x v (in_loop c b p k) a
pends_set ν x v (lowering c b p k) a = pending-set ν x v (in_loop c b p k) a

live_set : (ν : List ℕ) (x v : ℕ) (m : Spot) → Away x (spot_counters m) → Live ν m → Live (set ν x v) m
live_set ν x v (before p k) a l = tt
live_set ν x v (testing c b p k) a l = tt
live_set ν x v (lowering c b p k) a l = (l.0, get_or-set_other ν x c v 0 (λ e. a.0 (sym e)) ∙ l.1)

pub correction_stands : CorrectionStands
correction_stands top p s a i v hi hv h =
    let at = h.at in
    let m = h.spot in
    let ν = s.registers in
    let i-low : i < 32 = omega arith in
    let away = away_spot (compiled p) (sheet_width p) (depth p) s.label i m i-low at.place in
    record {
      spot = m;
      at = record {
        place = at.place;
        live = live_set ν i v m away at.live;
        wide = at.wide;
        long = set_long (sheet_width p) ν i v at.long;
        low = set_low ν i v top at.low hv;
        paid = at.paid;
        few = at.few;
        bound = at.bound;
      };
      same =
          ap (λ (x : WrittenRun). running (set x.registers i v) x.rest x.counts) h.same
          ∙ run_path (sym (take-set-lt 32 ν i v i-low)) (sym (rest_set ν i v m away)) (counts_path (ap (λ (x : ℕ). s.counts.rounds + x) (sym (pends_set ν i v m away))));
    }

pub beyond_width : BeyondWidthIsFree
beyond_width top p s a ν same long low h =
    let d = elsewhere (compiled p) (sheet_width p) (depth p) top s h.spot ν h.at same long low in
    record { spot = h.spot; at = d.0; same = h.same ∙ sym d.1 }

pub standing_agrees : StandingBoxAgrees
standing_agrees top p s a h =
    let c = compiled p in
    let n = sheet_width p in
    let d = depth p in
    record {
      registers = ap (λ (x : WrittenRun). x.registers) h.same;
      written = ap (λ (x : WrittenRun). x.counts.written) h.same;
      fits = never_unfit c n d top s h.spot h.at;
      ends = λ stop.
          let is = at-halt c n d top s h.spot h.at stop in
          let at = subst (StandsAt c n d top s) is h.at in
          let same = h.same ∙ ap (seen s) is in
          let paid = at.paid in
          let few = at.few in
          let bound = at.bound in
          record {
            rest = ap (λ (x : WrittenRun). x.rest) same;
            counts = ap (λ (x : WrittenRun). x.counts) same ∙ counts_path (add-zero s.counts.rounds);
            formula = omega arith;
            bound = omega arith;
          };
      moves = subst (λ (x : WrittenRun). Soon c n d top s x (box_steps top n c (2 * d + 2) s)) (sym h.same)
          (soon c n d top (2 * d + 2) s h.spot h.at (quiet_bound c n d top s h.spot h.at));
    }

-- each level owes 2 at most
owed-levels : (k : Around) → owed k ≤ 2 * levels k
owed-levels outermost = omega arith
owed-levels (in_while i b p k) = let h = owed-levels k in omega arith
owed-levels (in_loop c b p k) = let h = owed-levels k in omega arith

owed-depth : (code : List Instruction) (n d l : ℕ) (m : Spot) → Place code n d l m → owed_of m ≤ 2 * d
owed-depth code n d l (before p k) e = let h = owed-levels k in let f = e.3 in omega arith
owed-depth code n d l (testing c b p k) e = let h = owed-levels k in let f = e.3.body_deep in omega arith
owed-depth code n d l (lowering c b p k) e = let h = owed-levels k in let f = e.2.3.body_deep in omega arith

pub steps_accounted : StepsAreAccounted
steps_accounted top p s a h =
    record {
      owed = owed_of h.spot;
      account = h.at.paid;
      small = owed-depth (compiled p) (sheet_width p) (depth p) s.label h.spot h.at.place;
    }

pub steps_stand : BoxStepsStand
steps_stand top p s a k h =
    let r = goes (compiled p) (sheet_width p) (depth p) top k s h.spot h.at in
    (r.w, r.written, record { spot = r.spot; at = r.at; same = ap (written_steps top r.w) h.same ∙ r.runs })

pub box_follows : BoxFollowsWritten
box_follows top p ν play long low k =
    let a = running (take 32 ν) p no_counts in
    let s = sheet_steps top p k (box_start ν) in
    let r = steps_stand top p (box_start ν) a k (start_stands top p ν play long low) in
    let e : r.0 ≡ s.counts.written = sym (zero-add r.0) ∙ sym r.1 in
    standing_agrees top p s (written_steps top s.counts.written a) (subst (λ (w : ℕ). Stands top p s (written_steps top w a)) e r.2)

-- after at most q silent steps the box does what the written run comes to next
record Reached (top : ℕ) (p : Sheet) (s : Box) (a : WrittenRun) (q : ℕ) : Type 0 where
  silent : ℕ
  few : silent ≤ q
  stands : Stands top p (sheet_steps top p silent s) a
  next : DoesNext top p (written_step top a) (sheet_steps top p silent s)

-- one silent step first
abbrev after_one : ℕ → Sheet → ℕ → Box → Next Box → Box
after_one top p k s o = go_on o s (sheet_steps top p k)

reach_on : (top : ℕ) (p : Sheet) (s t : Box) (a : WrittenRun) (q : ℕ) → sheet_step top p s ≡ went t → Reached top p t a q → Reached top p s a (suc q)
reach_on top p s t a q e r =
    let back = sym (ap (after_one top p r.silent s) e) in
    let few = r.few in
    record {
      silent = suc r.silent;
      few = omega arith;
      stands = subst (λ (x : Box). Stands top p x a) back r.stands;
      next = subst (DoesNext top p (written_step top a)) back r.next;
    }

-- the next step is no silent one
reach_now : (top : ℕ) (p : Sheet) (s : Box) (m : Spot) (q : ℕ) → StandsAt (compiled p) (sheet_width p) (depth p) top s m
    → DoesNext top p (written_step top (seen s m)) s → Reached top p s (seen s m) q
reach_now top p s m q at next = record { silent = 0; few = omega arith; stands = record { spot = m; at = at; same = refl }; next = next }

reach_wrote : (top : ℕ) (p : Sheet) (s t : Box) (m m' : Spot) → sheet_step top p s ≡ went t → StandsAt (compiled p) (sheet_width p) (depth p) top t m'
    → written_step top (seen s m) ≡ went (seen t m') → DoesNext top p (written_step top (seen s m)) s
reach_wrote top p s t m m' e at next = subst (λ (o : Next WrittenRun). DoesNext top p o s) (sym next) (t, e, record { spot = m'; at = at; same = refl })

reach_halted : (top : ℕ) (p : Sheet) (s : Box) (m : Spot) → Halted p s → m ≡ before done outermost → DoesNext top p (written_step top (seen s m)) s
reach_halted top p s m e is = subst (λ (x : Spot). DoesNext top p (written_step top (seen s x)) s) (sym is) e

reach : (top : ℕ) (p : Sheet) (q : ℕ) (s : Box) (m : Spot) → StandsAt (compiled p) (sheet_width p) (depth p) top s m → quiet m ≤ q → Reached top p s (seen s m) q
reach top p zero s m at h =
    elim (step (compiled p) (sheet_width p) (depth p) top s m at) [
      | silent t m' role e moved at' same fall ↦ absurd (omega arith)
      | wrote t m' role e moved at' next ↦ reach_now top p s m 0 at (reach_wrote top p s t m m' e at' next)
      | stuck e same ↦ reach_now top p s m 0 at (subst (λ (o : Next WrittenRun). DoesNext top p o s) (sym same) e)
      | halted e is ↦ reach_now top p s m 0 at (reach_halted top p s m e is)
    ]
reach top p (suc q) s m at h =
    elim (step (compiled p) (sheet_width p) (depth p) top s m at) [
      | silent t m' role e moved at' same fall ↦
          reach_on top p s t (seen s m) q e (subst (λ (x : WrittenRun). Reached top p t x q) same (reach top p q t m' at' (omega arith)))
      | wrote t m' role e moved at' next ↦ reach_now top p s m (suc q) at (reach_wrote top p s t m m' e at' next)
      | stuck e same ↦ reach_now top p s m (suc q) at (subst (λ (o : Next WrittenRun). DoesNext top p o s) (sym same) e)
      | halted e is ↦ reach_now top p s m (suc q) at (reach_halted top p s m e is)
    ]

pub box_keeps_up : BoxKeepsUp
box_keeps_up top p s a h =
    let low = quiet_bound (compiled p) (sheet_width p) (depth p) top s h.spot h.at in
    let r = subst (λ (x : WrittenRun). Reached top p s x (2 * depth p + 1)) (sym h.same) (reach top p (2 * depth p + 1) s h.spot h.at (omega arith)) in
    record { silent = r.silent; few = r.few; stands = r.stands; next = r.next }
