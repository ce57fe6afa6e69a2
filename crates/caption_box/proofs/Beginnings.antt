-- The beginning of a rehearsal: what start and rewind make of a seating.
use Rattle.std.proofs.Common.{◌≡◌, ℕ, Bool, true, false, cond, ltb, List, [], length, Ok, Err, Result, IfOk, MatchResult, sym, refl, ap, ◌∙◌, subst, inr, arith}
use Rattle.std.specs.Result.{result_and}
use Rattle.reader.specs.declared.types.Refusal.{Refusal}
use Rattle.reader.specs.declared.types.Refusal.TheVariants.{SmallStore, ManyInputs, OverTop}
use Rattle.reader.specs.Sheet.{Sheet}
use Rattle.reader.specs.WrittenRun.{Counts, running, no_counts}
use Rattle.reader.specs.Checks.{IsSheet}
use Rattle.reader.proofs.Spans.{sheet_span}
use Rattle.caption_box.specs.declared.rehearsal.Rehearsal.{Rehearsal}
use Rattle.caption_box.specs.declared.rehearsal.walking.Position.{Position}
use Rattle.caption_box.specs.declared.rehearsal.counting.WrittenTallies.{WrittenTallies}
use Rattle.caption_box.specs.Seats.{all_below}
use Rattle.caption_box.specs.Calls.{seats, seated}
use Rattle.caption_box.specs.Rests.{Recs, levels_of, position_of, rest_in, rest_of, Stands}
use Rattle.caption_box.specs.WrittenSteps.{written_counts, Counted}
use Rattle.caption_box.specs.WrittenCalls.{WrittenScene, written_scene, WrittenOutcome, written_outcome, written_beginning, written_rewinds}
use Rattle.caption_box.specs.Rehearsals.{records_of, whole_of, written_scene_of, WrittenStarted, WrittenUnstarted}
use Rattle.caption_box.proofs.Levels.{begins}
use Rattle.caption_box.proofs.Told.{rehearsed}
use Rattle.caption_box.proofs.Seats.{seated_done, seated_kept}

-- what a rewind answers is what the seating answered
rewinds_done : (x : WrittenScene) (xs : List ℕ) → seats 32 x.top x.run.registers xs ≡ Ok tt
    → written_rewinds x xs ≡ written_outcome (Ok tt) (written_scene x.sheet x.top (written_beginning x.sheet xs x.run.registers))
rewinds_done x xs ok = go (ltb (length x.run.registers) 32) (ltb 31 (length xs)) (all_below x.top xs) (written_scene x.sheet x.top (written_beginning x.sheet xs x.run.registers)) ok
  where
    go : (a b c : Bool) (y : WrittenScene) → ◌≡◌ {A = Result (Unit {0}) Refusal} (cond a (Err SmallStore) (cond b (Err ManyInputs) (cond c (Ok tt) (Err OverTop)))) (Ok tt)
        → ◌≡◌ {A = WrittenOutcome (Unit {0})}
        (cond a (written_outcome (Err SmallStore) x) (cond b (written_outcome (Err ManyInputs) x) (cond c (written_outcome (Ok tt) y) (written_outcome (Err OverTop) x))))
        (written_outcome (Ok tt) y)
    go true b c y e = let q : ◌≡◌ {A = ℕ} 0 1 = cc in absurd (omega arith)
    go false true c y e = let q : ◌≡◌ {A = ℕ} 0 1 = cc in absurd (omega arith)
    go false false true y e = refl
    go false false false y e = let q : ◌≡◌ {A = ℕ} 0 1 = cc in absurd (omega arith)

rewinds_kept : (x : WrittenScene) (xs : List ℕ) (f : Refusal) → seats 32 x.top x.run.registers xs ≡ Err f → written_rewinds x xs ≡ written_outcome (Err f) x
rewinds_kept x xs f bad = go (ltb (length x.run.registers) 32) (ltb 31 (length xs)) (all_below x.top xs) (written_scene x.sheet x.top (written_beginning x.sheet xs x.run.registers)) bad
  where
    go : (a b c : Bool) (y : WrittenScene) → ◌≡◌ {A = Result (Unit {0}) Refusal} (cond a (Err SmallStore) (cond b (Err ManyInputs) (cond c (Ok tt) (Err OverTop)))) (Err f)
        → ◌≡◌ {A = WrittenOutcome (Unit {0})}
        (cond a (written_outcome (Err SmallStore) x) (cond b (written_outcome (Err ManyInputs) x) (cond c (written_outcome (Ok tt) y) (written_outcome (Err OverTop) x))))
        (written_outcome (Err f) x)
    go true b c y e = ap (λ (r : Result (Unit {0}) Refusal). written_outcome r x) e
    go false true c y e = ap (λ (r : Result (Unit {0}) Refusal). written_outcome r x) e
    go false false true y e = let q : ◌≡◌ {A = ℕ} 0 1 = cc in absurd (omega arith)
    go false false false y e = ap (λ (r : Result (Unit {0}) Refusal). written_outcome r x) e

none-counted : (n : Counts) → n ≡ no_counts → Counted n
none-counted n e = subst Counted (sym e) (record { steps = omega arith; entered = omega arith; whiles = omega arith; rounds = omega arith })

-- before the first statement, with clear tallies
module _ (rs : Recs) (p : Position) (t : WrittenTallies) (index : p.at ≡ 0) (levels : levels_of p ≡ []) (clear : written_counts t ≡ no_counts) where
  position_is : p ≡ position_of 0 []
  position_is i = position_of (index i) (levels i)

  pub first_stands : IsSheet rs → Stands rs p
  first_stands h = subst (Stands rs) (sym position_is) (begins rs h).0

  pub first_counted : Counted (written_counts t)
  first_counted = none-counted (written_counts t) clear

  rest_is : rest_of rs p ≡ whole_of rs
  unfolding rest_in
  rest_is = ap (rest_of rs) position_is

  -- on numbers that were seated with n registers
  module _ (top top' : ℕ) (ν ν' xs : List ℕ) (ok : seats 32 top ν xs ≡ Ok tt) (en : ν' ≡ seated 32 top ν xs) (et : top' ≡ top) where
    begun : written_scene (whole_of rs) top' (running ν' (rest_of rs p) (written_counts t)) ≡ written_scene (whole_of rs) top (written_beginning (whole_of rs) xs ν)
    begun = let en' = en ∙ seated_done 32 top ν xs ok in λ i. written_scene (whole_of rs) (et i) (running (en' i) (rest_is i) (clear i))

    pub rehearsal_rewound : (s : Rehearsal) → records_of s ≡ rs
        → written_outcome (Ok tt) (written_scene (whole_of rs) top' (running ν' (rest_of rs p) (written_counts t))) ≡ written_rewinds (written_scene_of s ν top) xs
    rehearsal_rewound s same =
        ap (written_outcome (Ok tt)) (begun ∙ sym (ap (λ (l : Recs). written_scene (whole_of l) top (written_beginning (whole_of l) xs ν)) same))
        ∙ sym (rewinds_done (written_scene_of s ν top) xs ok)

rehearsal_started : (s : Rehearsal) → s.position.at ≡ 0 → levels_of s.position ≡ [] → written_counts s.tallies ≡ no_counts → (top top' : ℕ) (ν ν' xs : List ℕ) → seats 32 top ν xs ≡ Ok tt → ν' ≡ seated 32 top ν xs → top' ≡ top
    → WrittenStarted (records_of s) top ν xs s (written_scene_of s ν' top')
rehearsal_started s index levels clear top top' ν ν' xs ok en et =
    record {
      rehearsed = rehearsed s;
      seated = ok;
      scene = λ g. begun (records_of s) s.position s.tallies index levels clear top top' ν ν' xs ok en et
          ∙ ap (λ (p : Sheet). written_scene p top (written_beginning p xs ν)) (sheet_span (records_of s) g);
    }

-- a seating that is refused
module _ (top top' : ℕ) (ν ν' xs : List ℕ) (f : Refusal) (bad : seats 32 top ν xs ≡ Err f) (en : ν' ≡ seated 32 top ν xs) (et : top' ≡ top) where
  kept : ν' ≡ ν
  kept = en ∙ seated_kept 32 top ν xs f bad

  pub rehearsal_unrewound : (r : Result (Unit {0}) Refusal) → r ≡ Err f → (s : Rehearsal) → written_outcome r (written_scene_of s ν' top') ≡ written_rewinds (written_scene_of s ν top) xs
  rehearsal_unrewound r e s = (λ i. written_outcome (e i) (written_scene_of s (kept i) (et i))) ∙ sym (rewinds_kept (written_scene_of s ν top) xs f bad)

  pub rehearsal_unstarted : (rs : Recs) → IsSheet rs → WrittenUnstarted rs top ν xs f ν'
  rehearsal_unstarted rs h = record { refused = inr (h, bad); numbers = kept }

-- what a start comes to, by what the seating answered
pub started_same : (s : Rehearsal) (r : Result (Unit {0}) Refusal) → IfOk (result_and r (Ok s)) (λ (t : Rehearsal). t.records ≡ s.records)
started_same s (Ok x) = refl
started_same s (Err e) = tt

pub started_told : (s : Rehearsal) → s.position.at ≡ 0 → levels_of s.position ≡ [] → written_counts s.tallies ≡ no_counts → (top top' : ℕ) (ν ν' xs : List ℕ) (r : Result (Unit {0}) Refusal)
    → r ≡ seats 32 top ν xs → ν' ≡ seated 32 top ν xs → top' ≡ top
    → MatchResult (result_and r (Ok s)) (λ t. WrittenStarted (records_of s) top ν xs t (written_scene_of t ν' top')) (λ e. WrittenUnstarted (records_of s) top ν xs e ν')
started_told s index levels clear top top' ν ν' xs (Ok x) er en et = rehearsal_started s index levels clear top top' ν ν' xs (sym er) en et
started_told s index levels clear top top' ν ν' xs (Err e) er en et = rehearsal_unstarted top top' ν ν' xs e (sym er) en et (records_of s) (rehearsed s).sheet
