-- The pieces of a written step make the step of the written run.
use Rattle.std.proofs.Common.{◌≡◌, ℕ, zero, suc, ◌+◌, ◌<◌, ◌≤◌, Bool, true, false, cond, leb, List, length, sym, refl, ap, ◌∙◌, subst, ⊎_elim, arith}
use Rattle.std.proofs.lemmas.Bool.{cases_lt, lt-ltb}
use Rattle.reader.specs.declared.types.Statement.{Statement}
use Rattle.reader.specs.declared.types.Kind.{Kind}
use Rattle.reader.specs.declared.types.Kind.TheVariants.{Zero, Plus, Minus, Loop, While}
use Rattle.reader.specs.Sheet.{Sheet, done}
use Rattle.reader.specs.Steps.{Next, went, if_low}
use Rattle.reader.specs.WrittenRun.{Counts, WrittenRun, running, after_while, written_of, written_step}
use Rattle.reader.specs.Checks.{at, span, sheet_of, IsSheet}
use Rattle.reader.proofs.Spans.{span_none}
use Rattle.caption_box.specs.declared.types.State.{State}
use Rattle.caption_box.specs.declared.types.State.TheVariants.{Ended, Over, Time}
use Rattle.caption_box.specs.declared.rehearsal.walking.Position.{Position}
use Rattle.caption_box.specs.declared.rehearsal.counting.WrittenTallies.{WrittenTallies}
use Rattle.caption_box.specs.declared.rehearsal.Rehearsal.{Rehearsal}
use Rattle.caption_box.specs.Calls.{state_of, onward}
use Rattle.caption_box.specs.Rests.{Recs, levels_of, depth_of, rest_in, rest_of, body_end, Stands, Held, leaves, leaves_while, rest_behind, rest_after, Reaches}
use Rattle.caption_box.specs.WrittenSteps.{written_counts, found_in, kind_fate, written_fate, written_stored, counted_while, written_counted, Counted}
use Rattle.caption_box.specs.Rehearsals.{records_of, run_of, Stepped}
use Rattle.caption_box.proofs.Fines.{Real, fines}
use Rattle.caption_box.proofs.Levels.{ends, rest_here, stands_within, at_within}
use Rattle.caption_box.proofs.Leaving.{record_past}
use Rattle.caption_box.proofs.ManySteps.{stayed}
use Rattle.caption_box.proofs.Told.{rehearsed}

low_state : (b : Bool) (w : WrittenRun) → state_of (if_low b w) ≡ cond b Time Over
low_state true w = refl
low_state false w = refl

-- a statement with its body b, and p behind it, by its kind: how the run stands before it
kind_state : (k : Kind) (top : ℕ) (ν : List ℕ) (n : Counts) (s : Statement) (b p : Sheet) → Real k → kind_fate k top ν s ≡ state_of (written_of top ν n (sheet_of k s b p))
kind_state Zero top ν n s b p r = absurd r
kind_state Plus top ν n s b p r = sym (low_state (leb (found_in ν s + s.constant) top) _)
kind_state Minus top ν n s b p r = refl
kind_state Loop top ν n s b p r = refl
kind_state While top ν n s b p r = refl

low_time : (b : Bool) (w : WrittenRun) → cond b Time Over ≡ Time → if_low b w ≡ went w
low_time true w e = refl
low_time false w e = let z : ◌≡◌ {A = ℕ} 0 1 = cc in let y : ⊥ = omega arith in absurd y

while_went : (v i : ℕ) (ν : List ℕ) (n : Counts) (b p : Sheet) → after_while v i b p ν n ≡ running ν (leaves_while v i b p) (counted_while v n)
while_went zero i ν n b p = refl
while_went (suc v) i ν n b p = refl

-- and what its step comes to
kind_went : (k : Kind) (top : ℕ) (ν : List ℕ) (n : Counts) (s : Statement) (b p : Sheet) → kind_fate k top ν s ≡ Time
    → written_of top ν n (sheet_of k s b p) ≡ went (running (written_stored k ν s) (leaves k (found_in ν s) s.source b p) (written_counted k (found_in ν s) n))
kind_went Zero top ν n s b p e = let z : ◌≡◌ {A = ℕ} 0 1 = cc in let y : ⊥ = omega arith in absurd y
kind_went Plus top ν n s b p e = low_time (leb (found_in ν s + s.constant) top) _ e
kind_went Minus top ν n s b p e = refl
kind_went Loop top ν n s b p e = refl
kind_went While top ν n s b p e = ap went (while_went (found_in ν s) s.source ν n b p)

-- registers of a sheet are x0 to x31
fit_fate : (top : ℕ) (ν : List ℕ) (s : Statement) → s.target ≤ 31 → s.source ≤ 31 → written_fate top ν s ≡ kind_fate s.kind top ν s
fit_fate top ν s t u = rw (lt-ltb s.target 32 (omega arith), lt-ltb s.source 32 (omega arith)) refl

rest_ended : (rs : Recs) → IsSheet rs → (p : Position) → Stands rs p → length rs ≤ p.at → rest_of rs p ≡ done
unfolding rest_in
rest_ended rs h p s le =
    ⊎_elim
    (λ (b : p.at < body_end rs (levels_of p) (depth_of p)). let z : ⊥ = omega (arith, b, ends rs (fines rs h) (levels_of p) (depth_of p) p.at s.inside) in absurd z)
    (λ (b : (depth_of p ≡ 0) × (p.at ≡ length rs)). ap (λ (d : ℕ). rest_in rs (levels_of p) d p.at) b.0 ∙ span_none rs p.at (length rs) le)
    s.before

rest_held : (rs : Recs) → IsSheet rs → (p : Position) → Held rs p
    → rest_of rs p ≡ sheet_of (at rs p.at).kind (at rs p.at) (span rs (suc p.at) (at rs p.at).end) (rest_behind rs p)
rest_held rs h p w =
    let n = at_within rs (fines rs h) p w in
    rest_here rs (levels_of p) (depth_of p) p.at w.before n (fines rs h p.at n)

-- the record at the position tells how the run stands
pub fate_told : (rs : Recs) → IsSheet rs → (p : Position) → Stands rs p → (top : ℕ) (ν : List ℕ) (n : Counts)
    → written_fate top ν (at rs p.at) ≡ state_of (written_of top ν n (rest_of rs p))
fate_told rs h p s top ν n =
    ⊎_elim
    (λ (lt : p.at < length rs).
    let f = fines rs h p.at lt in
    fit_fate top ν (at rs p.at) f.target f.source
    ∙ kind_state (at rs p.at).kind top ν n (at rs p.at) (span rs (suc p.at) (at rs p.at).end) (rest_behind rs p) f.real
    ∙ sym (ap (λ (x : Sheet). state_of (written_of top ν n x)) (rest_held rs h p (stands_within rs p s lt))))
    (λ (le : length rs ≤ p.at).
    ap (written_fate top ν) (sym (record_past rs p.at le))
    ∙ sym (ap (λ (x : Sheet). state_of (written_of top ν n x)) (rest_ended rs h p s le)))
    (cases_lt p.at (length rs))

-- a step that can be done stands before a statement
held_time : (rs : Recs) → (p : Position) → Stands rs p → (top : ℕ) (ν : List ℕ) → written_fate top ν (at rs p.at) ≡ Time → Held rs p
held_time rs p s top ν e =
    ⊎_elim
    (λ (lt : p.at < length rs). stands_within rs p s lt)
    (λ (le : length rs ≤ p.at).
    let q : Ended ≡ Time = ap (written_fate top ν) (record_past rs p.at le) ∙ e in
    let z : ◌≡◌ {A = ℕ} 0 1 = cc in let y : ⊥ = omega arith in absurd y)
    (cases_lt p.at (length rs))

went_here : (rs : Recs) → IsSheet rs → (p : Position) → Held rs p → (top : ℕ) (ν : List ℕ) (n : Counts) → written_fate top ν (at rs p.at) ≡ Time
    → written_of top ν n (rest_of rs p)
    ≡ went (running (written_stored (at rs p.at).kind ν (at rs p.at)) (rest_after rs p (found_in ν (at rs p.at))) (written_counted (at rs p.at).kind (found_in ν (at rs p.at)) n))
went_here rs h p w top ν n e =
    let f = fines rs h p.at (at_within rs (fines rs h) p w) in
    ap (λ (x : Sheet). written_of top ν n x) (rest_held rs h p w)
    ∙ kind_went (at rs p.at).kind top ν n (at rs p.at) (span rs (suc p.at) (at rs p.at).end) (rest_behind rs p)
    (sym (fit_fate top ν (at rs p.at) f.target f.source) ∙ e)

counted_on : (k : Kind) (v : ℕ) (n n' : Counts) → v ≤ 4294967295 → Counted n → n.written < 1099511627776 → n' ≡ written_counted k v n → Counted n'
counted_on k v n n' le h lt e = subst Counted (sym e) (go k v le)
  where
    go : (k : Kind) (v : ℕ) → v ≤ 4294967295 → Counted (written_counted k v n)
    go Zero v le = h
    go Plus v le = record { steps = omega arith; entered = omega arith; whiles = omega arith; rounds = omega arith }
    go Minus v le = record { steps = omega arith; entered = omega arith; whiles = omega arith; rounds = omega arith }
    go Loop v le = record { steps = omega arith; entered = omega arith; whiles = omega arith; rounds = omega arith }
    go While zero le = record { steps = omega arith; entered = omega arith; whiles = omega arith; rounds = omega arith }
    go While (suc v) le = record { steps = omega arith; entered = omega arith; whiles = omega arith; rounds = omega arith }

-- the step of a rehearsal, whose record is x and which stands as o tells
module _ (s : Rehearsal) (top : ℕ) (ν : List ℕ) (x : Statement) (o : State) (ex : x ≡ at (records_of s) s.position.at) (eo : o ≡ written_fate top ν x) where
  here : o ≡ written_fate top ν (at (records_of s) s.position.at)
  here = eo ∙ ap (written_fate top ν) ex

  pub looked : o ≡ state_of (written_step top (run_of s ν))
  looked = let h = rehearsed s in here ∙ fate_told (records_of s) h.sheet s.position h.stands top ν (written_counts s.tallies)

  -- it cannot be done
  pub step_stays : (o ≡ Time → ⊥) → Stepped top s ν o s ν
  step_stays stop = record { kept = rehearsed s; state = looked; moved = sym (stayed (written_step top (run_of s ν)) (run_of s ν) (λ e. stop (looked ∙ e))) }

  -- it is done
  module _ (time : o ≡ Time) (v : ℕ) (t : WrittenTallies) (q : Position) (ev : v ≡ found_in ν x) (le : v ≤ 4294967295) (more : s.tallies.written < 1099511627776)
      (et : Counted (written_counts s.tallies) → written_counts t ≡ written_counted x.kind v (written_counts s.tallies))
      (reach : IsSheet (records_of s) → Held (records_of s) s.position → x.kind ≡ (at (records_of s) s.position.at).kind → Reaches (records_of s) q (rest_after (records_of s) s.position v)) where
    counts : written_counts t ≡ written_counted (at (records_of s) s.position.at).kind v (written_counts s.tallies)
    counts = et s.counted ∙ ap (λ (y : Statement). written_counted y.kind v (written_counts s.tallies)) ex

    held : Held (records_of s) s.position
    held = held_time (records_of s) s.position (rehearsed s).stands top ν (sym here ∙ time)

    left : Reaches (records_of s) q (rest_after (records_of s) s.position v)
    left = reach (rehearsed s).sheet held (ap (λ (y : Statement). y.kind) ex)

    pub step_stands : Stands (records_of s) q
    step_stands = left.stands

    pub step_counted : Counted (written_counts t)
    step_counted = counted_on (at (records_of s) s.position.at).kind v (written_counts s.tallies) (written_counts t) le s.counted more counts

    pub step_done : (ν' : List ℕ) → ν' ≡ written_stored x.kind ν x → (s' : Rehearsal) → records_of s' ≡ records_of s → s'.position ≡ q → s'.tallies ≡ t → Stepped top s ν o s' ν'
    step_done ν' en s' same eq es =
        let rs = records_of s in
        let p = s.position in
        let r = at rs p.at in
        let n = written_counts s.tallies in
        let found : v ≡ found_in ν r = ev ∙ ap (found_in ν) ex in
        let stored : ν' ≡ written_stored r.kind ν r = en ∙ ap (λ (y : Statement). written_stored y.kind ν y) ex in
        let counts' : written_counts s'.tallies ≡ written_counted r.kind (found_in ν r) n = ap written_counts es ∙ counts ∙ ap (λ (y : ℕ). written_counted r.kind y n) found in
        let left' : rest_of (records_of s') s'.position ≡ rest_after rs p (found_in ν r) = (λ i. rest_of (same i) (eq i)) ∙ left.left ∙ ap (rest_after rs p) found in
        let did = went_here rs (rehearsed s).sheet p held top ν n (sym here ∙ time) in
        record {
          kept = rehearsed s';
          state = looked;
          moved = (λ i. running (stored i) (left' i) (counts' i)) ∙ sym (ap (λ (y : Next WrittenRun). onward y (run_of s ν)) did);
        }
