-- What the type of a rehearsal says: a truncated fact that can be told again.
use Rattle.std.proofs.Common.{◌≡◌, ℕ, zero, suc, ◌<◌, ◌≤◌, List, length, refl, sym, subst, inl, inr, ⊎_elim, arith}
use Rattle.std.proofs.Math.Logic.{∥∥₁_elim}
use Rattle.std.proofs.lemmas.Bool.{cases_lt}
use Rattle.std.specs.Coded.{×_prop, Unit-prop, le_prop, Coded, Coded-set, coded_ℕ, coded_list, coded×, code_by}
use Rattle.reader.specs.declared.types.Statement.{Statement}
use Rattle.reader.specs.declared.types.Kind.{Kind}
use Rattle.reader.specs.declared.types.Kind.TheVariants.{Zero, Plus, Minus, Loop, While}
use Rattle.reader.specs.Sheet.{Sheet, done, plus, minus, loop, while, Some, Whole, Fit, Within}
use Rattle.reader.specs.Records.{kind_number, records}
use Rattle.reader.specs.Checks.{items, at, span, IsSheet}
use Rattle.reader.proofs.Spans.{sheet_span}
use Rattle.caption_box.specs.declared.rehearsal.walking.Level.{Level}
use Rattle.caption_box.specs.declared.rehearsal.walking.Position.{Position}
use Rattle.caption_box.specs.declared.rehearsal.Rehearsal.{Rehearsal}
use Rattle.caption_box.specs.Rests.{Recs, level_at, levels_of, depth_of, body_end, Bodied, Inside, Stands}
use Rattle.caption_box.specs.Rehearsals.{records_of, Rehearsed}

⊥-prop : IsProp ⊥
⊥-prop x y = absurd x

some_prop : (p : Sheet) → IsProp (Some p)
some_prop done = ⊥-prop
some_prop (plus i j c p) = Unit-prop
some_prop (minus i j c p) = Unit-prop
some_prop (loop i b p) = Unit-prop
some_prop (while i b p) = Unit-prop

whole_prop : (p : Sheet) → IsProp (Whole p)
whole_prop done = Unit-prop
whole_prop (plus i j c p) = whole_prop p
whole_prop (minus i j c p) = whole_prop p
whole_prop (loop i b p) = hlevel (some_prop b, whole_prop b, whole_prop p)
whole_prop (while i b p) = hlevel (some_prop b, whole_prop b, whole_prop p)

fit_prop : (p : Sheet) → IsProp (Fit p)
fit_prop done = Unit-prop
fit_prop (plus i j c p) = hlevel (le_prop, fit_prop p)
fit_prop (minus i j c p) = hlevel (le_prop, fit_prop p)
fit_prop (loop i b p) = hlevel (le_prop, fit_prop b, fit_prop p)
fit_prop (while i b p) = hlevel (le_prop, fit_prop b, fit_prop p)

within_prop : (p : Sheet) → IsProp (Within p)
within_prop p = hlevel (fit_prop, le_prop)

kind_numbered : ℕ → Kind
kind_numbered zero = Zero
kind_numbered (suc zero) = Plus
kind_numbered (suc (suc zero)) = Minus
kind_numbered (suc (suc (suc zero))) = Loop
kind_numbered (suc (suc (suc (suc n)))) = While

kind_back : (k : Kind) → kind_numbered (kind_number k) ≡ k
unfolding kind_numbered
kind_back Zero = refl
kind_back Plus = refl
kind_back Minus = refl
kind_back Loop = refl
kind_back While = refl

statement_code : Coded Statement
statement_code =
    code_by (Kind × (ℕ × (ℕ × (ℕ × ℕ)))) (coded× (code_by ℕ coded_ℕ kind_number kind_numbered kind_back) (coded× coded_ℕ (coded× coded_ℕ (coded× coded_ℕ coded_ℕ))))
    (λ s. (s.kind, (s.target, (s.source, (s.constant, s.end)))))
    (λ x. record { kind = x.0; target = x.1.0; source = x.1.1.0; constant = x.1.1.1.0; end = x.1.1.1.1 })
    (λ _. refl)

-- The sheet of records that are those of some sheet is the one that lies in them.
pub sheet_told : (rs : Recs) → ∥ IsSheet rs ∥₁ → IsSheet rs
sheet_told rs t =
    let p = span rs 0 (length rs) in
    record {
      sheet = p;
      some = ∥∥₁_elim t (some_prop p) (λ h. subst Some (sym (sheet_span rs h)) h.some);
      whole = ∥∥₁_elim t (whole_prop p) (λ h. subst Whole (sym (sheet_span rs h)) h.whole);
      within = ∥∥₁_elim t (within_prop p) (λ h. subst Within (sym (sheet_span rs h)) h.within);
      same = ∥∥₁_elim t (Coded-set (coded_list statement_code) (items rs) (records p)) (λ h. subst (λ (q : Sheet). items rs ≡ records q) (sym (sheet_span rs h)) h.same);
    }

bodied_prop : (k : Kind) → IsProp (Bodied k)
bodied_prop Zero = ⊥-prop
bodied_prop Plus = ⊥-prop
bodied_prop Minus = ⊥-prop
bodied_prop Loop = Unit-prop
bodied_prop While = Unit-prop

inside_prop : (rs : Recs) (ls : List Level) (d i : ℕ) → IsProp (Inside rs ls d i)
unfolding Inside
inside_prop rs ls zero i = le_prop
inside_prop rs ls (suc d) i = hlevel (le_prop, bodied_prop (at rs (level_at ls d).head).kind, inside_prop rs ls d (level_at ls d).head)

-- A position stands before a statement or at the end of all, and the indices tell which.
pub stands_told : (rs : Recs) (p : Position) → ∥ Stands rs p ∥₁ → Stands rs p
stands_told rs p t =
    record {
      inside = ∥∥₁_elim t (inside_prop rs (levels_of p) (depth_of p) p.at) (λ s. s.inside);
      before = ⊎_elim inl (λ (le : body_end rs (levels_of p) (depth_of p) ≤ p.at). inr (
          ∥∥₁_elim t (×_prop (Coded-set coded_ℕ (depth_of p) 0) (Coded-set coded_ℕ p.at (length rs)))
          (λ s. ⊎_elim (λ (lt : p.at < body_end rs (levels_of p) (depth_of p)). let z : ⊥ = omega (arith, lt, le) in absurd z) (λ (b : (depth_of p ≡ 0) × (p.at ≡ length rs)). b) s.before)
          )) (cases_lt p.at (body_end rs (levels_of p) (depth_of p)));
    }

-- Every rehearsal is `Rehearsed`.
pub rehearsed : (s : Rehearsal) → Rehearsed s
rehearsed s = record { sheet = sheet_told (records_of s) s.sheet; stands = stands_told (records_of s) s.position s.stands; counted = s.counted }
