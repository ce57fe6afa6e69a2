-- What each record of a sheet keeps to.
use Rattle.std.proofs.Common.{◌≡◌, ℕ, suc, ◌<◌, ◌≤◌, length, sym, ap, subst, ⊎_elim, arith}
use Rattle.std.proofs.lemmas.Bool.{cases_lt, cases_eq}
use Rattle.reader.specs.declared.types.Statement.{Statement}
use Rattle.reader.specs.declared.types.Kind.{Kind}
use Rattle.reader.specs.declared.types.Kind.TheVariants.{Zero, Plus, Minus, Loop, While}
use Rattle.reader.specs.Sheet.{Sheet, done, plus, minus, loop, while, Whole, Fit, depth}
use Rattle.reader.specs.Records.{statement_of}
use Rattle.reader.specs.Checks.{at, span, Spans, IsSheet}
use Rattle.reader.proofs.Spans.{some_more, sheet_spans, sheet_span}
use Rattle.caption_box.specs.Rests.{Recs, Bodied}

-- any kind but that of a zero record
abbrev pub Real : Kind → Type 0
Real Zero = ⊥
Real Plus = Unit {0}
Real Minus = Unit {0}
Real Loop = Unit {0}
Real While = Unit {0}

pub record Fine (rs : Recs) (i : ℕ) : Type 0 where
  pub more : i < (at rs i).end
  pub within : (at rs i).end ≤ length rs
  pub bodied : Bodied (at rs i).kind → suc i < (at rs i).end
  pub real : Real (at rs i).kind
  pub target : (at rs i).target ≤ 31
  pub source : (at rs i).source ≤ 31

abbrev pub Fines : Recs → Type 0
Fines rs = (i : ℕ) → i < length rs → Fine rs i

fine_plain : (rs : Recs) (a i j c : ℕ) (k : Kind) → at rs a ≡ statement_of k i j c (suc a) → a < length rs → i ≤ 31 → j ≤ 31 → Real k → (Bodied k → ⊥) → Fine rs a
fine_plain rs a i j c k e lt it jt r nb =
    let ee : (at rs a).end ≡ suc a = ap (λ (x : Statement). x.end) e in
    let ek : (at rs a).kind ≡ k = ap (λ (x : Statement). x.kind) e in
    let et : (at rs a).target ≡ i = ap (λ (x : Statement). x.target) e in
    let es : (at rs a).source ≡ j = ap (λ (x : Statement). x.source) e in
    record {
      more = omega arith;
      within = omega arith;
      bodied = λ b. absurd (nb (subst Bodied ek b));
      real = subst Real (sym ek) r;
      target = omega arith;
      source = omega arith;
    }

fine_head : (rs : Recs) (a j n : ℕ) (k : Kind) → at rs a ≡ statement_of k 0 j 0 n → n ≤ length rs → suc a < n → j ≤ 31 → Real k → Fine rs a
fine_head rs a j n k e le lt jt r =
    let ee : (at rs a).end ≡ n = ap (λ (x : Statement). x.end) e in
    let ek : (at rs a).kind ≡ k = ap (λ (x : Statement). x.kind) e in
    let et : (at rs a).target ≡ 0 = ap (λ (x : Statement). x.target) e in
    let es : (at rs a).source ≡ j = ap (λ (x : Statement). x.source) e in
    record {
      more = omega arith;
      within = omega arith;
      bodied = λ b. omega arith;
      real = subst Real (sym ek) r;
      target = omega arith;
      source = omega arith;
    }

here_or : (P : ℕ → Type 0) (a i : ℕ) → a ≤ i → P a → (a < i → P i) → P i
here_or P a i le h f = ⊎_elim (λ (e : a ≡ i). subst P e h) (λ (ne : a ≡ i → ⊥). f (omega arith)) (cases_eq a i)

below_or : (P : ℕ → Type 0) (e i : ℕ) → (i < e → P i) → (e ≤ i → P i) → P i
below_or P e i f g = ⊎_elim f g (cases_lt i e)

fines_in : (rs : Recs) (a b : ℕ) (s : Sheet) → Spans rs a b s → b ≤ length rs → Whole s → Fit s → (i : ℕ) → a ≤ i → i < b → Fine rs i
fines_in rs a b done h le w f i l m = let z : ⊥ = omega (arith, h) in absurd z
fines_in rs a b (plus t j c p) h le w f i l m =
    here_or (Fine rs) a i l (fine_plain rs a t j c Plus h.1 (omega (arith, h.0)) f.0 f.1 tt (λ x. x)) (λ lt. fines_in rs (suc a) b p h.2 le w f.3 i lt m)
fines_in rs a b (minus t j c p) h le w f i l m =
    here_or (Fine rs) a i l (fine_plain rs a t j c Minus h.1 (omega (arith, h.0)) f.0 f.1 tt (λ x. x)) (λ lt. fines_in rs (suc a) b p h.2 le w f.3 i lt m)
fines_in rs a b (loop j q p) h le w f i l m =
    here_or (Fine rs) a i l (fine_head rs a j h.0 Loop h.3 (omega (arith, h.2)) (some_more rs (suc a) h.0 q w.0 h.4) f.0 tt)
    (λ lt. below_or (Fine rs) h.0 i (λ u. fines_in rs (suc a) h.0 q h.4 (omega (arith, h.2)) w.1 f.1 i lt u) (λ u. fines_in rs h.0 b p h.5 le w.2 f.2 i u m))
fines_in rs a b (while j q p) h le w f i l m =
    here_or (Fine rs) a i l (fine_head rs a j h.0 While h.3 (omega (arith, h.2)) (some_more rs (suc a) h.0 q w.0 h.4) f.0 tt)
    (λ lt. below_or (Fine rs) h.0 i (λ u. fines_in rs (suc a) h.0 q h.4 (omega (arith, h.2)) w.1 f.1 i lt u) (λ u. fines_in rs h.0 b p h.5 le w.2 f.2 i u m))

pub fines : (rs : Recs) → IsSheet rs → Fines rs
fines rs h i lt = fines_in rs 0 (length rs) h.sheet (sheet_spans rs h) (omega arith) h.whole h.within.fit i (omega arith) lt

pub whole_depth : (rs : Recs) → IsSheet rs → depth (span rs 0 (length rs)) ≤ 8
whole_depth rs h = rw (sheet_span rs h) h.within.shallow
