-- The check of records, each way.
use Rattle.std.proofs.Common.{◌≡◌, ℕ, suc, ◌+◌, ◌<◌, ◌≤◌, max, nat_eq, Bool, true, false, ◌⊎◌, List, [], ◌∷◌, ◌++◌, length, drop, Decides, sym, refl, ap, ◌∙◌, subst, inl, inr, ⊎_elim, add-one, arith, eqb-true, eq-eqb}
use Rattle.std.proofs.lemmas.List.{at_drop_more, at_drop_all}
use Rattle.reader.specs.declared.types.Kind.{Kind}
use Rattle.reader.specs.declared.types.Kind.TheVariants.{Plus, Minus, Loop, While}
use Rattle.reader.specs.declared.types.Statement.{Statement}
use Rattle.reader.specs.Sheet.{Sheet, done, plus, minus, loop, while, Some, Whole, Fit, depth, size, loops}
use Rattle.reader.specs.Records.{statement_of, records_from, records, zero_record, kind_number}
use Rattle.reader.specs.Checks.{items, at, Spans, IsSheet, Body, IsStatement, an_assignment, a_block, loop_count, loops_in}
use Rattle.reader.proofs.Spans.{Recs, same_all, spans_all, spans_size, spans_within, present, some_more, some_of}

-- A test that came out false of what does not hold.
pub refuted : {P : Type 0} → (P → ⊥) → Decides false P
refuted n = (λ (z : false ≡ true). absurd (clash z), λ p. absurd (n p))
  where
    clash : false ≡ true → ⊥
    clash z = let y : ◌≡◌ {A = ℕ} 0 1 = cc in omega arith

-- What a false test refutes.
pub refutes : {P : Type 0} (b : Bool) → b ≡ false → Decides b P → P → ⊥
refutes b e d p = let t : b ≡ true = d.1 p in let y : ◌≡◌ {A = ℕ} 0 1 = cc in omega arith

-- A decision moves along facts that imply each other.
pub carried : {P Q : Type 0} (b : Bool) → Decides b P → (P → Q) → (Q → P) → Decides b Q
carried b d f g = (λ t. f (d.0 t), λ q. d.1 (g q))

clash : {A : Type 0} → ◌≡◌ {A = ℕ} 0 1 → A
clash z = let y : ⊥ = omega arith in absurd y

eta_plain : (s : Statement) (k : Kind) (e : ℕ) → s.kind ≡ k → s.end ≡ e → s ≡ statement_of k s.target s.source s.constant e
eta_plain s k e p q =
    ap (λ (x : Kind). statement_of x s.target s.source s.constant s.end) p
    ∙ ap (λ (x : ℕ). statement_of k s.target s.source s.constant x) q

eta_head : (s : Statement) (k : Kind) → s.kind ≡ k → s.target ≡ 0 → s.constant ≡ 0 → s ≡ statement_of k 0 s.source 0 s.end
eta_head s k p q r =
    ap (λ (x : Kind). statement_of x s.target s.source s.constant s.end) p
    ∙ ap (λ (x : ℕ). statement_of k x s.source s.constant s.end) q
    ∙ ap (λ (x : ℕ). statement_of k 0 s.source x s.end) r

-- A statement ends behind its head, and within the body around it.
pub forward : (rs : Recs) (a e n : ℕ) → a < e → IsStatement rs a e n → (a < (at rs a).end) × ((at rs a).end ≤ e)
forward rs a e n lt (an_assignment k h) = (omega (arith, h.ends), omega (arith, h.ends))
forward rs a e n lt (a_block k h b) = (omega (arith, h.some), h.nested)

-- A body is empty,
pub body_none : (rs : Recs) (a e n : ℕ) → a ≡ e → n ≤ 8 → Body rs a e n
body_none rs a e n q le = record { sheet = done; spans = q; whole = tt; fit = tt; shallow = omega arith }

-- or is a statement and the body behind it.
pub body_more : (rs : Recs) (a e n : ℕ) → a < e → IsStatement rs a e n → Body rs (at rs a).end e n → Body rs a e n
body_more rs a e n lt (an_assignment k h) q =
    let s = at rs a in
    let m : (at rs a).end ≡ suc a = h.ends ∙ add-one a in
    let w : Spans rs (suc a) e q.sheet = subst (λ (x : ℕ). Spans rs x e q.sheet) m q.spans in
    ⊎_elim
    (λ (i : (at rs a).kind ≡ Plus). record {
      sheet = plus s.target s.source s.constant q.sheet;
      spans = (lt, eta_plain (at rs a) Plus (suc a) i m, w);
      whole = q.whole;
      fit = (h.target, h.source, h.constant, q.fit);
      shallow = q.shallow;
    })
    (λ (i : (at rs a).kind ≡ Minus). record {
      sheet = minus s.target s.source s.constant q.sheet;
      spans = (lt, eta_plain (at rs a) Minus (suc a) i m, w);
      whole = q.whole;
      fit = (h.target, h.source, h.constant, q.fit);
      shallow = q.shallow;
    })
    k
body_more rs a e n lt (a_block k h b) q =
    let s = at rs a in
    let l : a < (at rs a).end = omega (arith, h.some) in
    let w : Spans rs (suc a) (at rs a).end b.sheet = subst (λ (x : ℕ). Spans rs x (at rs a).end b.sheet) (add-one a) b.spans in
    let o : Some b.sheet = some_of rs (a + 1) (at rs a).end b.sheet b.spans h.some in
    let d : max (suc (depth b.sheet)) (depth q.sheet) + n ≤ 8 = omega (arith, b.shallow, q.shallow) in
    ⊎_elim
    (λ (i : (at rs a).kind ≡ Loop). record {
      sheet = loop s.source b.sheet q.sheet;
      spans = ((at rs a).end, l, h.nested, eta_head (at rs a) Loop i h.target h.constant, w, q.spans);
      whole = (o, b.whole, q.whole);
      fit = (h.source, b.fit, q.fit);
      shallow = d;
    })
    (λ (i : (at rs a).kind ≡ While). record {
      sheet = while s.source b.sheet q.sheet;
      spans = ((at rs a).end, l, h.nested, eta_head (at rs a) While i h.target h.constant, w, q.spans);
      whole = (o, b.whole, q.whole);
      fit = (h.source, b.fit, q.fit);
      shallow = d;
    })
    k

-- And back: its first statement, and the body behind it.
less_plain : (rs : Recs) (a e n i j c : ℕ) (k : Kind) (p : Sheet) → ((k ≡ Plus) ⊎ (k ≡ Minus)) → at rs a ≡ statement_of k i j c (suc a) → Spans rs (suc a) e p
    → i ≤ 31 → j ≤ 31 → c ≤ 999999 → Whole p → Fit p → depth p + n ≤ 8 → IsStatement rs a e n × Body rs (at rs a).end e n
less_plain rs a e n i j c k p o is w it jt ct wp fp d =
    let ee : (at rs a).end ≡ suc a = ap (λ (x : Statement). x.end) is in
    let et : (at rs a).target ≡ i = ap (λ (x : Statement). x.target) is in
    let es : (at rs a).source ≡ j = ap (λ (x : Statement). x.source) is in
    let ec : (at rs a).constant ≡ c = ap (λ (x : Statement). x.constant) is in
    let ek : (at rs a).kind ≡ k = ap (λ (x : Statement). x.kind) is in (
      an_assignment
          (⊎_elim (λ (x : k ≡ Plus). inl (ek ∙ x)) (λ (x : k ≡ Minus). inr (ek ∙ x)) o)
          (record { ends = ee ∙ sym (add-one a); target = omega arith; source = omega arith; constant = omega arith }),
      record { sheet = p; spans = subst (λ (x : ℕ). Spans rs x e p) (sym ee) w; whole = wp; fit = fp; shallow = d },
    )

less_block : (rs : Recs) (a e n j f : ℕ) (k : Kind) (q p : Sheet) → ((k ≡ Loop) ⊎ (k ≡ While)) → at rs a ≡ statement_of k 0 j 0 f → f ≤ e
    → Spans rs (suc a) f q → Spans rs f e p → j ≤ 31 → Some q → Whole q → Whole p → Fit q → Fit p → max (suc (depth q)) (depth p) + n ≤ 8
    → IsStatement rs a e n × Body rs (at rs a).end e n
less_block rs a e n j f k q p o is le v w jt m wq wp fq fp d =
    let ee : (at rs a).end ≡ f = ap (λ (x : Statement). x.end) is in
    let et : (at rs a).target ≡ 0 = ap (λ (x : Statement). x.target) is in
    let es : (at rs a).source ≡ j = ap (λ (x : Statement). x.source) is in
    let ec : (at rs a).constant ≡ 0 = ap (λ (x : Statement). x.constant) is in
    let ek : (at rs a).kind ≡ k = ap (λ (x : Statement). x.kind) is in
    let l : suc a < f = some_more rs (suc a) f q m v in
    let v' : Spans rs (a + 1) (at rs a).end q =
    subst (λ (x : ℕ). Spans rs x (at rs a).end q) (sym (add-one a)) (subst (λ (x : ℕ). Spans rs (suc a) x q) (sym ee) v) in (
      a_block
          (⊎_elim (λ (x : k ≡ Loop). inl (ek ∙ x)) (λ (x : k ≡ While). inr (ek ∙ x)) o)
          (record { target = et; source = omega arith; constant = ec; some = omega arith; nested = omega arith; shallow = omega arith })
          (record { sheet = q; spans = v'; whole = wq; fit = fq; shallow = omega arith }),
      record { sheet = p; spans = subst (λ (x : ℕ). Spans rs x e p) (sym ee) w; whole = wp; fit = fp; shallow = omega arith },
    )

less_of : (rs : Recs) (a e n : ℕ) (p : Sheet) → a < e → Spans rs a e p → Whole p → Fit p → depth p + n ≤ 8 → IsStatement rs a e n × Body rs (at rs a).end e n
less_of rs a e n done lt h g f d = let y : ⊥ = omega (arith, h) in absurd y
less_of rs a e n (plus i j c p) lt h g f d = less_plain rs a e n i j c Plus p (inl refl) h.1 h.2 f.0 f.1 f.2 g f.3 d
less_of rs a e n (minus i j c p) lt h g f d = less_plain rs a e n i j c Minus p (inr refl) h.1 h.2 f.0 f.1 f.2 g f.3 d
less_of rs a e n (loop j q p) lt h g f d = less_block rs a e n j h.0 Loop q p (inl refl) h.3 h.2 h.4 h.5 f.0 g.0 g.1 g.2 f.1 f.2 d
less_of rs a e n (while j q p) lt h g f d = less_block rs a e n j h.0 While q p (inr refl) h.3 h.2 h.4 h.5 f.0 g.0 g.1 g.2 f.1 f.2 d

pub body_less : (rs : Recs) (a e n : ℕ) → a < e → Body rs a e n → IsStatement rs a e n × Body rs (at rs a).end e n
body_less rs a e n lt h = less_of rs a e n h.sheet lt h.spans h.whole h.fit h.shallow

-- What is a statement or a body lies in the records.
pub statement_within : (rs : Recs) (a e n : ℕ) → IsStatement rs a e n → a < length rs
statement_within rs a e n (an_assignment k h) = present rs a (at rs a) refl (⊎_elim (λ x. go Plus x (omega arith)) (λ x. go Minus x (omega arith)) k)
  where
    go : (k : Kind) → (at rs a).kind ≡ k → 0 < kind_number k → 0 < kind_number (at rs a).kind
    go k x h = subst (λ (k : Kind). 0 < kind_number k) (sym x) h
statement_within rs a e n (a_block k h b) = present rs a (at rs a) refl (⊎_elim (λ x. go Loop x (omega arith)) (λ x. go While x (omega arith)) k)
  where
    go : (k : Kind) → (at rs a).kind ≡ k → 0 < kind_number k → 0 < kind_number (at rs a).kind
    go k x h = subst (λ (k : Kind). 0 < kind_number k) (sym x) h

pub body_within : (rs : Recs) (a e : ℕ) → a < e → Body rs a e 0 → e ≤ length rs
body_within rs a e lt h = let s = statement_within rs a e 0 (body_less rs a e 0 lt h).0 in spans_within rs a e h.sheet (omega arith) h.spans

-- Behind its last statement a body is over exactly where it should be.
pub body_end : (rs : Recs) (from a e n : ℕ) → e ≤ a → n ≤ 8 → (Body rs a e n → Body rs from e n) → (Body rs from e n → Body rs a e n) → Decides (nat_eq a e) (Body rs from e n)
body_end rs from a e n le few f g =
    (λ t. f (body_none rs a e n (eqb-true a e t) few), λ b. let h = g b in eq-eqb a e (omega (arith, spans_size rs a e h.sheet h.spans)))

-- The LOOPs of a sheet, counted by its records.
count : List Statement → ℕ
count [] = 0
count (s ∷ ss) = loop_count s.kind + count ss

count_append : (x y : List Statement) → count (x ++ y) ≡ count x + count y
unfolding count
count_append [] y = omega arith
count_append (s ∷ x) y = omega (arith, count_append x y)

count-records : (n : ℕ) (p : Sheet) → count (records_from n p) ≡ loops p
unfolding count
count-records n done = refl
count-records n (plus i j c p) = omega (arith, count-records (suc n) p)
count-records n (minus i j c p) = omega (arith, count-records (suc n) p)
count-records n (loop i q p) =
    omega (arith, count_append (records_from (suc n) q) (records_from (suc n + size q) p), count-records (suc n) q, count-records (suc n + size q) p)
count-records n (while i q p) =
    omega (arith, count_append (records_from (suc n) q) (records_from (suc n + size q) p), count-records (suc n) q, count-records (suc n + size q) p)

count-items : (rs : Recs) → loops_in rs ≡ count (items rs)
unfolding count
count-items [] = refl
count-items (r ∷ rs) = ap (λ (x : ℕ). loop_count r.item.kind + x) (count-items rs)

pub loops_of : (rs : Recs) (p : Sheet) → items rs ≡ records p → loops_in rs ≡ loops p
loops_of rs p e = count-items rs ∙ ap count e ∙ count-records 0 p

-- The scan that counts LOOPs.
pub loops_more : (rs : Recs) (i n m : ℕ) → i < length rs → m ≡ loop_count (at rs i).kind → n + loops_in (drop i rs) ≡ loops_in rs → (n + m) + loops_in (drop (i + 1) rs) ≡ loops_in rs
loops_more rs i n m lt e h =
    let d : loops_in (drop i rs) ≡ loop_count (at rs i).kind + loops_in (drop (i + 1) rs) = at_drop_more loops_in rs i zero_record lt in
    omega (arith, d, e, h)

pub loops_all : (rs : Recs) (i n : ℕ) → length rs ≤ i → n + loops_in (drop i rs) ≡ loops_in rs → n ≡ loops_in rs
loops_all rs i n le h = let d : loops_in (drop i rs) ≡ 0 = at_drop_all loops_in rs i le in omega (arith, d, h)

-- The whole.
pub sheet_is : (rs : Recs) → 0 < length rs → length rs ≤ 256 → loops_in rs ≤ 32 → Body rs 0 (length rs) 0 → IsSheet rs
sheet_is rs lt le few h =
    let e : items rs ≡ records h.sheet = same_all rs h.sheet h.spans in
    record {
      sheet = h.sheet;
      some = some_of rs 0 (length rs) h.sheet h.spans lt;
      whole = h.whole;
      within = record {
        fit = h.fit;
        shallow = omega (arith, h.shallow);
        few = omega (arith, spans_size rs 0 (length rs) h.sheet h.spans);
        few_loops = omega (arith, loops_of rs h.sheet e);
      };
      same = e;
    }

pub sheet_loops : (rs : Recs) → IsSheet rs → loops_in rs ≤ 32
sheet_loops rs h = omega (arith, loops_of rs h.sheet h.same, h.within.few_loops)

pub sheet_body : (rs : Recs) → IsSheet rs → Body rs 0 (length rs) 0
sheet_body rs h =
    record { sheet = h.sheet; spans = spans_all rs h.sheet h.same; whole = h.whole; fit = h.within.fit; shallow = omega (arith, h.within.shallow) }
