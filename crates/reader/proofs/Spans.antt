-- How a sheet lies in its records, as a list and by index.
use Rattle.std.proofs.Common.{◌≡◌, ℕ, zero, suc, ◌+◌, ◌<◌, ◌≤◌, true, ltb, List, [], ◌∷◌, ◌++◌, length, get_or, drop, Option, sym, refl, ap, ◌∙◌, subst, ⊎_elim, append_assoc, append-nil, add-zero, zero-add, arith, drop_of_length-le, drop-cons, drop-drop, drop_at}
use Rattle.std.proofs.lemmas.Bool.{cases_lt, lt-ltb, le-ltb}
use Rattle.std.specs.declared.option.Option.TheVariants as option
use Rattle.reader.specs.declared.types.Placed.{Placed}
use Rattle.reader.specs.declared.types.Kind.{Kind}
use Rattle.reader.specs.declared.types.Kind.TheVariants.{Zero, Plus, Minus, Loop, While}
use Rattle.reader.specs.declared.types.Statement.{Statement}
use Rattle.reader.specs.Sheet.{Sheet, done, plus, minus, loop, while, Some, size}
use Rattle.reader.specs.Records.{kind_number, statement_of, records_from, records, zero_record}
use Rattle.reader.specs.Checks.{items, at, Spans, inside, behind, sheet_of, span_in, span, Begins, IsSheet, sibling, Follows}
use Rattle.reader.specs.PrintClaims.{NextSiblingLeadsOn}
use Rattle.reader.proofs.Records.{length-records}

abbrev pub Recs : Type 0
Recs = List (Placed Statement)

abbrev pub zero_statement : Statement
zero_statement = statement_of Zero 0 0 0 0

pub length-items : (rs : Recs) → length (items rs) ≡ length rs
length-items [] = refl
length-items (r ∷ rs) = ap suc (length-items rs)

pub get_or-items : (rs : Recs) (i : ℕ) → get_or (items rs) i zero_statement ≡ at rs i
get_or-items [] i = refl
get_or-items (r ∷ rs) zero = refl
get_or-items (r ∷ rs) (suc i) = get_or-items rs i

-- past the end there is only the zero record
past : (rs : Recs) (i : ℕ) → length rs ≤ i → at rs i ≡ zero_statement
past [] i h = refl
past (r ∷ rs) zero h = absurd (omega arith)
past (r ∷ rs) (suc i) h = past rs i (omega arith)

pub present : (rs : Recs) (a : ℕ) (s : Statement) → at rs a ≡ s → 0 < kind_number s.kind → a < length rs
present rs a s e h =
    ⊎_elim
    (λ (lt : a < length rs). lt)
    (λ (le : length rs ≤ a). absurd (omega (arith, ap (λ (x : Statement). kind_number x.kind) (sym e ∙ past rs a le))))
    (cases_lt a (length rs))

-- A list that goes on at index a with r.
record Goes (l : List Statement) (a : ℕ) (r : Statement) (t : List Statement) : Type 0 where
  within : a < length l
  head : get_or l a zero_statement ≡ r
  tail : drop (suc a) l ≡ t

goes : (l : List Statement) (a : ℕ) (r : Statement) (t : List Statement) → drop a l ≡ r ∷ t → Goes l a r t
goes l a r t e =
    ⊎_elim
    (λ (lt : a < length l).
    let q : (get_or l a zero_statement ∷ drop (suc a) l) ≡ r ∷ t = sym (drop-cons l a zero_statement lt) ∙ e in
    record { within = lt; head = cc; tail = cc })
    (λ (le : length l ≤ a).
    let q : ◌≡◌ {A = List Statement} [] (r ∷ t) = sym (drop_of_length-le l le) ∙ e in
    let z : ◌≡◌ {A = ℕ} 0 1 = cc in let y : ⊥ = omega arith in absurd y)
    (cases_lt a (length l))

-- Behind a body come the records of the rest.
beyond : (l : List Statement) (a n : ℕ) (b : Sheet) (t : List Statement) → drop a l ≡ records_from n b ++ t → drop (a + size b) l ≡ t
beyond l a n b t e =
    sym (drop-drop (size b) a l) ∙ ap (drop (size b)) e ∙ drop_at (records_from n b) t (size b) (length-records n b)

-- The records of a sheet, by index.
spans_plain : (rs : Recs) (a : ℕ) (r : Statement) (p : Sheet) (t : List Statement) → Goes (items rs) a r (records_from (suc a) p ++ t)
    → Spans rs (suc a) (suc a + size p) p → (a < a + suc (size p)) × (at rs a ≡ r) × Spans rs (suc a) (a + suc (size p)) p
spans_plain rs a r p t h w =
    let q : suc a + size p ≡ a + suc (size p) = omega arith in
    (omega arith, sym (get_or-items rs a) ∙ h.head, subst (λ (x : ℕ). Spans rs (suc a) x p) q w)

pub spans_from : (rs : Recs) (p : Sheet) (a : ℕ) (t : List Statement) → drop a (items rs) ≡ records_from a p ++ t → Spans rs a (a + size p) p
spans_from rs done a t e = omega arith
spans_from rs (plus i j c p) a t e =
    let h = goes (items rs) a (statement_of Plus i j c (suc a)) (records_from (suc a) p ++ t) e in
    spans_plain rs a (statement_of Plus i j c (suc a)) p t h (spans_from rs p (suc a) t h.tail)
spans_from rs (minus i j c p) a t e =
    let h = goes (items rs) a (statement_of Minus i j c (suc a)) (records_from (suc a) p ++ t) e in
    spans_plain rs a (statement_of Minus i j c (suc a)) p t h (spans_from rs p (suc a) t h.tail)
spans_from rs (loop i b p) a t e =
    let n = suc a + size b in
    let h = goes (items rs) a (statement_of Loop 0 i 0 n) ((records_from (suc a) b ++ records_from n p) ++ t) e in
    let g : drop (suc a) (items rs) ≡ records_from (suc a) b ++ (records_from n p ++ t) = h.tail ∙ append_assoc (records_from (suc a) b) (records_from n p) t in
    let r = spans_from rs b (suc a) (records_from n p ++ t) g in
    let w = spans_from rs p n t (beyond (items rs) (suc a) (suc a) b (records_from n p ++ t) g) in
    let q : n + size p ≡ a + suc (size b + size p) = omega arith in
    (n, omega arith, omega arith, sym (get_or-items rs a) ∙ h.head, r, subst (λ (x : ℕ). Spans rs n x p) q w)
spans_from rs (while i b p) a t e =
    let n = suc a + size b in
    let h = goes (items rs) a (statement_of While 0 i 0 n) ((records_from (suc a) b ++ records_from n p) ++ t) e in
    let g : drop (suc a) (items rs) ≡ records_from (suc a) b ++ (records_from n p ++ t) = h.tail ∙ append_assoc (records_from (suc a) b) (records_from n p) t in
    let r = spans_from rs b (suc a) (records_from n p ++ t) g in
    let w = spans_from rs p n t (beyond (items rs) (suc a) (suc a) b (records_from n p ++ t) g) in
    let q : n + size p ≡ a + suc (size b + size p) = omega arith in
    (n, omega arith, omega arith, sym (get_or-items rs a) ∙ h.head, r, subst (λ (x : ℕ). Spans rs n x p) q w)

-- The records of a sheet are as many as its statements.
pub length_same : (rs : Recs) (p : Sheet) → items rs ≡ records p → length rs ≡ size p
length_same rs p e = sym (length-items rs) ∙ ap length e ∙ length-records 0 p

pub spans_all : (rs : Recs) (p : Sheet) → items rs ≡ records p → Spans rs 0 (length rs) p
spans_all rs p e =
    let r = spans_from rs p 0 [] (e ∙ sym (append-nil (records p))) in
    let q : 0 + size p ≡ length rs = omega (arith, length_same rs p e) in
    subst (λ (x : ℕ). Spans rs 0 x p) q r

-- A sheet ends where its size says.
pub spans_size : (rs : Recs) (a b : ℕ) (p : Sheet) → Spans rs a b p → b ≡ a + size p
spans_size rs a b done h = omega (arith, h)
spans_size rs a b (plus i j c p) h = omega (arith, spans_size rs (suc a) b p h.2)
spans_size rs a b (minus i j c p) h = omega (arith, spans_size rs (suc a) b p h.2)
spans_size rs a b (loop i q p) h = omega (arith, spans_size rs (suc a) h.0 q h.4, spans_size rs h.0 b p h.5)
spans_size rs a b (while i q p) h = omega (arith, spans_size rs (suc a) h.0 q h.4, spans_size rs h.0 b p h.5)

-- Where a sheet lies, its records stand.
back_head : (rs : Recs) (a : ℕ) (r : Statement) (t : List Statement) → a < length rs → at rs a ≡ r → drop (suc a) (items rs) ≡ t → drop a (items rs) ≡ r ∷ t
back_head rs a r t lt e q =
    drop-cons (items rs) a zero_statement (omega (arith, length-items rs)) ∙ ap (λ (x : Statement). x ∷ drop (suc a) (items rs)) (get_or-items rs a ∙ e) ∙ ap (λ (x : List Statement). r ∷ x) q

back_block : (rs : Recs) (k : Kind) (i a e b : ℕ) (q p : Sheet) → 0 < kind_number k → at rs a ≡ statement_of k 0 i 0 e → e ≡ suc a + size q
    → drop (suc a) (items rs) ≡ records_from (suc a) q ++ drop e (items rs) → drop e (items rs) ≡ records_from e p ++ drop b (items rs)
    → drop a (items rs) ≡ statement_of k 0 i 0 (suc a + size q) ∷ ((records_from (suc a) q ++ records_from (suc a + size q) p) ++ drop b (items rs))
back_block rs k i a e b q p k0 is n x y =
    let z : drop a (items rs) ≡ statement_of k 0 i 0 e ∷ ((records_from (suc a) q ++ records_from e p) ++ drop b (items rs)) =
    back_head rs a (statement_of k 0 i 0 e) ((records_from (suc a) q ++ records_from e p) ++ drop b (items rs)) (present rs a (statement_of k 0 i 0 e) is k0) is
    (x ∙ ap (λ (l : List Statement). records_from (suc a) q ++ l) y ∙ sym (append_assoc (records_from (suc a) q) (records_from e p) (drop b (items rs)))) in
    z ∙ ap (λ (m : ℕ). statement_of k 0 i 0 m ∷ ((records_from (suc a) q ++ records_from m p) ++ drop b (items rs))) n

pub spans_back : (rs : Recs) (a b : ℕ) (p : Sheet) → Spans rs a b p → drop a (items rs) ≡ records_from a p ++ drop b (items rs)
spans_back rs a b done h = ap (λ (x : ℕ). drop x (items rs)) h
spans_back rs a b (plus i j c p) h =
    let s = statement_of Plus i j c (suc a) in
    back_head rs a s (records_from (suc a) p ++ drop b (items rs)) (present rs a s h.1 (omega arith)) h.1 (spans_back rs (suc a) b p h.2)
spans_back rs a b (minus i j c p) h =
    let s = statement_of Minus i j c (suc a) in
    back_head rs a s (records_from (suc a) p ++ drop b (items rs)) (present rs a s h.1 (omega arith)) h.1 (spans_back rs (suc a) b p h.2)
spans_back rs a b (loop i q p) h =
    back_block rs Loop i a h.0 b q p (omega arith) h.3 (spans_size rs (suc a) h.0 q h.4) (spans_back rs (suc a) h.0 q h.4) (spans_back rs h.0 b p h.5)
spans_back rs a b (while i q p) h =
    back_block rs While i a h.0 b q p (omega arith) h.3 (spans_size rs (suc a) h.0 q h.4) (spans_back rs (suc a) h.0 q h.4) (spans_back rs h.0 b p h.5)

pub same_all : (rs : Recs) (p : Sheet) → Spans rs 0 (length rs) p → items rs ≡ records p
same_all rs p h =
    let n : drop (length rs) (items rs) ≡ [] = drop_of_length-le (items rs) (omega (arith, length-items rs)) in
    spans_back rs 0 (length rs) p h ∙ ap (λ (x : List Statement). records p ++ x) n ∙ append-nil (records p)

-- A sheet is empty exactly where its span is.
pub some_more : (rs : Recs) (a b : ℕ) (p : Sheet) → Some p → Spans rs a b p → a < b
some_more rs a b done o h = absurd o
some_more rs a b (plus i j c p) o h = h.0
some_more rs a b (minus i j c p) o h = h.0
some_more rs a b (loop i q p) o h = omega (arith, h.1, h.2)
some_more rs a b (while i q p) o h = omega (arith, h.1, h.2)

pub some_of : (rs : Recs) (a b : ℕ) (p : Sheet) → Spans rs a b p → a < b → Some p
some_of rs a b done h lt = let y : ⊥ = omega (arith, h) in absurd y
some_of rs a b (plus i j c p) h lt = tt
some_of rs a b (minus i j c p) h lt = tt
some_of rs a b (loop i q p) h lt = tt
some_of rs a b (while i q p) h lt = tt

pub none_of : (rs : Recs) (a b : ℕ) (p : Sheet) → Spans rs a b p → b ≤ a → p ≡ done
none_of rs a b done h le = refl
none_of rs a b (plus i j c p) h le = let y : ⊥ = omega (arith, h.0) in absurd y
none_of rs a b (minus i j c p) h le = let y : ⊥ = omega (arith, h.0) in absurd y
none_of rs a b (loop i q p) h le = let y : ⊥ = omega (arith, h.1, h.2) in absurd y
none_of rs a b (while i q p) h le = let y : ⊥ = omega (arith, h.1, h.2) in absurd y

-- The first statement of a sheet and its record.
begins_by : (rs : Recs) (a b : ℕ) (p : Sheet) (s : Statement) → at rs a ≡ s → 0 < kind_number s.kind → a < s.end → s.end ≤ b
    → p ≡ sheet_of s.kind s (inside p) (behind p) → Spans rs (suc a) s.end (inside p) → Spans rs s.end b (behind p) → Begins rs a b p
begins_by rs a b p s is k lt le e v w =
    let q = ap (λ (x : Statement). x.end) is in
    record {
      present = present rs a s is k;
      forward = omega (arith, q);
      nested = omega (arith, q);
      kind = λ z. omega (arith, ap (λ (x : Statement). kind_number x.kind) is, ap kind_number z);
      told = e ∙ ap (λ (x : Statement). sheet_of x.kind x (inside p) (behind p)) (sym is);
      body = subst (λ (x : ℕ). Spans rs (suc a) x (inside p)) (sym q) v;
      rest = subst (λ (x : ℕ). Spans rs x b (behind p)) (sym q) w;
    }

pub begins : (rs : Recs) (a b : ℕ) (p : Sheet) → Some p → Spans rs a b p → Begins rs a b p
begins rs a b done o h = absurd o
begins rs a b (plus i j c p) o h =
    begins_by rs a b (plus i j c p) (statement_of Plus i j c (suc a)) h.1 (omega arith) (omega arith) (omega (arith, h.0)) refl refl h.2
begins rs a b (minus i j c p) o h =
    begins_by rs a b (minus i j c p) (statement_of Minus i j c (suc a)) h.1 (omega arith) (omega arith) (omega (arith, h.0)) refl refl h.2
begins rs a b (loop i q p) o h =
    begins_by rs a b (loop i q p) (statement_of Loop 0 i 0 h.0) h.3 (omega arith) h.1 h.2 refl h.4 h.5
begins rs a b (while i q p) o h =
    begins_by rs a b (while i q p) (statement_of While 0 i 0 h.0) h.3 (omega arith) h.1 h.2 refl h.4 h.5

-- How the sheet of a span of records unrolls.
skip : (k : ℕ) (rs : Recs) (n from to : ℕ) → n + k ≤ from → span_in rs n from to ≡ span_in (drop k rs) (n + k) from to
unfolding span_in
skip zero rs n from to h = rw add-zero refl
skip (suc k) [] n from to h = refl
skip (suc k) (r ∷ rs) n from to h =
    let e : ltb n from ≡ true = lt-ltb n from (omega arith) in
    let q : suc n + k ≡ n + suc k = omega arith in
    rw e (skip k rs (suc n) from to (omega arith) ∙ ap (λ (m : ℕ). span_in (drop k rs) m from to) q)

none_in : (rs : Recs) (n from to : ℕ) → to ≤ from → span_in rs n from to ≡ done
unfolding span_in
none_in [] n from to h = refl
none_in (r ∷ rs) n from to h =
    ⊎_elim
    (λ (lt : n < from). rw (lt-ltb n from lt) (none_in rs (suc n) from to h))
    (λ (le : from ≤ n). rw (le-ltb n from le, le-ltb n to (omega arith)) refl)
    (cases_lt n from)

pub span_none : (rs : Recs) (from to : ℕ) → to ≤ from → span rs from to ≡ done
unfolding span
span_none rs from to h = none_in rs 0 from to h

-- From index k on, the list that is left does as well as the whole.
span_from : (rs : Recs) (k from to : ℕ) → k ≤ from → span rs from to ≡ span_in (drop k rs) k from to
unfolding span
span_from rs k from to h =
    skip k rs 0 from to (omega arith) ∙ ap (λ (m : ℕ). span_in (drop k rs) m from to) (zero-add k)

here : (r : Placed Statement) (rs : Recs) (i to : ℕ) → i < to
    → span_in (r ∷ rs) i i to ≡ sheet_of r.item.kind r.item (span_in rs (suc i) (suc i) r.item.end) (span_in rs (suc i) r.item.end to)
unfolding span_in
here r rs i to lt = rw (le-ltb i i (omega arith), lt-ltb i to lt) refl

pub span-at : (rs : Recs) (i to : ℕ) → i < to → i < length rs → i < (at rs i).end
    → span rs i to ≡ sheet_of (at rs i).kind (at rs i) (span rs (suc i) (at rs i).end) (span rs (at rs i).end to)
span-at rs i to lt within more =
    span_from rs i i to (omega arith)
    ∙ ap (λ (l : Recs). span_in l i i to) (drop-cons rs i zero_record within)
    ∙ here (get_or rs i zero_record) (drop (suc i) rs) i to lt
    ∙ ap (λ (b : Sheet). sheet_of (at rs i).kind (at rs i) b (span_in (drop (suc i) rs) (suc i) (at rs i).end to)) (sym (span_from rs (suc i) (suc i) (at rs i).end (omega arith)))
    ∙ ap (λ (b : Sheet). sheet_of (at rs i).kind (at rs i) (span rs (suc i) (at rs i).end) b) (sym (span_from rs (suc i) (at rs i).end to more))

-- The sheet of a span is the one that lies there.
span_by : (rs : Recs) (a b : ℕ) (p : Sheet) → a < b → Begins rs a b p → span rs (suc a) (at rs a).end ≡ inside p → span rs (at rs a).end b ≡ behind p → span rs a b ≡ p
span_by rs a b p lt h x y =
    span-at rs a b lt h.present h.forward
    ∙ ap (λ (q : Sheet). sheet_of (at rs a).kind (at rs a) q (span rs (at rs a).end b)) x
    ∙ ap (λ (q : Sheet). sheet_of (at rs a).kind (at rs a) (inside p) q) y
    ∙ sym h.told

pub spans_span : (rs : Recs) (a b : ℕ) (p : Sheet) → Spans rs a b p → span rs a b ≡ p
spans_span rs a b done h = span_none rs a b (omega (arith, h))
spans_span rs a b (plus i j c p) h =
    let g = begins rs a b (plus i j c p) tt h in
    span_by rs a b (plus i j c p) h.0 g (span_none rs (suc a) (at rs a).end (omega (arith, g.body))) (spans_span rs (at rs a).end b p g.rest)
spans_span rs a b (minus i j c p) h =
    let g = begins rs a b (minus i j c p) tt h in
    span_by rs a b (minus i j c p) h.0 g (span_none rs (suc a) (at rs a).end (omega (arith, g.body))) (spans_span rs (at rs a).end b p g.rest)
spans_span rs a b (loop i q p) h =
    let g = begins rs a b (loop i q p) tt h in
    span_by rs a b (loop i q p) (omega (arith, h.1, h.2)) g (spans_span rs (suc a) (at rs a).end q g.body) (spans_span rs (at rs a).end b p g.rest)
spans_span rs a b (while i q p) h =
    let g = begins rs a b (while i q p) tt h in
    span_by rs a b (while i q p) (omega (arith, h.1, h.2)) g (spans_span rs (suc a) (at rs a).end q g.body) (spans_span rs (at rs a).end b p g.rest)

pub spans_one : (rs : Recs) (a b : ℕ) (p q : Sheet) → Spans rs a b p → Spans rs a b q → p ≡ q
spans_one rs a b p q v w = sym (spans_span rs a b p v) ∙ spans_span rs a b q w

pub span_spans : (rs : Recs) (a b : ℕ) (p : Sheet) → Spans rs a b p → Spans rs a b (span rs a b)
span_spans rs a b p h = subst (λ (q : Sheet). Spans rs a b q) (sym (spans_span rs a b p h)) h

pub span_more : (rs : Recs) (a b : ℕ) (p : Sheet) → a < b → Spans rs a b p
    → span rs a b ≡ sheet_of (at rs a).kind (at rs a) (span rs (suc a) (at rs a).end) (span rs (at rs a).end b)
span_more rs a b p lt h = let g = begins rs a b p (some_of rs a b p h lt) h in span-at rs a b lt g.present g.forward

-- A span that begins within the records ends within them.
pub spans_within : (rs : Recs) (a b : ℕ) (p : Sheet) → a ≤ length rs → Spans rs a b p → b ≤ length rs
spans_within rs a b done le h = omega (arith, h)
spans_within rs a b (plus i j c p) le h = spans_within rs (suc a) b p (begins rs a b (plus i j c p) tt h).present h.2
spans_within rs a b (minus i j c p) le h = spans_within rs (suc a) b p (begins rs a b (minus i j c p) tt h).present h.2
spans_within rs a b (loop i q p) le h =
    let m = spans_within rs (suc a) h.0 q (begins rs a b (loop i q p) tt h).present h.4 in spans_within rs h.0 b p m h.5
spans_within rs a b (while i q p) le h =
    let m = spans_within rs (suc a) h.0 q (begins rs a b (while i q p) tt h).present h.4 in spans_within rs h.0 b p m h.5

-- Records of a sheet within the limits.
pub sheet_length : (rs : Recs) (h : IsSheet rs) → length rs ≡ size h.sheet
sheet_length rs h = length_same rs h.sheet h.same

pub sheet_spans : (rs : Recs) (h : IsSheet rs) → Spans rs 0 (length rs) h.sheet
sheet_spans rs h = spans_all rs h.sheet h.same

pub sheet_span : (rs : Recs) (h : IsSheet rs) → span rs 0 (length rs) ≡ h.sheet
sheet_span rs h = spans_span rs 0 (length rs) h.sheet (sheet_spans rs h)

-- Records are those of one sheet only.
pub sheet_one : (rs : Recs) (h g : IsSheet rs) → h.sheet ≡ g.sheet
sheet_one rs h g = sym (sheet_span rs h) ∙ sheet_span rs g

pub sheet_few : (rs : Recs) → IsSheet rs → length rs ≤ 256
sheet_few rs h = omega (arith, sheet_length rs h, h.within.few)

pub sheet_some : (rs : Recs) → IsSheet rs → 0 < length rs
sheet_some rs h = some_more rs 0 (length rs) h.sheet h.some (sheet_spans rs h)

-- The next-sibling question finds the next statement of the body.
following : (rs : Recs) (i e : ℕ) (p : Sheet) → Begins rs i e p → Follows rs e p (sibling rs i e)
following rs i e p h =
    ⊎_elim
    (λ (lt : (at rs i).end < e).
    let s : sibling rs i e ≡ option.Some (at rs i).end = rw (lt-ltb i (length rs) h.present, lt-ltb (at rs i).end e lt) refl in
    subst (λ (x : Option ℕ). Follows rs e p x) (sym s) (some_of rs (at rs i).end e (behind p) h.rest lt, h.rest))
    (λ (le : e ≤ (at rs i).end).
    let s : sibling rs i e ≡ option.None = rw (lt-ltb i (length rs) h.present, le-ltb (at rs i).end e le) refl in
    subst (λ (x : Option ℕ). Follows rs e p x) (sym s) (none_of rs (at rs i).end e (behind p) h.rest le))
    (cases_lt (at rs i).end e)

pub leads_on : NextSiblingLeadsOn
leads_on rs i e p o h = following rs i e p (begins rs i e p o h)
