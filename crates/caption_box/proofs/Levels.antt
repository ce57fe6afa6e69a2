-- What is left as a statement is done, a body ends and a level opens.
use Rattle.std.proofs.Common.{◌≡◌, ℕ, zero, suc, ◌+◌, ◌-◌, ◌<◌, ◌≤◌, List, [], ◌∷◌, ◌++◌, length, Option, sym, refl, ap, ◌∙◌, subst, inl, inr, ⊎_elim, arith, length-append}
use Rattle.std.specs.declared.option.Option.TheVariants as option
use Rattle.std.proofs.Math.Seq.{get_or-append_seam}
use Rattle.std.proofs.lemmas.List.{get_or_append_left}
use Rattle.std.proofs.lemmas.Bool.{cases_lt, lt-ltb, le-ltb}
use Rattle.reader.specs.declared.types.Statement.{Statement}
use Rattle.reader.specs.declared.types.Kind.{Kind}
use Rattle.reader.specs.declared.types.Kind.TheVariants.{Zero, Plus, Minus, Loop, While}
use Rattle.reader.specs.Sheet.{Sheet, then, depth}
use Rattle.reader.specs.Checks.{at, span, sheet_of, IsSheet, sibling}
use Rattle.reader.proofs.Spans.{span_none, span-at, sheet_few, sheet_some, sheet_span}
use Rattle.caption_box.specs.declared.rehearsal.walking.Level.{Level}
use Rattle.caption_box.specs.declared.rehearsal.walking.Position.{Position}
use Rattle.caption_box.specs.Rests.{Recs, level_of, level_at, levels_of, depth_of, position_of, body_end, again, rest_in, rest_of, Bodied, Inside, Stands, Held, opened, rest_behind, rest_after}
use Rattle.caption_box.proofs.Fines.{Real, Fine, Fines, fines, whole_depth}

then_sheet : (k : Kind) (s : Statement) (b p q : Sheet) → Real k → then (sheet_of k s b p) q ≡ sheet_of k s b (then p q)
then_sheet Zero s b p q r = absurd r
then_sheet Plus s b p q r = refl
then_sheet Minus s b p q r = refl
then_sheet Loop s b p q r = refl
then_sheet While s b p q r = refl

depth-behind : (k : Kind) (s : Statement) (b p : Sheet) → Real k → depth p ≤ depth (sheet_of k s b p)
depth-behind Zero s b p r = absurd r
depth-behind Plus s b p r = omega arith
depth-behind Minus s b p r = omega arith
depth-behind Loop s b p r = omega arith
depth-behind While s b p r = omega arith

depth_body : (k : Kind) (s : Statement) (b p : Sheet) → Bodied k → suc (depth b) ≤ depth (sheet_of k s b p)
depth_body Zero s b p r = absurd r
depth_body Plus s b p r = absurd r
depth_body Minus s b p r = absurd r
depth_body Loop s b p r = omega arith
depth_body While s b p r = omega arith

-- The innermost open body ends within the records.
pub ends : (rs : Recs) → Fines rs → (ls : List Level) (d i : ℕ) → Inside rs ls d i → body_end rs ls d ≤ length rs
unfolding Inside
ends rs F ls zero i h = omega arith
ends rs F ls (suc d) i h =
    (F (level_at ls d).head (omega (arith, h.1, ends rs F ls d (level_at ls d).head h.3))).within

pub room : (rs : Recs) (ls : List Level) (d i : ℕ) → Inside rs ls d i → depth (span rs i (body_end rs ls d)) + d ≤ 8
unfolding Inside
room rs ls zero i h = omega (arith, h)
room rs ls (suc d) i h = h.0

-- What is left before a statement is that statement, and what is behind it.
pub rest_here : (rs : Recs) (ls : List Level) (d i : ℕ) → i < body_end rs ls d → i < length rs → Fine rs i
    → rest_in rs ls d i ≡ sheet_of (at rs i).kind (at rs i) (span rs (suc i) (at rs i).end) (rest_in rs ls d (at rs i).end)
unfolding rest_in
rest_here rs ls zero i lt within f = span-at rs i (length rs) lt within f.more
rest_here rs ls (suc d) i lt within f =
    rw (span-at rs i (at rs (level_at ls d).head).end lt within f.more)
    (then_sheet (at rs i).kind (at rs i) _ _ _ f.real)

-- Behind a statement there is as much room.
pub inside-behind : (rs : Recs) (ls : List Level) (d i : ℕ) → Inside rs ls d i → i < body_end rs ls d → i < length rs → Fine rs i
    → Inside rs ls d (at rs i).end
unfolding Inside
inside-behind rs ls zero i h lt within f =
    let e = span-at rs i (length rs) lt within f.more in
    let q = depth-behind (at rs i).kind (at rs i) (span rs (suc i) (at rs i).end) (span rs (at rs i).end (length rs)) f.real in
    omega (arith, h, ap depth e, q)
inside-behind rs ls (suc d) i h lt within f =
    let t = (at rs (level_at ls d).head).end in
    let e = span-at rs i t lt within f.more in
    let q = depth-behind (at rs i).kind (at rs i) (span rs (suc i) (at rs i).end) (span rs (at rs i).end t) f.real in
    (omega (arith, h.0, ap depth e, q), h.1, h.2, h.3)

-- The levels ls with l opened inside them.
module _ (ls : List Level) (l : Level) where
  more-long : length (ls ++ l ∷ []) ≡ suc (length ls)
  more-long = omega (arith, length-append ls (l ∷ []))

  level_last : level_at (ls ++ l ∷ []) (length ls) ≡ l
  level_last = get_or-append_seam ls l [] (level_of 0 0)

  level_below : (k : ℕ) → k < length ls → level_at (ls ++ l ∷ []) k ≡ level_at ls k
  level_below k h = get_or_append_left ls (l ∷ []) (level_of 0 0) k h

  body_end_below : (rs : Recs) (d : ℕ) → d ≤ length ls → body_end rs (ls ++ l ∷ []) d ≡ body_end rs ls d
  body_end_below rs zero h = refl
  body_end_below rs (suc d) h = ap (λ (x : Level). (at rs x.head).end) (level_below d (omega arith))

  -- It changes nothing of what is left outside.
  rest_below : (rs : Recs) (d i : ℕ) → d ≤ length ls → rest_in rs (ls ++ l ∷ []) d i ≡ rest_in rs ls d i
  unfolding rest_in
  rest_below rs zero i h = refl
  rest_below rs (suc d) i h =
      rw (level_below d (omega arith), rest_below rs d (level_at ls d).head (omega arith), rest_below rs d (at rs (level_at ls d).head).end (omega arith)) refl

  inside_in : (rs : Recs) (d i : ℕ) → d ≤ length ls → Inside rs ls d i → Inside rs (ls ++ l ∷ []) d i
  unfolding Inside
  inside_in rs zero i h q = q
  inside_in rs (suc d) i h q =
      let e = level_below d (omega arith) in
      rw (e, body_end_below rs d (omega arith)) (q.0, q.1, q.2, inside_in rs d (level_at ls d).head (omega arith) q.3)

  inside_out : (rs : Recs) (d i : ℕ) → d ≤ length ls → Inside rs (ls ++ l ∷ []) d i → Inside rs ls d i
  unfolding Inside
  inside_out rs zero i h q = q
  inside_out rs (suc d) i h q =
      let e = level_below d (omega arith) in
      let r = rw (e, body_end_below rs d (omega arith)) at q in
      (r.0, r.1, r.2, inside_out rs d (level_at ls d).head (omega arith) r.3)

  -- i stands in the body of l
  pub record InBody (rs : Recs) (i : ℕ) : Type 0 where
    pub room : depth (span rs i (at rs l.head).end) + suc (length ls) ≤ 8
    pub head : l.head < body_end rs ls (length ls)
    pub bodied : Bodied (at rs l.head).kind
    pub outer : Inside rs ls (length ls) l.head

  inside_body : (rs : Recs) (i : ℕ) → InBody rs i → Inside rs (ls ++ l ∷ []) (length (ls ++ l ∷ [])) i
  unfolding Inside
  inside_body rs i b =
      subst (λ (d : ℕ). Inside rs (ls ++ l ∷ []) d i) (sym more-long)
      (rw (level_last, body_end_below rs (length ls) (omega arith)) (b.room, b.head, b.bodied, inside_in rs (length ls) l.head (omega arith) b.outer))

  body_inside : (rs : Recs) (i : ℕ) → Inside rs (ls ++ l ∷ []) (length (ls ++ l ∷ [])) i → InBody rs i
  unfolding Inside
  body_inside rs i h =
      let g : Inside rs (ls ++ l ∷ []) (suc (length ls)) i = subst (λ (d : ℕ). Inside rs (ls ++ l ∷ []) d i) more-long h in
      let q = rw (level_last, body_end_below rs (length ls) (omega arith)) at g in
      record { room = q.0; head = q.1; bodied = q.2; outer = inside_out rs (length ls) l.head (omega arith) q.3 }

  pub body_end_is : (rs : Recs) → body_end rs (ls ++ l ∷ []) (length (ls ++ l ∷ [])) ≡ (at rs l.head).end
  body_end_is rs = ap (body_end rs (ls ++ l ∷ [])) more-long ∙ ap (λ (x : Level). (at rs x.head).end) level_last

  rest_body : (rs : Recs) (i : ℕ) → rest_in rs (ls ++ l ∷ []) (length (ls ++ l ∷ [])) i
      ≡ then (span rs i (at rs l.head).end) (again (at rs l.head).kind l.left (span rs (suc l.head) (at rs l.head).end)
      (rest_in rs ls (length ls) l.head) (rest_in rs ls (length ls) (at rs l.head).end))
  unfolding rest_in
  rest_body rs i =
      ap (λ (d : ℕ). rest_in rs (ls ++ l ∷ []) d i) more-long
      ∙ rw (level_last, rest_below rs (length ls) l.head (omega arith), rest_below rs (length ls) (at rs l.head).end (omega arith)) refl

  -- A body that has ended leaves what comes behind it.
  closed : (rs : Recs) (i : ℕ) → (at rs l.head).end ≤ i → rest_in rs (ls ++ l ∷ []) (length (ls ++ l ∷ [])) i
      ≡ again (at rs l.head).kind l.left (span rs (suc l.head) (at rs l.head).end) (rest_in rs ls (length ls) l.head) (rest_in rs ls (length ls) (at rs l.head).end)
  closed rs i h = rest_body rs i ∙ rw (span_none rs i (at rs l.head).end h) refl

-- A statement inside the levels ls.
abbrev pub HeldAt : Recs → List Level → ℕ → Type 0
HeldAt rs ls i = Held rs (position_of i ls)

pub within_length : (rs : Recs) → Fines rs → (ls : List Level) (i : ℕ) → HeldAt rs ls i → i < length rs
within_length rs F ls i w = omega (arith, w.before, ends rs F ls (length ls) i w.inside)

pub stands_within : (rs : Recs) (p : Position) → Stands rs p → p.at < length rs → Held rs p
stands_within rs p s lt =
    record { inside = s.inside; before = ⊎_elim (λ b. b) (λ (b : (depth_of p ≡ 0) × (p.at ≡ length rs)). let z : ⊥ = omega (arith, b.1) in absurd z) s.before }

pub leave_some : (rs : Recs) → Fines rs → (ls : List Level) (i : ℕ) → HeldAt rs ls i → (at rs i).end < body_end rs ls (length ls)
    → Stands rs (position_of (at rs i).end ls)
leave_some rs F ls i w lt =
    let n = within_length rs F ls i w in
    record { inside = inside-behind rs ls (length ls) i w.inside w.before n (F i n); before = inl lt }

pub leave_all : (rs : Recs) (ls : List Level) (i : ℕ) → length ls ≡ 0 → body_end rs ls (length ls) ≤ (at rs i).end
    → Stands rs (position_of (length rs) ls) × (rest_in rs ls (length ls) (length rs) ≡ rest_in rs ls (length ls) (at rs i).end)
unfolding Inside rest_in
leave_all rs [] i e le = (
  record { inside = rw (span_none rs (length rs) (length rs) (omega arith)) (omega arith); before = inr (refl, refl) },
  span_none rs (length rs) (length rs) (omega arith) ∙ sym (span_none rs (at rs i).end (length rs) le),
)
leave_all rs (x ∷ ls) i e le = let z : ⊥ = omega arith in absurd z

looped : (k : Kind) → Bodied k → (k ≡ While → ⊥) → k ≡ Loop
looped Zero b n = absurd b
looped Plus b n = absurd b
looped Minus b n = absurd b
looped Loop b n = refl
looped While b n = absurd (n refl)

-- There is room for one more level, that of the statement at i.
opens_depth : (rs : Recs) → Fines rs → (ls : List Level) (i : ℕ) → HeldAt rs ls i → Bodied (at rs i).kind → depth (span rs (suc i) (at rs i).end) + suc (length ls) ≤ 8
opens_depth rs F ls i w b =
    let m = within_length rs F ls i w in
    let r = room rs ls (length ls) i w.inside in
    let s = span-at rs i (body_end rs ls (length ls)) w.before m (F i m).more in
    let q = depth_body (at rs i).kind (at rs i) (span rs (suc i) (at rs i).end) (span rs (at rs i).end (body_end rs ls (length ls))) b in
    omega (arith, r, ap depth s, q)

pub opens_room : (rs : Recs) → Fines rs → (ls : List Level) (i : ℕ) → HeldAt rs ls i → Bodied (at rs i).kind → length ls < 8
opens_room rs F ls i w b = omega (arith, opens_depth rs F ls i w b)

-- It opens.
opens : (rs : Recs) → Fines rs → (ls : List Level) (i n : ℕ) → HeldAt rs ls i → Bodied (at rs i).kind
    → Stands rs (position_of (suc i) (ls ++ level_of i n ∷ []))
opens rs F ls i n w b =
    record {
      inside = inside_body ls (level_of i n) rs (suc i) (record { room = opens_depth rs F ls i w b; head = w.before; bodied = b; outer = w.inside });
      before = inl (rw (body_end_is ls (level_of i n) rs) ((F i (within_length rs F ls i w)).bodied b));
    }

-- What is left as the body of l has ended with the statement at i.
module _ (rs : Recs) (F : Fines rs) (ls : List Level) (l : Level) (i : ℕ) (w : HeldAt rs (ls ++ l ∷ []) i) (le : (at rs l.head).end ≤ (at rs i).end) where
  body : InBody ls l rs i
  body = body_inside ls l rs i w.inside

  pub outer_held : HeldAt rs ls l.head
  outer_held = record { inside = body.outer; before = body.head }

  pub outer_few : length ls < 8
  outer_few = omega (arith, body.room)

  -- A WHILE comes again.
  pub leave_while : (at rs l.head).kind ≡ While
      → Stands rs (position_of l.head ls) × (rest_in rs ls (length ls) l.head ≡ rest_in rs (ls ++ l ∷ []) (length (ls ++ l ∷ [])) (at rs i).end)
  leave_while e = (record { inside = body.outer; before = inl body.head }, sym (closed ls l rs (at rs i).end le ∙ rw e refl))

  module _ (ne : (at rs l.head).kind ≡ While → ⊥) where
    loop_is : (at rs l.head).kind ≡ Loop
    loop_is = looped (at rs l.head).kind body.bodied ne

    -- A LOOP with no round left is done.
    pub leave_loop : l.left ≡ 0 → rest_in rs ls (length ls) (at rs l.head).end ≡ rest_in rs (ls ++ l ∷ []) (length (ls ++ l ∷ [])) (at rs i).end
    leave_loop z = sym (closed ls l rs (at rs i).end le ∙ rw (loop_is, z) refl)

    -- One with rounds left opens again.
    pub leave_round : (n : ℕ) → l.left ≡ suc n → (q : Position) → q ≡ position_of (suc l.head) (ls ++ level_of l.head n ∷ [])
        → Stands rs q × (rest_of rs q ≡ rest_in rs (ls ++ l ∷ []) (length (ls ++ l ∷ [])) (at rs i).end)
    leave_round n z q is =
        let b = span rs (suc l.head) (at rs l.head).end in
        let first : then b (again (at rs l.head).kind n b (rest_in rs ls (length ls) l.head) (rest_in rs ls (length ls) (at rs l.head).end))
        ≡ again (at rs l.head).kind l.left b (rest_in rs ls (length ls) l.head) (rest_in rs ls (length ls) (at rs l.head).end) = rw (loop_is, z) refl in
        let goal : Position → Type 0 = λ x. Stands rs x × (rest_of rs x ≡ rest_in rs (ls ++ l ∷ []) (length (ls ++ l ∷ [])) (at rs i).end) in
        subst goal (sym is) (
          opens rs F ls l.head n outer_held body.bodied,
          rest_body ls (level_of l.head n) rs (suc l.head) ∙ first ∙ sym (closed ls l rs (at rs i).end le),
        )

pub at_within : (rs : Recs) → Fines rs → (p : Position) → Held rs p → p.at < length rs
at_within rs F p w = within_length rs F (levels_of p) p.at w

pub small_at : (rs : Recs) → IsSheet rs → (p : Position) → Held rs p → p.at < 256
small_at rs h p w = omega (arith, at_within rs (fines rs h) p w, sheet_few rs h)

-- The step of a LOOP that found n + 1, and of a WHILE that found no 0.
enter : (rs : Recs) → Fines rs → (p : Position) → Held rs p → (n : ℕ) → Bodied (at rs p.at).kind → (q : Position) → q ≡ opened p n
    → Stands rs q × (rest_of rs q ≡ then (span rs (suc p.at) (at rs p.at).end) (again (at rs p.at).kind n (span rs (suc p.at) (at rs p.at).end) (rest_of rs p) (rest_behind rs p)))
enter rs F p w n b q is =
    let goal : Position → Type 0 = λ x. Stands rs x × (rest_of rs x ≡ then (span rs (suc p.at) (at rs p.at).end) (again (at rs p.at).kind n (span rs (suc p.at) (at rs p.at).end) (rest_of rs p) (rest_behind rs p))) in
    subst goal (sym is) (opens rs F (levels_of p) p.at n w b, rest_body (levels_of p) (level_of p.at n) rs (suc p.at))

pub enter_loop : (rs : Recs) → Fines rs → (p : Position) → Held rs p → (v : ℕ) → (at rs p.at).kind ≡ Loop → (v ≡ 0 → ⊥) → (q : Position) → q ≡ opened p (v - 1)
    → Stands rs q × (rest_of rs q ≡ rest_after rs p v)
enter_loop rs F p w v k ne q is =
    let b : Bodied (at rs p.at).kind = rw k tt in
    let r = enter rs F p w (v - 1) b q is in
    let e : v ≡ suc (v - 1) = omega arith in
    let g : rest_after rs p v ≡ then (span rs (suc p.at) (at rs p.at).end) (again (at rs p.at).kind (v - 1) (span rs (suc p.at) (at rs p.at).end) (rest_of rs p) (rest_behind rs p)) =
    ap (λ (x : ℕ). rest_after rs p x) e ∙ rw k refl in
    (r.0, r.1 ∙ sym g)

pub enter_while : (rs : Recs) → Fines rs → (p : Position) → Held rs p → (v : ℕ) → (at rs p.at).kind ≡ While → (v ≡ 0 → ⊥) → (q : Position) → q ≡ opened p 0
    → Stands rs q × (rest_of rs q ≡ rest_after rs p v)
enter_while rs F p w v k ne q is =
    let b : Bodied (at rs p.at).kind = rw k tt in
    let r = enter rs F p w 0 b q is in
    let e : v ≡ suc (v - 1) = omega arith in
    let n = at_within rs F p w in
    let h = rest_here rs (levels_of p) (depth_of p) p.at w.before n (F p.at n) in
    let g : rest_after rs p v ≡ then (span rs (suc p.at) (at rs p.at).end) (again (at rs p.at).kind 0 (span rs (suc p.at) (at rs p.at).end) (rest_of rs p) (rest_behind rs p)) =
    ap (λ (x : ℕ). rest_after rs p x) e ∙ rw (h, k) refl in
    (r.0, r.1 ∙ sym g)

-- What the next-sibling question told.
pub sibling-some : (rs : Recs) (i e n : ℕ) (r : Option ℕ) → i < length rs → r ≡ sibling rs i e → r ≡ option.Some n → (n ≡ (at rs i).end) × ((at rs i).end < e)
sibling-some rs i e n r l q s =
    ⊎_elim
    (λ (lt : (at rs i).end < e).
    let t : option.Some n ≡ option.Some (at rs i).end = sym s ∙ q ∙ rw (lt-ltb i (length rs) l, lt-ltb (at rs i).end e lt) refl in ((cc), lt))
    (λ (le : e ≤ (at rs i).end).
    let t : option.Some n ≡ option.None = sym s ∙ q ∙ rw (lt-ltb i (length rs) l, le-ltb (at rs i).end e le) refl in
    let z : ◌≡◌ {A = ℕ} 0 1 = cc in let y : ⊥ = omega arith in absurd y)
    (cases_lt (at rs i).end e)

pub sibling-none : (rs : Recs) (i e : ℕ) (r : Option ℕ) → i < length rs → r ≡ sibling rs i e → r ≡ option.None → e ≤ (at rs i).end
sibling-none rs i e r l q s =
    ⊎_elim
    (λ (lt : (at rs i).end < e).
    let t : option.None ≡ option.Some (at rs i).end = sym s ∙ q ∙ rw (lt-ltb i (length rs) l, lt-ltb (at rs i).end e lt) refl in
    let z : ◌≡◌ {A = ℕ} 0 1 = cc in let y : ⊥ = omega arith in absurd y)
    (λ (le : e ≤ (at rs i).end). le)
    (cases_lt (at rs i).end e)

-- Before the first statement the whole sheet is left.
pub begins : (rs : Recs) (h : IsSheet rs) → Stands rs (position_of 0 []) × (rest_in rs [] 0 0 ≡ h.sheet)
unfolding rest_in Inside
begins rs h = (record { inside = whole_depth rs h; before = inl (sheet_some rs h) }, sheet_span rs h)
