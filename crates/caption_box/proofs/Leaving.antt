-- The walk out of the bodies that end with a statement, as the code takes it.
use Rattle.std.proofs.Common.{◌≡◌, ℕ, ◌-◌, ◌<◌, ◌≤◌, List, [], ◌∷◌, ◌++◌, length, Option, sym, ap, ◌∙◌, subst, arith}
use Rattle.std.specs.declared.option.Option.TheVariants as option
use Rattle.std.proofs.lemmas.List.{get_or_past}
use Rattle.reader.specs.declared.types.Statement.{Statement}
use Rattle.reader.specs.declared.types.Kind.{Kind}
use Rattle.reader.specs.declared.types.Kind.TheVariants.{While, Loop}
use Rattle.reader.specs.Records.{zero_record}
use Rattle.reader.specs.Checks.{at, IsSheet, sibling}
use Rattle.reader.proofs.Spans.{zero_statement}
use Rattle.caption_box.specs.declared.rehearsal.walking.Level.{Level}
use Rattle.caption_box.specs.declared.rehearsal.walking.Position.{Position}
use Rattle.caption_box.specs.Rests.{Recs, levels_of, depth_of, position_of, body_end, rest_in, Bodied, Stands, Held, opened, rest_behind, rest_after, Reaches}
use Rattle.caption_box.proofs.Fines.{fines}
use Rattle.caption_box.proofs.Levels.{at_within, small_at, opens_room, body_end_is, sibling-some, sibling-none, leave_some, leave_all, outer_held, outer_few, leave_while, leave_loop, leave_round, enter_loop, enter_while}

-- what is read past the end
pub record_past : (rs : Recs) (i : ℕ) → length rs ≤ i → zero_statement ≡ at rs i
record_past rs i h = ap (λ r. r.item) (sym (get_or_past rs i zero_record h))

-- the walk behind the statement of p has come to the statement of q, which ends with its body
abbrev pub Leaving : Recs → Position → Position → Type 0
Leaving rs p q = IsSheet rs → Held rs p → Held rs q × (rest_behind rs q ≡ rest_behind rs p)

-- e is the end of the innermost body, and o what the next-sibling question told of it
module _ (rs : Recs) (p q : Position) (walk : Leaving rs p q) (e : ℕ) (o : Option ℕ) (ee : e ≡ body_end rs (levels_of q) (depth_of q)) (eo : o ≡ sibling rs q.at e) where
  -- there is a next statement
  pub reach_next : (n : ℕ) → o ≡ option.Some n → IsSheet rs → Held rs p → Reaches rs (position_of n (levels_of q)) (rest_behind rs p)
  reach_next n some h w =
      let v = walk h w in
      let F = fines rs h in
      let t = sibling-some rs q.at e n o (at_within rs F q v.0) eo some in
      let s = leave_some rs F (levels_of q) q.at v.0 (omega (arith, t.1, ee)) in
      record {
        stands = subst (λ (x : ℕ). Stands rs (position_of x (levels_of q))) (sym t.0) s;
        left = ap (λ (x : ℕ). rest_in rs (levels_of q) (depth_of q) x) t.0 ∙ v.1;
      }

  over : o ≡ option.None → IsSheet rs → Held rs q → body_end rs (levels_of q) (depth_of q) ≤ (at rs q.at).end
  over none h w = omega (arith, sibling-none rs q.at e o (at_within rs (fines rs h) q w) eo none, ee)

  -- there is none, and no open level
  pub reach_end : o ≡ option.None → (ls : List Level) → ls ≡ levels_of q → depth_of q ≡ 0 → IsSheet rs → Held rs p → Reaches rs (position_of (length rs) ls) (rest_behind rs p)
  reach_end none ls el z h w =
      let v = walk h w in
      let r = leave_all rs (levels_of q) q.at z (over none h v.0) in
      let goal : List Level → Type 0 = λ x. Reaches rs (position_of (length rs) x) (rest_behind rs p) in
      subst goal (sym el) (record { stands = r.0; left = r.1 ∙ v.1 })

  -- there is none, and l, whose statement has the record s, was open inside ls
  module _ (none : o ≡ option.None) (ls : List Level) (l : Level) (s : Statement) (el : levels_of q ≡ ls ++ l ∷ []) (es : s ≡ at rs l.head) where
    inner : Held rs q → Held rs (position_of q.at (ls ++ l ∷ []))
    inner w = subst (λ (x : List Level). Held rs (position_of q.at x)) el w

    ended : IsSheet rs → Held rs q → (at rs l.head).end ≤ (at rs q.at).end
    ended h w = omega (arith, over none h w, ap (λ (x : List Level). body_end rs x (length x)) el, body_end_is ls l rs)

    behind : rest_in rs (ls ++ l ∷ []) (length (ls ++ l ∷ [])) (at rs q.at).end ≡ rest_behind rs q
    behind = ap (λ (x : List Level). rest_in rs x (length x) (at rs q.at).end) (sym el)

    kind_is : s.kind ≡ (at rs l.head).kind
    kind_is = ap (λ (x : Statement). x.kind) es

    -- that of a WHILE, which comes again
    pub reach_while : s.kind ≡ While → IsSheet rs → Held rs p → Reaches rs (position_of l.head ls) (rest_behind rs p)
    reach_while k h w =
        let v = walk h w in
        let r = leave_while rs (fines rs h) ls l q.at (inner v.0) (ended h v.0) (sym kind_is ∙ k) in
        record { stands = r.0; left = r.1 ∙ behind ∙ v.1 }

    -- that of a LOOP with rounds left
    pub reach_round : (s.kind ≡ While → ⊥) → 0 < l.left → (m : Position)
        → (length ls < 8 → l.head < 256 → m ≡ opened (position_of l.head ls) (l.left - 1)) → IsSheet rs → Held rs p → Reaches rs m (rest_behind rs p)
    reach_round k lt m em h w =
        let v = walk h w in
        let F = fines rs h in
        let u = outer_held rs F ls l q.at (inner v.0) (ended h v.0) in
        let few = outer_few rs F ls l q.at (inner v.0) (ended h v.0) in
        let is = em few (small_at rs h (position_of l.head ls) u) in
        let r = leave_round rs F ls l q.at (inner v.0) (ended h v.0) (λ x. k (kind_is ∙ x)) (l.left - 1) (omega arith) m is in
        record { stands = r.0; left = r.1 ∙ behind ∙ v.1 }

    -- that of a LOOP with none left, which is closed
    pub leaving_more : (s.kind ≡ While → ⊥) → l.left ≤ 0 → Leaving rs p (position_of l.head ls)
    leaving_more k le h w =
        let v = walk h w in
        let F = fines rs h in (
          outer_held rs F ls l q.at (inner v.0) (ended h v.0),
          leave_loop rs F ls l q.at (inner v.0) (ended h v.0) (λ x. k (kind_is ∙ x)) (omega arith) ∙ behind ∙ v.1,
        )

-- the statement of p, of kind k, opens a level, and q is the position before its body
module _ (rs : Recs) (p q : Position) (k : Kind) (v : ℕ) (more : v ≡ 0 → ⊥) where
  pub reach_loop : k ≡ Loop → (depth_of p < 8 → p.at < 256 → q ≡ opened p (v - 1)) → IsSheet rs → Held rs p → k ≡ (at rs p.at).kind → Reaches rs q (rest_after rs p v)
  reach_loop is eq h w ek =
      let F = fines rs h in
      let b : Bodied (at rs p.at).kind = subst Bodied (sym is ∙ ek) tt in
      let e = eq (opens_room rs F (levels_of p) p.at w b) (small_at rs h p w) in
      let r = enter_loop rs F p w v (sym ek ∙ is) more q e in
      record { stands = r.0; left = r.1 }

  pub reach_body : k ≡ While → (depth_of p < 8 → p.at < 256 → q ≡ opened p 0) → IsSheet rs → Held rs p → k ≡ (at rs p.at).kind → Reaches rs q (rest_after rs p v)
  reach_body is eq h w ek =
      let F = fines rs h in
      let b : Bodied (at rs p.at).kind = subst Bodied (sym is ∙ ek) tt in
      let e = eq (opens_room rs F (levels_of p) p.at w b) (small_at rs h p w) in
      let r = enter_while rs F p w v (sym ek ∙ is) more q e in
      record { stands = r.0; left = r.1 }
