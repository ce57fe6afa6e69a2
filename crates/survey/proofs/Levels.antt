-- The levels around a record, and the most of them.
use Rattle.std.proofs.Common.{◌≡◌, ℕ, zero, suc, ◌+◌, ◌<◌, ◌≤◌, max, Bool, true, false, cond, ◌&&◌, nat_eq, nat_le, nat_lt, ◌⊎◌, List, [], ◌∷◌, length, refl, sym, ap, ◌∙◌, subst, inl, inr, ⊎_elim, arith}
use Rattle.std.proofs.lemmas.Bool.{cases_lt}
use Rattle.std.specs.List.{filter, enumerate_from, range_with_len, fold}
use Rattle.reader.specs.declared.types.Placed.{Placed}
use Rattle.reader.specs.declared.types.Statement.{Statement}
use Rattle.reader.specs.declared.types.Kind.{Kind}
use Rattle.reader.specs.declared.types.Kind.TheVariants.{Zero, Plus, Minus, Loop, While}
use Rattle.survey.specs.Counts.{block_count, level_count, is_open, levels_from, blocks_around, Deepest}

-- whether record p.1 of index p.0 is open at j
abbrev pub open_around : ℕ → ℕ × Placed Statement → Bool
open_around j p = is_open p.1.item p.0 j

cond_and : (a b : Bool) (k : Kind) → cond a (cond b (block_count k) 0) 0 ≡ cond (a && (b && nat_eq (block_count k) 1)) 1 0
cond_and false b k = refl
cond_and true false k = refl
cond_and true true Zero = refl
cond_and true true Plus = refl
cond_and true true Minus = refl
cond_and true true Loop = refl
cond_and true true While = refl

level_is : (s : Statement) (i j : ℕ) → level_count s i j ≡ cond (is_open s i j) 1 0
level_is s i j = cond_and (nat_le i j) (nat_lt j s.end) s.kind

length_cond : {A : Type 0} (b : Bool) (x : A) (xs : List A) → length (cond b (x ∷ xs) xs) ≡ cond b 1 0 + length xs
length_cond true x xs = omega arith
length_cond false x xs = omega arith

pub length-filter_open : (i : ℕ) (rs : List (Placed Statement)) (j : ℕ) → length (filter (open_around j) (enumerate_from i rs)) ≡ levels_from i rs j
length-filter_open i [] j = refl
length-filter_open i (r ∷ rs) j =
    let h : length (filter (open_around j) (enumerate_from (i + 1) rs)) ≡ levels_from (suc i) rs j = length-filter_open (i + 1) rs j ∙ ap (λ k. levels_from k rs j) {y = suc i} (omega arith) in
    length_cond (is_open r.item i j) (i, r) (filter (open_around j) (enumerate_from (i + 1) rs))
    ∙ omega (arith, h, level_is r.item i j)

-- r is the largest of acc and of f at the n numbers from a on
pub record Largest (f : ℕ → ℕ) (a n acc r : ℕ) : Type 0 where
  pub above : acc ≤ r
  pub bound : (j : ℕ) → a ≤ j → j < a + n → f j ≤ r
  pub reached : (r ≡ acc) ⊎ ((j : ℕ) × (j < a + n) × (f j ≡ r))

first_or_later : (a j : ℕ) → a ≤ j → (j ≡ a) ⊎ (a + 1 ≤ j)
first_or_later a j le = ⊎_elim (λ (lt : a < j). inr (omega arith)) (λ (ge : j ≤ a). inl (omega arith)) (cases_lt a j)

pub largest : (f : ℕ → ℕ) (a n acc : ℕ) → Largest f a n acc (fold (λ m j. max m (f j)) acc (range_with_len a n))
largest f a zero acc = record { above = omega arith; bound = λ j le lt. absurd (omega arith); reached = inl refl }
largest f a (suc n) acc =
    let h : Largest f (a + 1) n (max acc (f a)) (fold (λ m j. max m (f j)) (max acc (f a)) (range_with_len (a + 1) n)) = largest f (a + 1) n (max acc (f a)) in
    record {
      above = omega (arith, h.above);
      bound = λ j le lt. ⊎_elim (λ (e : j ≡ a). rw e (omega (arith, h.above))) (λ (ne : a + 1 ≤ j). h.bound j ne (omega arith)) (first_or_later a j le);
      reached =
          ⊎_elim
          (λ (e : fold (λ m j. max m (f j)) (max acc (f a)) (range_with_len (a + 1) n) ≡ max acc (f a)).
          ⊎_elim (λ (lt : acc < f a). inr (a, omega arith, omega (arith, e))) (λ (le : f a ≤ acc). inl (omega (arith, e))) (cases_lt acc (f a)))
          (λ (r : (j : ℕ) × (j < (a + 1) + n) × (f j ≡ fold (λ m j. max m (f j)) (max acc (f a)) (range_with_len (a + 1) n))). inr (r.0, omega (arith, r.1), r.2))
          h.reached;
    }

pub deepest_of : (rs : List (Placed Statement)) (d : ℕ) → d ≡ fold (λ m j. max m (blocks_around rs j)) 0 (range_with_len 0 (length rs)) → Deepest rs d
deepest_of rs d e =
    let h : Largest (blocks_around rs) 0 (length rs) 0 d = subst (λ r. Largest (blocks_around rs) 0 (length rs) 0 r) (sym e) (largest (blocks_around rs) 0 (length rs) 0) in
    record {
      bound = λ j lt. h.bound j (omega arith) (omega arith);
      reached = ⊎_elim (λ (z : d ≡ 0). inl z) (λ (r : (j : ℕ) × (j < 0 + length rs) × (blocks_around rs j ≡ d)). inr (r.0, omega (arith, r.1), r.2)) h.reached;
    }
