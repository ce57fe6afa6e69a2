-- Many steps: one more at the end of k, as a loop that counts up has it, and some after others.
use Rattle.std.proofs.Common.{◌≡◌, ℕ, zero, suc, ◌+◌, sym, refl, ap, ◌∙◌, suc-add, zero-add, arith}
use Rattle.reader.specs.Steps.{Next, went, waits, ended, unfit, go_on, count_on, many, many_done}

module _ {S : Type 0} (f : S → Next S) where
  -- the step at the end, from the state that k steps led to
  abbrev pub step_more : S → S
  step_more s = go_on (f s) s (λ x. x)

  abbrev pub done_more : S → ℕ
  done_more s = count_on (f s) (λ x. 0)

  pub many_more : (k : ℕ) (s : S) → many f (suc k) s ≡ step_more (many f k s)
  many_more zero s = first (f s)
    where
      first : (o : Next S) → go_on o s (many f 0) ≡ go_on o s (λ x. x)
      first (went s') = refl
      first waits = refl
      first ended = refl
      first unfit = refl
  many_more (suc k) s = go (f s) refl (λ x. many_more k x)
    where
      go : (o : Next S) → f s ≡ o → ((x : S) → many f (suc k) x ≡ step_more (many f k x)) → go_on o s (many f (suc k)) ≡ step_more (go_on o s (many f k))
      go (went s') e ih = ih s'
      go waits e ih = sym (ap (λ (o : Next S). go_on o s (λ x. x)) e)
      go ended e ih = sym (ap (λ (o : Next S). go_on o s (λ x. x)) e)
      go unfit e ih = sym (ap (λ (o : Next S). go_on o s (λ x. x)) e)

  pub dstep_more : (k : ℕ) (s : S) → many_done f (suc k) s ≡ many_done f k s + done_more (many f k s)
  dstep_more zero s = first (f s)
    where
      first : (o : Next S) → count_on o (many_done f 0) ≡ 0 + count_on o (λ x. 0)
      first (went s') = refl
      first waits = refl
      first ended = refl
      first unfit = refl
  dstep_more (suc k) s = go (f s) refl (λ x. dstep_more k x)
    where
      go : (o : Next S) → f s ≡ o → ((x : S) → many_done f (suc k) x ≡ many_done f k x + done_more (many f k x))
          → count_on o (many_done f (suc k)) ≡ count_on o (many_done f k) + done_more (go_on o s (many f k))
      go (went s') e ih = ap suc (ih s') ∙ sym (suc-add (many_done f k s') (done_more (many f k s')))
      go waits e ih = sym (zero-add (done_more s) ∙ ap (λ (o : Next S). count_on o (λ x. 0)) e)
      go ended e ih = sym (zero-add (done_more s) ∙ ap (λ (o : Next S). count_on o (λ x. 0)) e)
      go unfit e ih = sym (zero-add (done_more s) ∙ ap (λ (o : Next S). count_on o (λ x. 0)) e)

  -- where no step can be done, none is
  pub many_still : (k : ℕ) (s : S) → ((t : S) → f s ≡ went t → ⊥) → many f k s ≡ s
  many_still zero s none = refl
  many_still (suc k) s none = go (f s) none
    where
      go : (o : Next S) → ((t : S) → o ≡ went t → ⊥) → go_on o s (many f k) ≡ s
      go (went t) none = absurd (none t refl)
      go waits none = refl
      go ended none = refl
      go unfit none = refl

  -- k steps, and then j
  pub many_add : (k j : ℕ) (s : S) → many f (k + j) s ≡ many f j (many f k s)
  many_add zero j s = ap (λ (n : ℕ). many f n s) (zero-add j)
  many_add (suc k) j s = ap (λ (n : ℕ). many f n s) (suc-add k j) ∙ go (f s) refl (λ t. many_add k j t)
    where
      blocked : (o : Next S) → f s ≡ o → ((t : S) → o ≡ went t → ⊥) → s ≡ many f j s
      blocked o e not = sym (many_still j s (λ t q. not t (sym e ∙ q)))

      go : (o : Next S) → f s ≡ o → ((t : S) → many f (k + j) t ≡ many f j (many f k t)) → go_on o s (many f (k + j)) ≡ many f j (go_on o s (many f k))
      go (went t) e ih = ih t
      go waits e ih = blocked waits e (λ t q. let z : ◌≡◌ {A = ℕ} 0 1 = cc in absurd (omega arith))
      go ended e ih = blocked ended e (λ t q. let z : ◌≡◌ {A = ℕ} 0 1 = cc in absurd (omega arith))
      go unfit e ih = blocked unfit e (λ t q. let z : ◌≡◌ {A = ℕ} 0 1 = cc in absurd (omega arith))

  -- as many steps as are done lead just as far
  pub many-many_done : (k : ℕ) (s : S) → many f (many_done f k s) s ≡ many f k s
  many-many_done zero s = refl
  many-many_done (suc k) s = go (f s) refl (λ t. many-many_done k t)
    where
      go : (o : Next S) → f s ≡ o → ((t : S) → many f (many_done f k t) t ≡ many f k t) → many f (count_on o (many_done f k)) s ≡ go_on o s (many f k)
      go (went t) e ih = ap (λ (o : Next S). go_on o s (many f (many_done f k t))) e ∙ ih t
      go waits e ih = refl
      go ended e ih = refl
      go unfit e ih = refl
