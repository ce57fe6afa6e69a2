-- Many steps of any run, taken one by one.
use Rattle.std.proofs.Common.{◌≡◌, ℕ, zero, suc, ◌+◌, ◌-◌, ◌≤◌, sym, refl, ap, ◌∙◌, add-zero, arith}
use Rattle.reader.specs.Steps.{Next, went, waits, ended, unfit, go_on, count_on, many, many_done}
use Rattle.caption_box.specs.declared.types.State.TheVariants.{Time}
use Rattle.caption_box.specs.Calls.{state_of, onward}

-- a step whose state was Time was done
pub went_on : {S : Type 0} (o : Next S) (s : S) → state_of o ≡ Time → o ≡ went (onward o s)
went_on (went t) s e = refl
went_on waits s e = let z : ◌≡◌ {A = ℕ} 0 1 = cc in absurd (omega arith)
went_on ended s e = let z : ◌≡◌ {A = ℕ} 0 1 = cc in absurd (omega arith)
went_on unfit s e = let z : ◌≡◌ {A = ℕ} 0 1 = cc in absurd (omega arith)

-- any other left the run as it was
pub stayed : {S : Type 0} (o : Next S) (s : S) → (state_of o ≡ Time → ⊥) → onward o s ≡ s
stayed (went t) s n = absurd (n refl)
stayed waits s n = refl
stayed ended s n = refl
stayed unfit s n = refl

-- n steps from s₀, all of them done, led to s
pub record Ran {S : Type 0} (f : S → Next S) (s₀ : S) (n : ℕ) (s : S) : Type 0 where
  pub so_far : (j : ℕ) → many f (n + j) s₀ ≡ many f j s
  pub so_done : (j : ℕ) → many_done f (n + j) s₀ ≡ n + many_done f j s

-- what k steps from s₀ come to: s, after n that could be done
pub record Came {S : Type 0} (f : S → Next S) (k : ℕ) (s₀ s : S) (n : ℕ) : Type 0 where
  pub moved : s ≡ many f k s₀
  pub steps : n ≡ many_done f k s₀

module _ {S : Type 0} (f : S → Next S) where
  many_on : (k : ℕ) (s t : S) → f s ≡ went t → many f (suc k) s ≡ many f k t
  many_on k s t e = ap (λ (o : Next S). go_on o s (many f k)) e

  done_on : (k : ℕ) (s t : S) → f s ≡ went t → many_done f (suc k) s ≡ suc (many_done f k t)
  done_on k s t e = ap (λ (o : Next S). count_on o (many_done f k)) e

  many_still : (k : ℕ) (s : S) → (state_of (f s) ≡ Time → ⊥) → many f k s ≡ s
  many_still zero s n = refl
  many_still (suc k) s n = go (f s) n
    where
      go : (o : Next S) → (state_of o ≡ Time → ⊥) → go_on o s (many f k) ≡ s
      go (went t) n = absurd (n refl)
      go waits n = refl
      go ended n = refl
      go unfit n = refl

  done_still : (k : ℕ) (s : S) → (state_of (f s) ≡ Time → ⊥) → many_done f k s ≡ 0
  done_still zero s n = refl
  done_still (suc k) s n = go (f s) n
    where
      go : (o : Next S) → (state_of o ≡ Time → ⊥) → count_on o (many_done f k) ≡ 0
      go (went t) n = absurd (n refl)
      go waits n = refl
      go ended n = refl
      go unfit n = refl

  split : (n j : ℕ) → (n + 1) + j ≡ n + suc j
  split n j = omega arith

  upto : (n k : ℕ) → n ≤ k → n + (k - n) ≡ k
  upto n k h = omega arith

  -- one step more
  pub ran_more : (s₀ : S) (n : ℕ) (s t : S) → Ran f s₀ n s → f s ≡ went t → Ran f s₀ (n + 1) t
  ran_more s₀ n s t h e =
      record {
        so_far = λ j. ap (λ (x : ℕ). many f x s₀) (split n j) ∙ h.so_far (suc j) ∙ many_on j s t e;
        so_done = λ j.
            ap (λ (x : ℕ). many_done f x s₀) (split n j)
            ∙ h.so_done (suc j)
            ∙ ap (λ (x : ℕ). n + x) (done_on j s t e)
            ∙ omega arith;
      }

  -- the next step could not be done
  pub came_stopped : (s₀ : S) (k n : ℕ) (s : S) → Ran f s₀ n s → n ≤ k → (state_of (f s) ≡ Time → ⊥) → Came f k s₀ s n
  came_stopped s₀ k n s h le stop =
      record {
        moved = sym (ap (λ (x : ℕ). many f x s₀) (sym (upto n k le)) ∙ h.so_far (k - n) ∙ many_still (k - n) s stop);
        steps = sym (ap (λ (x : ℕ). many_done f x s₀) (sym (upto n k le)) ∙ h.so_done (k - n) ∙ ap (λ (x : ℕ). n + x) (done_still (k - n) s stop) ∙ add-zero n);
      }

  -- all k are done
  pub came_all : (s₀ : S) (k n : ℕ) (s : S) → Ran f s₀ n s → n ≡ k → Came f k s₀ s k
  came_all s₀ k n s h e =
      let to : n + 0 ≡ k = omega arith in
      record {
        moved = sym (ap (λ (x : ℕ). many f x s₀) (sym to) ∙ h.so_far 0);
        steps = sym (ap (λ (x : ℕ). many_done f x s₀) (sym to) ∙ h.so_done 0 ∙ add-zero n ∙ e);
      }
