-- What the loop of a rehearsal's tick keeps, and what it comes to.
use Rattle.std.proofs.Common.{◌≡◌, ℕ, suc, ◌+◌, ◌<◌, ◌≤◌, List, sym, ap, ◌∙◌, arith}
use Rattle.reader.specs.Steps.{went}
use Rattle.reader.specs.WrittenRun.{WrittenRun, written_step}
use Rattle.caption_box.specs.declared.types.State.{State}
use Rattle.caption_box.specs.declared.types.State.TheVariants.{Time}
use Rattle.caption_box.specs.declared.rehearsal.Rehearsal.{Rehearsal}
use Rattle.caption_box.specs.Calls.{state_of}
use Rattle.caption_box.specs.Rehearsals.{run_of, Stepped, Gone}
use Rattle.caption_box.proofs.ManySteps.{went_on, stayed, Ran, ran_more, came_stopped, came_all}
use Rattle.caption_box.proofs.Told.{rehearsed}

-- after n steps of a tick the rehearsal, which began as s₀ on the numbers ν₀ under top₀, is s on ν under top
pub record Rehearsing (top₀ : ℕ) (s₀ : Rehearsal) (ν₀ : List ℕ) (n top : ℕ) (s : Rehearsal) (ν : List ℕ) : Type 0 where
  pub same : s.records ≡ s₀.records
  pub limit : top ≡ top₀
  pub most : s.tallies.written ≤ s₀.tallies.written + n
  pub ran : Ran (written_step top₀) (run_of s₀ ν₀) n (run_of s ν)

module _ (top₀ : ℕ) (s₀ : Rehearsal) (ν₀ : List ℕ) (n top : ℕ) (s : Rehearsal) (ν : List ℕ) (g : Rehearsing top₀ s₀ ν₀ n top s ν) where
  -- one step more
  pub rehearsing_more : (o : State) (top' : ℕ) (t : Rehearsal) (ν' : List ℕ) → o ≡ Time → t.records ≡ s.records → top' ≡ top
      → t.tallies.written ≤ suc s.tallies.written → Stepped top s ν o t ν' → Rehearsing top₀ s₀ ν₀ (n + 1) top' t ν'
  rehearsing_more o top' t ν' time same limit most d =
      record {
        same = same ∙ g.same;
        limit = limit ∙ g.limit;
        most = omega (arith, g.most);
        ran =
            let did : written_step top (run_of s ν) ≡ went (run_of t ν') = went_on (written_step top (run_of s ν)) (run_of s ν) (sym d.state ∙ time) ∙ ap went (sym d.moved) in
            ran_more (written_step top₀) (run_of s₀ ν₀) n (run_of s ν) (run_of t ν') g.ran (ap (λ (x : ℕ). written_step x (run_of s ν)) (sym g.limit) ∙ did);
      }

  -- the next step could not be done
  pub rehearsed_stopped : (k : ℕ) (o : State) (t : Rehearsal) (ν' : List ℕ) → n < k → (o ≡ Time → ⊥) → Stepped top s ν o t ν'
      → Gone top₀ k s₀ ν₀ (record { steps = n; state = o }) t ν'
  rehearsed_stopped k o t ν' lt stop d =
      let at : o ≡ state_of (written_step top₀ (run_of s ν)) = d.state ∙ ap (λ (x : ℕ). state_of (written_step x (run_of s ν))) g.limit in
      let came = came_stopped (written_step top₀) (run_of s₀ ν₀) k n (run_of s ν) g.ran (omega arith) (λ e. stop (at ∙ e)) in
      record {
        kept = d.kept;
        moved = d.moved ∙ stayed (written_step top (run_of s ν)) (run_of s ν) (λ e. stop (d.state ∙ e)) ∙ came.moved;
        steps = came.steps;
        state = at ∙ ap (λ (x : WrittenRun). state_of (written_step top₀ x)) came.moved;
      }

  -- all k are done
  pub rehearsed_all : (k : ℕ) (o : State) → n ≡ k → o ≡ state_of (written_step top (run_of s ν))
      → Gone top₀ k s₀ ν₀ (record { steps = k; state = o }) s ν
  rehearsed_all k o e look =
      let came = came_all (written_step top₀) (run_of s₀ ν₀) k n (run_of s ν) g.ran e in
      record {
        kept = rehearsed s;
        moved = came.moved;
        steps = came.steps;
        state = look ∙ ap (λ (x : ℕ). state_of (written_step x (run_of s ν))) g.limit ∙ ap (λ (x : WrittenRun). state_of (written_step top₀ x)) came.moved;
      }
