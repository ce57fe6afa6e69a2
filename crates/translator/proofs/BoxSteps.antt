-- Many box steps, and how soon one of them is a written step.
use Rattle.std.proofs.Common.{◌≡◌, ℕ, zero, suc, ◌+◌, ◌*◌, ◌<◌, ◌⊎◌, List, sym, refl, ap, ◌∙◌, subst, inl, inr, arith}
use mathlib.Core.Option.{some}
use Rattle.reader.specs.Sheet.{done}
use Rattle.reader.specs.Steps.{Next, waits, ended, unfit, go_on, count_on}
use Rattle.reader.specs.WrittenRun.{WrittenRun, written_step, written_steps}
use Rattle.translator.specs.JumpCode.{halt, instruction_at, Box, box_step, box_steps, box_steps_done}
use Rattle.translator.specs.Standing.{outermost, Spot, before, testing, lowering, seen, quiet, StandsAt}
use Rattle.translator.proofs.BoxStep.{silent, wrote, stuck, halted, Moved, step, obeys, quiet_most}
use Rattle.translator.specs.declared.types.Instruction.{Instruction}

-- from s in spot m the box went to s': the written run that it stands for took w steps
pub record Gone (code : List Instruction) (n d top : ℕ) (s : Box) (m : Spot) (s' : Box) (did : ℕ) : Type 0 where
  pub spot : Spot
  pub at : StandsAt code n d top s' spot
  pub w : ℕ
  pub written : s'.counts.written ≡ s.counts.written + w
  pub runs : written_steps top w (seen s m) ≡ seen s' spot
  pub steps : s'.steps ≡ s.steps + did

module _ (code : List Instruction) (n d top : ℕ) where
  stays : (s : Box) (m : Spot) → StandsAt code n d top s m → Gone code n d top s m s 0
  stays s m h = record { spot = m; at = h; w = 0; written = omega arith; runs = refl; steps = omega arith }

  abbrev next : (k : ℕ) (s : Box) → Next Box → Box
  next k s o = go_on o s (box_steps top n code k)

  -- k + 1 steps, by what the first came to
  abbrev Then : (k : ℕ) (s : Box) (m : Spot) → Next Box → Type 0
  Then k s m o = Gone code n d top s m (go_on o s (box_steps top n code k)) (count_on o (box_steps_done top n code k))

  pub goes : (k : ℕ) (s : Box) (m : Spot) → StandsAt code n d top s m → Gone code n d top s m (box_steps top n code k s) (box_steps_done top n code k s)
  goes zero s m h = stays s m h
  goes (suc k) s m h =
      elim (step code n d top s m h) [
        | silent s' m' role e moved at same fall ↦
            let r = goes k s' m' at in
            let a = r.written in
            let b = moved.written in
            let c = r.steps in
            let f = moved.steps in
            subst (Then k s m) (sym e)
            (record { spot = r.spot; at = r.at; w = r.w; written = omega arith; runs = ap (written_steps top r.w) (sym same) ∙ r.runs; steps = omega arith })
        | wrote s' m' role e moved at same ↦
            let r = goes k s' m' at in
            let a = r.written in
            let b = moved.written in
            let c = r.steps in
            let f = moved.steps in
            subst (Then k s m) (sym e)
            (record {
              spot = r.spot;
              at = r.at;
              w = suc r.w;
              written = omega arith;
              runs = ap (λ (o : Next WrittenRun). go_on o (seen s m) (written_steps top r.w)) same ∙ r.runs;
              steps = omega arith;
            })
        | stuck e same ↦ subst (Then k s m) (sym e) (stays s m h)
        | halted e is ↦ subst (Then k s m) (sym (obeys code n top s e tt)) (stays s m h)
      ]

  -- k steps on, beside a written run a
  abbrev pub Soon : Box → WrittenRun → Box → Type 0
  Soon s a s' =
      (s.counts.written < s'.counts.written)
      ⊎ ((instruction_at code s'.label ≡ some halt) ⊎ ((box_step top n code s' ≡ waits) × (written_step top a ≡ waits)))

  soon_from : (s s₁ s' : Box) (a a₁ : WrittenRun) → Moved s s₁ 0 → a₁ ≡ a → Soon s₁ a₁ s' → Soon s a s'
  soon_from s s₁ s' a a₁ moved same (inl lt) = let e = moved.written in inl (omega arith)
  soon_from s s₁ s' a a₁ moved same (inr (inl e)) = inr (inl e)
  soon_from s s₁ s' a a₁ moved same (inr (inr e)) = inr (inr (e.0, ap (written_step top) (sym same) ∙ e.1))

  pub soon : (k : ℕ) (s : Box) (m : Spot) → StandsAt code n d top s m → quiet m < k → Soon s (seen s m) (box_steps top n code k s)
  soon zero s m h q = absurd (omega arith)
  soon (suc k) s m h q =
      elim (step code n d top s m h) [
        | silent s' m' role e moved at same fall ↦
            subst (Soon s (seen s m)) (sym (ap (next k s) e))
            (soon_from s s' (box_steps top n code k s') (seen s m) (seen s' m') moved same (soon k s' m' at (omega arith)))
        | wrote s' m' role e moved at same ↦
            let r = goes k s' m' at in
            let a = r.written in
            let b = moved.written in
            subst (Soon s (seen s m)) (sym (ap (next k s) e)) (inl (omega arith))
        | stuck e same ↦ subst (Soon s (seen s m)) (sym (ap (next k s) e)) (inr (inr (e, same)))
        | halted e is ↦ subst (Soon s (seen s m)) (sym (ap (next k s) (obeys code n top s e tt))) (inr (inl e))
      ]

  pub quiet_bound : (s : Box) (m : Spot) → StandsAt code n d top s m → quiet m < 2 * d + 2
  quiet_bound s (before p k) h = let a = quiet_most p k in let b = h.place.3 in omega arith
  quiet_bound s (testing c b p k) h = let a = h.place.3.body_deep in omega arith
  quiet_bound s (lowering c b p k) h = omega arith

  -- at HALT the box stands before nothing
  pub at-halt : (s : Box) (m : Spot) → StandsAt code n d top s m → instruction_at code s.label ≡ some halt → m ≡ before done outermost
  at-halt s m h e =
      let stop : box_step top n code s ≡ ended = obeys code n top s e tt in
      elim (step code n d top s m h) [
        | silent s' m' role g moved at same fall ↦ let z : ◌≡◌ {A = ℕ} 0 1 = cc in absurd (omega arith)
        | wrote s' m' role g moved at same ↦ let z : ◌≡◌ {A = ℕ} 0 1 = cc in absurd (omega arith)
        | stuck g same ↦ let z : ◌≡◌ {A = ℕ} 0 1 = cc in absurd (omega arith)
        | halted g is ↦ is
      ]

  -- the code of a sheet can always be obeyed
  pub never_unfit : (s : Box) (m : Spot) → StandsAt code n d top s m → box_step top n code s ≡ unfit → ⊥
  never_unfit s m h e =
      elim (step code n d top s m h) [
        | silent s' m' role g moved at same fall ↦ let z : ◌≡◌ {A = ℕ} 0 1 = cc in absurd (omega arith)
        | wrote s' m' role g moved at same ↦ let z : ◌≡◌ {A = ℕ} 0 1 = cc in absurd (omega arith)
        | stuck g same ↦ let z : ◌≡◌ {A = ℕ} 0 1 = cc in absurd (omega arith)
        | halted g is ↦ let stop = obeys code n top s g tt in let z : ◌≡◌ {A = ℕ} 0 1 = cc in absurd (omega arith)
      ]
