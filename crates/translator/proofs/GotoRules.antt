-- The box step takes exactly the published steps of GOTO programs.
use Rattle.std.proofs.Common.{◌≡◌, ℕ, zero, suc, ◌+◌, ◌-◌, ◌≤◌, Bool, true, false, T, ltb, leb, List, length, get_or, set, sym, refl, ap, ◌∙◌, subst, arith, le→leb, leb→le}
use mathlib.Core.Option.{Option, none, some}
use Rattle.reader.specs.Steps.{Next, went, waits, ended, unfit, if_low}
use Rattle.translator.specs.declared.types.Role.{Role}
use Rattle.translator.specs.declared.types.Operation.{Operation}
use Rattle.translator.specs.declared.types.Operation.TheVariants.{Plus, Minus, If, Goto, Halt}
use Rattle.translator.specs.declared.types.Instruction.{Instruction}
use Rattle.translator.specs.JumpCode.{instruction, instruction_at, inside, fits, AllFit, Box, tallied, to, after_if, obey, obey_fit, obey_at}
use Rattle.translator.specs.GotoRules.{GotoStep, plus_rule, minus_rule, goto_rule, zero_rule, other_rule, BoxStepIsPublished}
use Rattle.translator.proofs.Fits.{is_true, and_left, and_right}

-- where a published step leads, by what stands at the label
abbrev Aimed : ℕ → ℕ → List ℕ → List ℕ → ℕ → Type 0
Aimed len k ρ ρ' l' = (1 ≤ k) × (k ≤ len) × (ρ' ≡ ρ) × (l' ≡ k)

abbrev ByTest : ℕ → ℕ → ℕ → List ℕ → ℕ → List ℕ → ℕ → Type 0
ByTest zero len k ρ l ρ' l' = Aimed len k ρ ρ' l'
ByTest (suc v) len k ρ l ρ' l' = (ρ' ≡ ρ) × (l' ≡ suc l)

abbrev ByOperation : ℕ → ℕ → Operation → List ℕ → ℕ → List ℕ → ℕ → Type 0
ByOperation top len (Plus i j k) ρ l ρ' l' = (get_or ρ j 0 + k ≤ top) × (ρ' ≡ set ρ i (get_or ρ j 0 + k)) × (l' ≡ suc l)
ByOperation top len (Minus i j k) ρ l ρ' l' = (ρ' ≡ set ρ i (get_or ρ j 0 - k)) × (l' ≡ suc l)
ByOperation top len (If i k) ρ l ρ' l' = ByTest (get_or ρ i 0) len k ρ l ρ' l'
ByOperation top len (Goto k) ρ l ρ' l' = Aimed len k ρ ρ' l'
ByOperation top len Halt ρ l ρ' l' = ⊥

abbrev ByInstruction : ℕ → ℕ → Option Instruction → List ℕ → ℕ → List ℕ → ℕ → Type 0
ByInstruction top len none ρ l ρ' l' = ⊥
ByInstruction top len (some x) ρ l ρ' l' = ByOperation top len x.operation ρ l ρ' l'

test_leads : (len k l i v : ℕ) (ρ : List ℕ) → (v ≡ 0 → ⊥) → ByTest v len k ρ l ρ (suc l)
test_leads len k l i zero ρ h = absurd (h refl)
test_leads len k l i (suc v) ρ h = (refl, refl)

leads : (top : ℕ) (c : List Instruction) (ρ : List ℕ) (l : ℕ) (ρ' : List ℕ) (l' : ℕ) → GotoStep top c ρ l ρ' l' → ByInstruction top (length c) (instruction_at c l) ρ l ρ' l'
leads top c _ _ _ _ (plus_rule ρ l i j k at h) =
    subst (λ (o : Option Instruction). ByInstruction top (length c) o ρ l (set ρ i (get_or ρ j 0 + k)) (suc l)) (sym at.1) (h, refl, refl)
leads top c _ _ _ _ (minus_rule ρ l i j k at) =
    subst (λ (o : Option Instruction). ByInstruction top (length c) o ρ l (set ρ i (get_or ρ j 0 - k)) (suc l)) (sym at.1) (refl, refl)
leads top c _ _ _ _ (goto_rule ρ l k at low high) = subst (λ (o : Option Instruction). ByInstruction top (length c) o ρ l ρ k) (sym at.1) (low, high, refl, refl)
leads top c _ _ _ _ (zero_rule ρ l i k at low high z) =
    subst (λ (o : Option Instruction). ByInstruction top (length c) o ρ l ρ k) (sym at.1)
    (subst (λ (v : ℕ). ByTest v (length c) k ρ l ρ k) (sym z) (low, high, refl, refl))
leads top c _ _ _ _ (other_rule ρ l i k at h) =
    subst (λ (o : Option Instruction). ByInstruction top (length c) o ρ l ρ (suc l)) (sym at.1) (test_leads (length c) k l i (get_or ρ i 0) ρ h)

-- the same instruction leads to the same
abbrev Same : List ℕ → List ℕ → ℕ → ℕ → Type 0
Same ρ ρ' l l' = (ρ ≡ ρ') × (l ≡ l')

same_test : (v len k : ℕ) (ρ : List ℕ) (l : ℕ) (ρ' ρ'' : List ℕ) (l' l'' : ℕ) → ByTest v len k ρ l ρ' l' → ByTest v len k ρ l ρ'' l'' → Same ρ' ρ'' l' l''
same_test zero len k ρ l ρ' ρ'' l' l'' a b = (a.2 ∙ sym b.2, a.3 ∙ sym b.3)
same_test (suc v) len k ρ l ρ' ρ'' l' l'' a b = (a.0 ∙ sym b.0, a.1 ∙ sym b.1)

same_operation : (top len : ℕ) (o : Operation) (ρ : List ℕ) (l : ℕ) (ρ' ρ'' : List ℕ) (l' l'' : ℕ)
    → ByOperation top len o ρ l ρ' l' → ByOperation top len o ρ l ρ'' l'' → Same ρ' ρ'' l' l''
same_operation top len (Plus i j k) ρ l ρ' ρ'' l' l'' a b = (a.1 ∙ sym b.1, a.2 ∙ sym b.2)
same_operation top len (Minus i j k) ρ l ρ' ρ'' l' l'' a b = (a.0 ∙ sym b.0, a.1 ∙ sym b.1)
same_operation top len (If i k) ρ l ρ' ρ'' l' l'' a b = same_test (get_or ρ i 0) len k ρ l ρ' ρ'' l' l'' a b
same_operation top len (Goto k) ρ l ρ' ρ'' l' l'' a b = (a.2 ∙ sym b.2, a.3 ∙ sym b.3)
same_operation top len Halt ρ l ρ' ρ'' l' l'' a b = absurd a

same_instruction : (top len : ℕ) (o : Option Instruction) (ρ : List ℕ) (l : ℕ) (ρ' ρ'' : List ℕ) (l' l'' : ℕ)
    → ByInstruction top len o ρ l ρ' l' → ByInstruction top len o ρ l ρ'' l'' → Same ρ' ρ'' l' l''
same_instruction top len none ρ l ρ' ρ'' l' l'' a b = absurd a
same_instruction top len (some x) ρ l ρ' ρ'' l' l'' a b = same_operation top len x.operation ρ l ρ' ρ'' l' l'' a b

-- the box goes there
abbrev Reaches : Next Box → Box → List ℕ → ℕ → Type 0
Reaches o s ρ l = (t : Box) × (o ≡ went t) × (t.registers ≡ ρ) × (t.label ≡ l) × (t.steps ≡ suc s.steps)

reach_test : (v len k : ℕ) (r : Role) (s : Box) (ρ : List ℕ) (l : ℕ) → ByTest v len k s.registers s.label ρ l → Reaches (went (after_if v r k s)) s ρ l
reach_test zero len k r s ρ l h = (_, refl, sym h.2, sym h.3, refl)
reach_test (suc v) len k r s ρ l h = (_, refl, sym h.0, sym h.1, refl)

reaches : (top len : ℕ) (r : Role) (o : Operation) (s : Box) (ρ : List ℕ) (l : ℕ) → ByOperation top len o s.registers s.label ρ l → Reaches (obey top r o s) s ρ l
reaches top len r (Plus i j k) s ρ l h =
    let v = get_or s.registers j 0 + k in
    let t : Box = to (suc s.label) (set s.registers i v) (tallied r s.counts) s in
    (t, ap (λ (x : Bool). if_low x t) (is_true (leb v top) (le→leb v top h.0)), sym h.1, sym h.2, refl)
reaches top len r (Minus i j k) s ρ l h = (_, refl, sym h.0, sym h.1, refl)
reaches top len r (If i k) s ρ l h = reach_test (get_or s.registers i 0) len k r s ρ l h
reaches top len r (Goto k) s ρ l h = (_, refl, sym h.2, sym h.3, refl)
reaches top len r Halt s ρ l h = absurd h

-- a step that is done is published
abbrev PublishedBy : ℕ → List Instruction → Box → Next Box → Type 0
PublishedBy top c s (went t) = GotoStep top c s.registers s.label t.registers t.label
PublishedBy top c s waits = Unit {0}
PublishedBy top c s ended = Unit {0}
PublishedBy top c s unfit = Unit {0}

module _ (top n : ℕ) (c : List Instruction) (s : Box) where
  plus_published : (r : Role) (i j k : ℕ) → instruction_at c s.label ≡ some (instruction r (Plus i j k)) → (x : Bool) → leb (get_or s.registers j 0 + k) top ≡ x
      → PublishedBy top c s (if_low x (to (suc s.label) (set s.registers i (get_or s.registers j 0 + k)) (tallied r s.counts) s))
  plus_published r i j k e true f = plus_rule s.registers s.label i j k (r, e) (leb→le (get_or s.registers j 0 + k) top (subst T (sym f) tt))
  plus_published r i j k e false f = tt

  -- a label that fits is inside
  first : (k : ℕ) → T (inside (length c) k) → 1 ≤ k
  first k t = leb→le 1 k (and_left (leb 1 k) (leb k (length c)) t)

  last : (k : ℕ) → T (inside (length c) k) → k ≤ length c
  last k t = leb→le k (length c) (and_right (leb 1 k) (leb k (length c)) t)

  test_published : (r : Role) (i k : ℕ) → instruction_at c s.label ≡ some (instruction r (If i k)) → T (inside (length c) k) → (v : ℕ) → get_or s.registers i 0 ≡ v
      → PublishedBy top c s (went (after_if v r k s))
  test_published r i k e t zero f = zero_rule s.registers s.label i k (r, e) (first k t) (last k t) f
  test_published r i k e t (suc v) f = other_rule s.registers s.label i k (r, e) (λ z. omega arith)

  operation_published : (r : Role) (o : Operation) → instruction_at c s.label ≡ some (instruction r o) → T (fits n (length c) o) → PublishedBy top c s (obey top r o s)
  operation_published r (Plus i j k) e t = plus_published r i j k e (leb (get_or s.registers j 0 + k) top) refl
  operation_published r (Minus i j k) e t = minus_rule s.registers s.label i j k (r, e)
  operation_published r (If i k) e t = test_published r i k e (and_right (ltb i n) (inside (length c) k) t) (get_or s.registers i 0) refl
  operation_published r (Goto k) e t = goto_rule s.registers s.label k (r, e) (first k t) (last k t)
  operation_published r Halt e t = tt

  fit_published : (x : Instruction) → instruction_at c s.label ≡ some x → (b : Bool) → fits n (length c) x.operation ≡ b → PublishedBy top c s (obey_fit b top x s)
  fit_published x e true f = operation_published x.role x.operation e (subst T (sym f) tt)
  fit_published x e false f = tt

  published : (o : Option Instruction) → instruction_at c s.label ≡ o → PublishedBy top c s (obey_at top n (length c) o s)
  published none e = tt
  published (some x) e = fit_published x e (fits n (length c) x.operation) refl

  -- with a published step the box goes there or is unfit
  fit_reaches : (b : Bool) (x : Instruction) (ρ : List ℕ) (l : ℕ) → ByOperation top (length c) x.operation s.registers s.label ρ l → T b → Reaches (obey_fit b top x s) s ρ l
  fit_reaches true x ρ l h t = reaches top (length c) x.role x.operation s ρ l h
  fit_reaches false x ρ l h t = absurd t

  all_reaches : (o : Option Instruction) (ρ : List ℕ) (l : ℕ) → instruction_at c s.label ≡ o → AllFit n c
      → ByInstruction top (length c) o s.registers s.label ρ l → Reaches (obey_at top n (length c) o s) s ρ l
  all_reaches none ρ l e a h = absurd h
  all_reaches (some x) ρ l e a h = fit_reaches (fits n (length c) x.operation) x ρ l h (a s.label x e)

  -- an outcome that is neither a step nor unfit
  abbrev Stopped : Next Box → Type 0
  Stopped (went t) = ⊥
  Stopped waits = Unit {0}
  Stopped ended = Unit {0}
  Stopped unfit = ⊥

  fit_goes : (b : Bool) (x : Instruction) (ρ : List ℕ) (l : ℕ) → ByOperation top (length c) x.operation s.registers s.label ρ l → Stopped (obey_fit b top x s) → ⊥
  fit_goes true x ρ l h t = subst Stopped (reaches top (length c) x.role x.operation s ρ l h).1 t
  fit_goes false x ρ l h t = t

  goes : (o : Option Instruction) (ρ : List ℕ) (l : ℕ) → ByInstruction top (length c) o s.registers s.label ρ l → Stopped (obey_at top n (length c) o s) → ⊥
  goes none ρ l h t = t
  goes (some x) ρ l h t = fit_goes (fits n (length c) x.operation) x ρ l h t

pub box_step_is_published : BoxStepIsPublished
box_step_is_published top n c s =
    record {
      only = λ t e. subst (PublishedBy top c s) e (published top n c s (instruction_at c s.label) refl);
      every = λ a ρ l h. all_reaches top n c s (instruction_at c s.label) ρ l refl a (leads top c s.registers s.label ρ l h);
      one = λ ρ ρ' l l' h g.
          same_instruction top (length c) (instruction_at c s.label) s.registers s.label ρ ρ' l l'
          (leads top c s.registers s.label ρ l h) (leads top c s.registers s.label ρ' l' g);
      halts = λ e ρ l h. goes top n c s (instruction_at c s.label) ρ l (leads top c s.registers s.label ρ l h) (subst (Stopped top n c s) (sym e) tt);
      stops = λ e ρ l h. goes top n c s (instruction_at c s.label) ρ l (leads top c s.registers s.label ρ l h) (subst (Stopped top n c s) (sym e) tt);
    }
