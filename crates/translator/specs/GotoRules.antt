-- The published steps of GOTO programs, one constructor for each rule, between registers and labels. HALT has none: it ends a run.
use Rattle.std.specs.Prelude.{◌≡◌, ℕ, suc, ◌+◌, ◌-◌, ◌≤◌, List, length, ◌≢◌, slice_index, slice_set}
use Rattle.std.proofs.Math.Option.{some}
use Rattle.translator.specs.declared.types.Role.{Role}
use Rattle.translator.specs.declared.types.Operation.{Operation}
use Rattle.translator.specs.declared.types.Operation.TheVariants.{Plus, Minus, If, Goto}
use Rattle.translator.specs.declared.types.Instruction.{Instruction}
use Rattle.reader.specs.Steps.{went, waits, ended}
use Rattle.translator.specs.JumpCode.{instruction, instruction_at, AllFit, Box, box_step}

-- the operation at a label, with whichever role
abbrev pub OperationAt : List Instruction → ℕ → Operation → Type 0
OperationAt c l o = (r : Role) × (instruction_at c l ≡ some (instruction r o))

-- with the code c, (ρ, Ml) goes in one step to (ρ', Ml'); a sum above the top has no step
pub data GotoStep (top : ℕ) (c : List Instruction) : List ℕ → ℕ → List ℕ → ℕ → Type 0 where
  plus_rule : (ρ : List ℕ) (l i j k : ℕ) → OperationAt c l (Plus i j k) → slice_index ρ j + k ≤ top → GotoStep top c ρ l (slice_set ρ i (slice_index ρ j + k)) (suc l)
  minus_rule : (ρ : List ℕ) (l i j k : ℕ) → OperationAt c l (Minus i j k) → GotoStep top c ρ l (slice_set ρ i (slice_index ρ j - k)) (suc l)
  goto_rule : (ρ : List ℕ) (l k : ℕ) → OperationAt c l (Goto k) → 1 ≤ k → k ≤ length c → GotoStep top c ρ l ρ k
  zero_rule : (ρ : List ℕ) (l i k : ℕ) → OperationAt c l (If i k) → 1 ≤ k → k ≤ length c → slice_index ρ i ≡ 0 → GotoStep top c ρ l ρ k
  other_rule : (ρ : List ℕ) (l i k : ℕ) → OperationAt c l (If i k) → (slice_index ρ i ≢ 0) → GotoStep top c ρ l ρ (suc l)

-- the box step takes exactly the published steps
pub record TakesGotoRules (top n : ℕ) (c : List Instruction) (s : Box) : Type 0 where
  -- what it does is a published step
  pub only : (t : Box) → box_step top n c s ≡ went t → GotoStep top c s.registers s.label t.registers t.label
  -- where every instruction fits, each published step is what it does
  pub every : AllFit n c → (ρ : List ℕ) (l : ℕ) → GotoStep top c s.registers s.label ρ l
      → (t : Box) × (box_step top n c s ≡ went t) × (t.registers ≡ ρ) × (t.label ≡ l) × (t.steps ≡ suc s.steps)
  -- and there is at most one
  pub one : (ρ ρ' : List ℕ) (l l' : ℕ) → GotoStep top c s.registers s.label ρ l → GotoStep top c s.registers s.label ρ' l' → (ρ ≡ ρ') × (l ≡ l')
  -- HALT is no step, nor is a plus above the top
  pub halts : box_step top n c s ≡ ended → (ρ : List ℕ) (l : ℕ) → GotoStep top c s.registers s.label ρ l → ⊥
  pub stops : box_step top n c s ≡ waits → (ρ : List ℕ) (l : ℕ) → GotoStep top c s.registers s.label ρ l → ⊥

abbrev pub BoxStepIsPublished : Type 0
BoxStepIsPublished = (top n : ℕ) (c : List Instruction) (s : Box) → TakesGotoRules top n c s
