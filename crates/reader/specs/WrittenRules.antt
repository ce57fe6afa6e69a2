-- The published steps of LOOP and WHILE programs, one constructor for each rule, and what is claimed of the written step beside them.
use Rattle.std.specs.Prelude.{◌≡◌, ℕ, zero, suc, ◌+◌, ◌-◌, ◌≤◌, List, ◌≢◌, slice_index, slice_set}
use Rattle.reader.specs.Sheet.{Sheet, done, plus, minus, loop, while, then, Whole}
use Rattle.reader.specs.Steps.{went, waits, ended}
use Rattle.reader.specs.WrittenRun.{Counts, WrittenRun, running, written_step}

pub data Program : Type 0 where
  assign_plus : ℕ → ℕ → ℕ → Program  -- xi := xj + c
  assign_minus : ℕ → ℕ → ℕ → Program  -- xi := xj - c
  sequence : Program → Program → Program  -- P1; P2
  loop_do_end : ℕ → Program → Program  -- LOOP xi DO P END
  while_do_end : ℕ → Program → Program  -- WHILE xi != 0 DO P END

-- a program, or the empty one
pub data Left : Type 0 where
  empty : Left
  left : Program → Left

-- P; and what is left behind it
abbrev pub before : Program → Left → Left
before p empty = left p
before p (left q) = left (sequence p q)

-- P; ..; P with n copies
abbrev pub copies : ℕ → Program → Left
copies zero p = empty
copies (suc n) p = before p (copies n p)

-- (ρ, P) goes in one step to (ρ', what is left); a sum above the top has no step
pub data RuleStep (top : ℕ) : List ℕ → Program → List ℕ → Left → Type 0 where
  plus_rule : (ρ : List ℕ) (i j c : ℕ) → slice_index ρ j + c ≤ top → RuleStep top ρ (assign_plus i j c) (slice_set ρ i (slice_index ρ j + c)) empty
  minus_rule : (ρ : List ℕ) (i j c : ℕ) → RuleStep top ρ (assign_minus i j c) (slice_set ρ i (slice_index ρ j - c)) empty
  first_ends : (ρ ρ' : List ℕ) (p q : Program) → RuleStep top ρ p ρ' empty → RuleStep top ρ (sequence p q) ρ' (left q)
  first_goes_on : (ρ ρ' : List ℕ) (p p' q : Program) → RuleStep top ρ p ρ' (left p') → RuleStep top ρ (sequence p q) ρ' (left (sequence p' q))
  loop_rule : (ρ : List ℕ) (i : ℕ) (p : Program) → RuleStep top ρ (loop_do_end i p) ρ (copies (slice_index ρ i) p)
  while_vanishes : (ρ : List ℕ) (i : ℕ) (p : Program) → slice_index ρ i ≡ 0 → RuleStep top ρ (while_do_end i p) ρ empty
  while_goes_on : (ρ : List ℕ) (i : ℕ) (p : Program) → (slice_index ρ i ≢ 0) → RuleStep top ρ (while_do_end i p) ρ (left (sequence p (while_do_end i p)))

-- the sheet with the statements of a program, in their order
abbrev pub sheet_of : Program → Sheet
sheet_of (assign_plus i j c) = plus i j c done
sheet_of (assign_minus i j c) = minus i j c done
sheet_of (sequence p q) = then (sheet_of p) (sheet_of q)
sheet_of (loop_do_end i p) = loop i (sheet_of p) done
sheet_of (while_do_end i p) = while i (sheet_of p) done

abbrev pub sheet_left : Left → Sheet
sheet_left empty = done
sheet_left (left p) = sheet_of p

-- every sheet without an empty body is that of a program, or of the empty one
abbrev pub SheetIsProgram : Type 0
SheetIsProgram = (p : Sheet) → Whole p → (q : Left) × (sheet_left q ≡ p)

-- the written step takes exactly the published steps
pub record TakesRules (top : ℕ) (ρ : List ℕ) (n : Counts) (p : Program) : Type 0 where
  -- what it does is a published step
  pub only : (a : WrittenRun) → written_step top (running ρ (sheet_of p) n) ≡ went a → (q : Left) × RuleStep top ρ p a.registers q × (sheet_left q ≡ a.rest)
  -- each published step is what it does
  pub every : (ρ' : List ℕ) (q : Left) → RuleStep top ρ p ρ' q
      → (a : WrittenRun) × (written_step top (running ρ (sheet_of p) n) ≡ went a) × (a.registers ≡ ρ') × (a.rest ≡ sheet_left q) × (a.counts.written ≡ suc n.written)
  -- and there is at most one
  pub one : (ρ' ρ'' : List ℕ) (q r : Left) → RuleStep top ρ p ρ' q → RuleStep top ρ p ρ'' r → (ρ' ≡ ρ'') × (q ≡ r)
  -- it stops only where no published step is, and not at a program that is left
  pub stops : written_step top (running ρ (sheet_of p) n) ≡ waits → (ρ' : List ℕ) (q : Left) → RuleStep top ρ p ρ' q → ⊥
  pub goes : written_step top (running ρ (sheet_of p) n) ≡ ended → ⊥

abbrev pub WrittenStepIsPublished : Type 0
WrittenStepIsPublished = (top : ℕ) (ρ : List ℕ) (n : Counts) (p : Program) → TakesRules top ρ n p
