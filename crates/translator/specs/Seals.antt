-- Sealing: what it asks of a draft, and the sealed code that it makes.
use Rattle.std.specs.Prelude.{◌≡◌, ℕ, Bool, true, false, List, length, Some, None, Option as Answer}
use Rattle.std.proofs.Math.Option.{Option, none, some}
use Rattle.reader.specs.declared.types.Refusal.{Refusal}
use Rattle.reader.specs.declared.types.Refusal.TheVariants.{JumpOpen, BadDraft}
use Rattle.filing.specs.Tables.{memory, lent}
use Rattle.translator.specs.declared.draft.SealedCode.{SealedCode}
use Rattle.translator.specs.declared.types.Role.{Role}
use Rattle.translator.specs.declared.types.Operation.TheVariants.{Halt}
use Rattle.translator.specs.declared.types.Instruction.{Instruction}
use Rattle.translator.specs.JumpCode.{instruction, instruction_at, AllFit}
use Rattle.translator.specs.Drafts.{filed, OpenAt}

-- all of the memory of sealed code, which memory it is, its instructions, and N
abbrev pub sealed_memory : SealedCode → List Instruction
sealed_memory s = memory s.table

abbrev pub sealed_lent : SealedCode → ℕ
sealed_lent s = lent s.table

abbrev pub sealed_code : SealedCode → List Instruction
sealed_code s = filed s.table

abbrev pub sealed_width : SealedCode → ℕ
sealed_width s = s.registers

-- some test of a code is open
abbrev pub AnyOpen : List Instruction → Type 0
AnyOpen c = (i : ℕ) × OpenAt c i

-- the last instruction of a code is HALT
abbrev pub EndsInHalt : List Instruction → Type 0
EndsInHalt c = (r : Role) × (instruction_at c (length c) ≡ some (instruction r Halt))

-- HALT at the end, labels inside the code, registers up to x63
pub record Sound (c : List Instruction) : Type 0 where
  pub last : EndsInHalt c
  pub fits : AllFit 64 c

-- 13 where a test is open, else 15 where the code is not sound
pub data SealRefuses (c : List Instruction) : Refusal → Type 0 where
  jump_open : AnyOpen c → SealRefuses c JumpOpen
  bad_draft : (AnyOpen c → ⊥) → (Sound c → ⊥) → SealRefuses c BadDraft

-- a test that tells whether P holds
abbrev pub Tells : Bool → Type 0 → Type 0
Tells true P = P
Tells false P = P → ⊥

abbrev pub answer : {A : Type 0} → Option A → Answer A
answer none = None
answer (some x) = Some x

-- what a seal says of a code: a refusal, or nothing
abbrev pub SealSays : List Instruction → Answer Refusal → Type 0
SealSays c (Some e) = SealRefuses c e
SealSays c None = (AnyOpen c → ⊥) × Sound c
