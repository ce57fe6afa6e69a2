-- A draft of code, and what laying, closing and striking do to it.
use Rattle.std.specs.Prelude.{◌≡◌, ℕ, suc, ◌-◌, ◌<◌, Bool, false, T, List, ◌++◌, length, get_or, take, replicate, Some, None, Option, ◌==◌, slice_index_or, slice_set}
use Rattle.filing.specs.Tables.{memory, count, lent}
use Rattle.filing.specs.declared.table.Table.{Table}
use Rattle.translator.specs.declared.draft.Draft.{Draft}
use Rattle.translator.specs.declared.types.Role.{Role}
use Rattle.translator.specs.declared.types.Operation.{Operation}
use Rattle.translator.specs.declared.types.Operation.TheVariants.{Halt, Plus, Minus, If, Goto}
use Rattle.translator.specs.declared.types.Instruction.{Instruction}
use Rattle.translator.specs.JumpCode.{instruction, halt}

-- all of the memory of a draft, and which memory it is
abbrev pub draft_memory : Draft → List Instruction
draft_memory d = memory d.table

abbrev pub draft_lent : Draft → ℕ
draft_lent d = lent d.table

-- the instructions that are filed in a table
abbrev pub filed : Table Instruction → List Instruction
filed t = take (count t) (memory t)

-- how many instructions are laid, and which
abbrev pub laid : Draft → ℕ
laid d = count d.table

abbrev pub laid_code : Draft → List Instruction
laid_code d = filed d.table

-- the label of the instruction that will be laid next
abbrev pub next_label : Draft → ℕ
next_label d = suc (laid d)

-- a test without a label
abbrev pub is_open : Operation → Bool
is_open Halt = false
is_open (Plus i j c) = false
is_open (Minus i j c) = false
is_open (If i k) = k == 0
is_open (Goto k) = false

-- the instruction at index i of a code is an open test
abbrev pub OpenAt : List Instruction → ℕ → Type 0
OpenAt c i = (i < length c) × T (is_open (get_or c i halt).operation)

-- an open test by its source and role; or it is none
abbrev pub TestOf : Instruction → Option (ℕ × Role) → Type 0
TestOf x (Some t) = x ≡ instruction t.1 (If t.0 0)
TestOf x None = T (is_open x.operation) → ⊥

abbrev pub TestAt : List Instruction → ℕ → Option (ℕ × Role) → Type 0
TestAt c i (Some t) = (i < length c) × (slice_index_or c i halt ≡ instruction t.1 (If t.0 0))
TestAt c i None = OpenAt c i → ⊥

-- a test with the label l
abbrev pub aimed_at : ℕ → Operation → Operation
aimed_at l Halt = Halt
aimed_at l (Plus i j c) = Plus i j c
aimed_at l (Minus i j c) = Minus i j c
aimed_at l (If i k) = If i l
aimed_at l (Goto k) = Goto k

abbrev pub aimed : ℕ → Instruction → Instruction
aimed l x = instruction x.role (aimed_at l x.operation)

-- the draft has one instruction more, and the rest of its memory is as it was
pub record Appended (x : Instruction) (d e : Draft) : Type 0 where
  pub room : laid d < length (draft_memory d)
  pub counted : laid e ≡ suc (laid d)
  pub filled : draft_memory e ≡ slice_set (draft_memory d) (laid d) x

-- the instruction at index i is replaced, and nothing else
pub record Replaced (i : ℕ) (x : Instruction) (d e : Draft) : Type 0 where
  pub counted : laid e ≡ laid d
  pub filled : draft_memory e ≡ slice_set (draft_memory d) i x

pub record Unchanged (d e : Draft) : Type 0 where
  pub counted : laid e ≡ laid d
  pub filled : draft_memory e ≡ draft_memory d

abbrev pub Full : Draft → Type 0
Full d = laid d ≡ length (draft_memory d)

-- zero instructions stand behind what is laid
pub record Cleared (d e : Draft) : Type 0 where
  pub counted : laid e ≡ laid d
  pub filled : draft_memory e ≡ laid_code d ++ replicate (length (draft_memory d) - laid d) halt
