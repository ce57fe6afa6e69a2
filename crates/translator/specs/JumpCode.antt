-- Jump code, and one step of the box with its five tallies. Labels count from 1.
use Rattle.std.specs.Prelude.{◌≡◌, ℕ, zero, suc, ◌+◌, ◌-◌, Bool, true, false, ◌&&◌, T, List, length, nat_le, nat_lt, slice_index, slice_set}
use Rattle.std.proofs.Math.Option.{Option, none, some}
use Rattle.std.proofs.Math.ListN.{get_elem?}
use Rattle.reader.specs.Steps.{Next, went, ended, unfit, if_low, many, many_done}
use Rattle.reader.specs.WrittenRun.{Counts, no_counts}
use Rattle.translator.specs.declared.types.Role.{Role}
use Rattle.translator.specs.declared.types.Role.TheVariants.{Written, Entry, Test, Down, Jump}
use Rattle.translator.specs.declared.types.Role.TheVariants as role
use Rattle.translator.specs.declared.types.Operation.{Operation}
use Rattle.translator.specs.declared.types.Operation.TheVariants.{Plus, Minus, If, Goto}
use Rattle.translator.specs.declared.types.Operation.TheVariants as operation
use Rattle.translator.specs.declared.types.Instruction.{Instruction}

abbrev pub instruction : Role → Operation → Instruction
instruction r o = record { role = r; operation = o }

-- HALT, which is the zero instruction too
abbrev pub halt : Instruction
halt = instruction role.Halt operation.Halt

-- the instruction at a label
abbrev pub instruction_at : List Instruction → ℕ → Option Instruction
instruction_at c zero = none
instruction_at c (suc n) = get_elem? c n

-- a label inside a code of that length
abbrev pub inside : ℕ → ℕ → Bool
inside len k = nat_le 1 k && nat_le k len

-- an operation names registers below n and labels inside a code of that length
abbrev pub fits : ℕ → ℕ → Operation → Bool
fits n len (Plus i j c) = nat_lt i n && nat_lt j n
fits n len (Minus i j c) = nat_lt i n && nat_lt j n
fits n len (If i k) = nat_lt i n && inside len k
fits n len (Goto k) = inside len k
fits n len operation.Halt = true

-- every instruction of a code fits
abbrev pub AllFit : ℕ → List Instruction → Type 0
AllFit n c = (l : ℕ) (x : Instruction) → instruction_at c l ≡ some x → T (fits n (length c) x.operation)

pub record Box : Type 0 where
  pub label : ℕ
  pub registers : List ℕ
  pub steps : ℕ  -- box steps
  pub counts : Counts

-- before M1, with clear tallies
abbrev pub box_start : List ℕ → Box
box_start ν = record { label = 1; registers = ν; steps = 0; counts = no_counts }

-- what an instruction of a role adds to the tallies
abbrev pub tallied : Role → Counts → Counts
tallied Written n = record { written = suc n.written; entered = n.entered; rounds = n.rounds; whiles = n.whiles }
tallied Entry n = record { written = suc n.written; entered = suc n.entered; rounds = n.rounds; whiles = n.whiles }
tallied Test n = n
tallied Down n = record { written = n.written; entered = n.entered; rounds = suc n.rounds; whiles = n.whiles }
tallied Jump n = n
tallied role.Halt n = n

-- what a test that found another number than 0 adds besides
abbrev pub found : Role → Counts → Counts
found Written n = record { written = n.written; entered = n.entered; rounds = n.rounds; whiles = suc n.whiles }
found Entry n = n
found Test n = n
found Down n = n
found Jump n = n
found role.Halt n = n

-- one step on, at a label
abbrev pub to : ℕ → List ℕ → Counts → Box → Box
to l ν n s = record { label = l; registers = ν; steps = suc s.steps; counts = n }

-- a test that found the first number
abbrev pub after_if : ℕ → Role → ℕ → Box → Box
after_if zero r k s = to k s.registers (tallied r s.counts) s
after_if (suc v) r k s = to (suc s.label) s.registers (found r (tallied r s.counts)) s

abbrev pub obey : ℕ → Role → Operation → Box → Next Box
obey top r (Plus i j c) s =
    if_low (nat_le (slice_index s.registers j + c) top) (to (suc s.label) (slice_set s.registers i (slice_index s.registers j + c)) (tallied r s.counts) s)
obey top r (Minus i j c) s = went (to (suc s.label) (slice_set s.registers i (slice_index s.registers j - c)) (tallied r s.counts) s)
obey top r (If i k) s = went (after_if (slice_index s.registers i) r k s)
obey top r (Goto k) s = went (to k s.registers (tallied r s.counts) s)
obey top r operation.Halt s = ended

abbrev pub obey_fit : Bool → ℕ → Instruction → Box → Next Box
obey_fit true top x s = obey top x.role x.operation s
obey_fit false top x s = unfit

abbrev pub obey_at : ℕ → ℕ → ℕ → Option Instruction → Box → Next Box
obey_at top n len none s = unfit
obey_at top n len (some x) s = obey_fit (fits n len x.operation) top x s

-- one box step of the code c with n registers, under a top
abbrev pub box_step : ℕ → ℕ → List Instruction → Box → Next Box
box_step top n c s = obey_at top n (length c) (instruction_at c s.label) s

-- k box steps, or as many as can be done, and how many were done
abbrev pub box_steps : ℕ → ℕ → List Instruction → ℕ → Box → Box
box_steps top n c k s = many (box_step top n c) k s

abbrev pub box_steps_done : ℕ → ℕ → List Instruction → ℕ → Box → ℕ
box_steps_done top n c k s = many_done (box_step top n c) k s
