-- One step of a show piece by piece: whether an operation can be done, what it stores, and where it leads. proofs/Steps shows that the pieces
-- make just the step by the GOTO rules.
use Rattle.std.specs.Prelude.{ℕ, suc, ◌+◌, ◌-◌, Bool, false, cond, not, ◌&&◌, List, ◌==◌, nat_le, nat_lt, slice_index, slice_set}
use Rattle.translator.specs.declared.types.Operation.{Operation}
use Rattle.translator.specs.declared.types.Operation.TheVariants.{Halt, Plus, Minus, If, Goto}
use Rattle.translator.specs.JumpCode.{inside}
use Rattle.caption_box.specs.declared.types.State.{State}
use Rattle.caption_box.specs.declared.types.State.TheVariants.{Ended, Unfit, Over, Time}

-- whether an operation can be done, with n registers and a code of that length, under a top
abbrev pub fate : ℕ → ℕ → ℕ → List ℕ → Operation → State
fate top n len ν (Plus i j c) = cond (nat_lt i n && nat_lt j n) (cond (nat_le (slice_index ν j + c) top) Time Over) Unfit
fate top n len ν (Minus i j c) = cond (nat_lt i n && nat_lt j n) Time Unfit
fate top n len ν (If i k) = cond (nat_lt i n && inside len k) Time Unfit
fate top n len ν (Goto k) = cond (inside len k) Time Unfit
fate top n len ν Halt = Ended

-- the registers after it
abbrev pub stored : List ℕ → Operation → List ℕ
stored ν (Plus i j c) = slice_set ν i (slice_index ν j + c)
stored ν (Minus i j c) = slice_set ν i (slice_index ν j - c)
stored ν (If i k) = ν
stored ν (Goto k) = ν
stored ν Halt = ν

-- the label after it
abbrev pub label_after : List ℕ → ℕ → Operation → ℕ
label_after ν l (Plus i j c) = suc l
label_after ν l (Minus i j c) = suc l
label_after ν l (If i k) = cond (slice_index ν i == 0) k (suc l)
label_after ν l (Goto k) = k
label_after ν l Halt = l

-- whether it is a test that finds another number than 0
abbrev pub finds_more : List ℕ → Operation → Bool
finds_more ν (Plus i j c) = false
finds_more ν (Minus i j c) = false
finds_more ν (If i k) = not (slice_index ν i == 0)
finds_more ν (Goto k) = false
finds_more ν Halt = false
