-- What the calls of a register store answer, over its numbers and its limit, and what they leave.
use Rattle.std.specs.Prelude.{ℕ, ◌≤◌, cond, List, length, Ok, Err, Result, nat_le, nat_lt, slice_index, slice_set}
use Rattle.reader.specs.declared.types.Refusal.{Refusal}
use Rattle.reader.specs.declared.types.Refusal.TheVariants.{NoRegister, OverTop}

-- the limit is at most 4,294,967,295, and no number is above it
abbrev pub Sound : List ℕ → ℕ → Type 0
Sound ns limit = (limit ≤ 4294967295) × ((i : ℕ) → slice_index ns i ≤ limit)

-- what a read of number i answers: 21, or the number
abbrev pub read_of : List ℕ → ℕ → Result ℕ Refusal
read_of ns i = cond (nat_lt i (length ns)) (Ok (slice_index ns i)) (Err NoRegister)

-- what a write of v at i answers: 21, 22, or that it is done
abbrev pub write_of : List ℕ → ℕ → ℕ → ℕ → Result (Unit {0}) Refusal
write_of ns limit i v = cond (nat_lt i (length ns)) (cond (nat_le v limit) (Ok tt) (Err OverTop)) (Err NoRegister)

-- the numbers after it
abbrev pub written_of : List ℕ → ℕ → ℕ → ℕ → List ℕ
written_of ns limit i v = cond (nat_lt i (length ns)) (cond (nat_le v limit) (slice_set ns i v) ns) ns
