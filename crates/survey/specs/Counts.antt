-- What is counted in the records of a sheet.
use Rattle.std.specs.Prelude.{◌≡◌, ℕ, suc, ◌+◌, ◌<◌, ◌≤◌, cond, ◌⊎◌, Bool, ◌&&◌, List, [], ◌∷◌, length, nat_eq, nat_le, nat_lt}
use Rattle.reader.specs.declared.types.Placed.{Placed}
use Rattle.reader.specs.declared.types.Kind.{Kind}
use Rattle.reader.specs.declared.types.Kind.TheVariants.{Zero, Plus, Minus, Loop, While}
use Rattle.reader.specs.declared.types.Statement.{Statement}
use Rattle.reader.specs.Sheet.{Sheet, loops, depth}
use Rattle.reader.specs.Records.{records}
use Rattle.reader.specs.Checks.{items}

-- 1 for a LOOP or WHILE, 0 for others
abbrev pub block_count : Kind → ℕ
block_count Zero = 0
block_count Plus = 0
block_count Minus = 0
block_count Loop = 1
block_count While = 1

-- 1 for a LOOP or WHILE at index i whose end is above j, where i is at most j; 0 for others
abbrev pub level_count : Statement → ℕ → ℕ → ℕ
level_count s i j = cond (nat_le i j) (cond (nat_lt j s.end) (block_count s.kind) 0) 0

-- whether the statement at index i is a LOOP or WHILE that is open at j
abbrev pub is_open : Statement → ℕ → ℕ → Bool
is_open s i j = nat_le i j && (nat_lt j s.end && nat_eq (block_count s.kind) 1)

-- how many LOOPs and WHILEs at an index up to j have their end above j, in records the first of which has index i
abbrev pub levels_from : ℕ → List (Placed Statement) → ℕ → ℕ
levels_from i [] j = 0
levels_from i (r ∷ rs) j = level_count r.item i j + levels_from (suc i) rs j

-- how many LOOPs and WHILEs at an index up to j have their end above j
abbrev pub blocks_around : List (Placed Statement) → ℕ → ℕ
blocks_around rs j = levels_from 0 rs j

-- d is the depth: so many levels are around some record, if any, and no more around another
pub record Deepest (rs : List (Placed Statement)) (d : ℕ) : Type 0 where
  pub bound : (j : ℕ) → j < length rs → blocks_around rs j ≤ d
  pub reached : (d ≡ 0) ⊎ ((j : ℕ) × (j < length rs) × (blocks_around rs j ≡ d))

-- where the records are those of a sheet, places aside, n is how many LOOPs it has
abbrev pub LoopsOfSheet : List (Placed Statement) → ℕ → Type 0
LoopsOfSheet rs n = (p : Sheet) → items rs ≡ records p → n ≡ loops p

-- where the records are those of a sheet, places aside, d is its depth
abbrev pub DepthOfSheet : List (Placed Statement) → ℕ → Type 0
DepthOfSheet rs d = (p : Sheet) → items rs ≡ records p → d ≡ depth p
