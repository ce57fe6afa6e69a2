-- Numbers seen through a window on others.
use Rattle.std.specs.Prelude.{◌≡◌, ℕ, ◌+◌, cond, List, length, take, drop, nat_lt}
use Rattle.stores.specs.Stores.{read_of, write_of, written_of}

-- what a window of len numbers from base on shows: fewer where the numbers end before it does
unfoldable pub seen : List ℕ → ℕ → ℕ → List ℕ
seen ns base len = take len (drop base ns)

-- the numbers below after a write of v at i through the window: number base + i is written if the window counts i, and no other
abbrev pub written_below : List ℕ → ℕ → ℕ → ℕ → ℕ → ℕ → List ℕ
written_below ns limit base len i v = cond (nat_lt i (length (seen ns base len))) (written_of ns limit (base + i) v) ns

-- number `at` below is number i of the window: what is read and written there is read and written here
pub record Stands (ns : List ℕ) (limit base len i at : ℕ) : Type 0 where
  pub read : read_of ns at ≡ read_of (seen ns base len) i
  pub write : (v : ℕ) → write_of ns limit at v ≡ write_of (seen ns base len) limit i v
  pub written : (v : ℕ) → seen (written_of ns limit at v) base len ≡ written_of (seen ns base len) limit i v
  pub below : (v : ℕ) → written_of ns limit at v ≡ written_below ns limit base len i v
