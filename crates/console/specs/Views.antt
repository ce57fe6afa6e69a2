-- One window for a window over a window.
use Rattle.std.specs.Prelude.{◌≡◌, ℕ, ◌^◌, ◌<◌, List, length}
use Rattle.stores.specs.Windows.{seen}

-- through the window of len numbers from base on, each store shows what a window (base₂, len₂) over a window (base₁, len₁) shows
abbrev pub Composed : ℕ → ℕ → ℕ → ℕ → ℕ → ℕ → Type 0
Composed base₁ len₁ base₂ len₂ base len =
    (ns : List ℕ) → length ns < 2 ^ 64 → seen ns base len ≡ seen (seen ns base₁ len₁) base₂ len₂
