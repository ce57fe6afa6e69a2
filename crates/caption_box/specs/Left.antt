-- What a write leaves in a store of any type.
use Rattle.std.specs.Prelude.{◌≡◌, ℕ, List}
use Rattle.stores.specs.declared.store.Store.{Ghosts}

-- by what the stores of its type mean, t has the numbers ν and the top of s
abbrev pub Leaves : {S : Type 0} → Ghosts S → S → List ℕ → S → Type 0
Leaves meaning s ν t = (meaning.limit t ≡ meaning.limit s) × (meaning.numbers t ≡ ν)
