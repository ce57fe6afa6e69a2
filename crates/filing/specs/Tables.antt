-- What a filing table holds.
use Rattle.std.specs.Prelude.{◌≡◌, ℕ, suc, ◌<◌, ◌≤◌, Bool, true, false, List, [], ◌∷◌, length, Some, None, Option, slice_index_or, slice_set}
use Rattle.filing.specs.declared.table.Table.{Table}

-- all of the lent memory
abbrev pub memory : {A : Type 0} → Table A → List A
memory t = t.cells.now

-- how many cells, from the front, are filed
abbrev pub count : {A : Type 0} → Table A → ℕ
count t = t.filed

-- which memory it is
abbrev pub lent : {A : Type 0} → Table A → ℕ
lent t = t.cells.ghost_name

-- x is filed behind the others, or the memory is full and nothing changes
abbrev pub Filed : {A : Type 0} → A → Table A → Option ℕ → Table A → Type 0
Filed x t (Some i) u = (i ≡ count t) × (count t < length (memory t)) × (count u ≡ suc (count t)) × (memory u ≡ slice_set (memory t) (count t) x)
Filed x t None u = (length (memory t) ≤ count t) × (count u ≡ count t) × (memory u ≡ memory t)

-- an element is filed at i
abbrev pub At : {A : Type 0} → Table A → ℕ → Type 0
At t i = (i < count t) × (i < length (memory t))

abbrev pub Found : {A : Type 0} → Table A → ℕ → Option A → Type 0
Found t i (Some x) = At t i × (x ≡ slice_index_or (memory t) i x)
Found t i None = At t i → ⊥

-- x stands in the place of the element at i, or none was filed there and nothing changes
abbrev pub Amended : {A : Type 0} → A → ℕ → Table A → Bool → Table A → Type 0
Amended x i t true u = At t i × (count u ≡ count t) × (memory u ≡ slice_set (memory t) i x)
Amended x i t false u = (At t i → ⊥) × (count u ≡ count t) × (memory u ≡ memory t)

-- memory with xs put over it from n on, as far as it goes, and the rest as it was
abbrev pub overwrite : {A : Type 0} → List A → ℕ → List A → List A
overwrite m n [] = m
overwrite m n (x ∷ xs) = overwrite (slice_set m n x) (suc n) xs
