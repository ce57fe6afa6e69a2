-- The inputs of a start or a rewind.
use Rattle.std.specs.Prelude.{ℕ, Bool, true, ◌&&◌, List, [], ◌∷◌, ◌++◌, take, replicate, nat_le, slice_index}

-- no input is above the top
abbrev pub all_below : ℕ → List ℕ → Bool
all_below top [] = true
all_below top (x ∷ xs) = nat_le x top && all_below top xs

-- the inputs in x1, x2 and on, and 0 in the others of n registers
abbrev pub entered : ℕ → List ℕ → List ℕ
entered n xs = take n (0 ∷ (xs ++ replicate n 0))

-- what register i gets of the inputs
abbrev pub input_at : List ℕ → ℕ → ℕ
input_at xs i = slice_index (0 ∷ xs) i
