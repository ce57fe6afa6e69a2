-- Memory that begins with zeros.
use Rattle.std.specs.Prelude.{ℕ, List, ◌++◌, drop, replicate}

-- n zeros
abbrev pub zeros : ℕ → List ℕ
zeros n = replicate n 0

-- memory whose first n cells became 0, the rest as it was
abbrev pub cleared : ℕ → List ℕ → List ℕ
cleared n cells = zeros n ++ drop n cells
