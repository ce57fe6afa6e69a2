-- Numbers that stand one to a cell.
use Rattle.std.specs.Prelude.{ℕ, List, take, drop}

-- the numbers: the first 4,096 cells, or as many as there are
unfoldable pub flats : List ℕ → List ℕ
flats cells = take 4096 cells

-- the cells that hold no number
abbrev pub spare : List ℕ → List ℕ
spare cells = drop 4096 cells
