-- Which counter a LOOP owns. LOOPs are numbered in text order, and the m-th owns x(31 + m); so a number c is handed through the sheet, the
-- counter of the next LOOP to come.
use Rattle.std.specs.Prelude.{ℕ, suc, ◌+◌}
use Rattle.reader.specs.Sheet.{Sheet, loops}

abbrev pub first_counter : ℕ
first_counter = 32

-- for the body of the LOOP that owns c
abbrev pub inside_loop : ℕ → ℕ
inside_loop c = suc c

-- behind a LOOP that owns c, and behind a WHILE; b is the body
abbrev pub behind_loop : ℕ → Sheet → ℕ
behind_loop c b = suc c + loops b

abbrev pub behind_while : ℕ → Sheet → ℕ
behind_while c b = c + loops b

-- 1 above the counters of the sheet p
abbrev pub counters_end : ℕ → Sheet → ℕ
counters_end c p = c + loops p

-- N of the code of a sheet
abbrev pub sheet_width : Sheet → ℕ
sheet_width p = counters_end first_counter p
