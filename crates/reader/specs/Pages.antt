-- A page while it is written.
use Rattle.std.specs.Prelude.{◌≡◌, ℕ, zero, suc, ◌≤◌, List, [], ◌∷◌, ◌++◌, length, drop, slice_set}
use Rattle.reader.specs.declared.types.Lexeme.{Lexeme}
use Rattle.reader.specs.declared.writer.Writer.{Writer}
use Rattle.reader.specs.declared.types.Placed.{Placed}
use Rattle.reader.specs.declared.types.Statement.{Statement}
use Rattle.reader.specs.Sheet.{Sheet, done}
use Rattle.reader.specs.Symbols.{Symbol}
use Rattle.reader.specs.Checks.{IsSheet, at, span, sheet_of}
use Rattle.reader.specs.Lexing.{meant}
use Rattle.reader.specs.Printed.{bytes_of, gap, printed}

-- what the page holds, how many bytes were put on it, those past its end included, and which memory it is
pub record Page : Type 0 where
  pub memory : List ℕ
  pub written : ℕ
  pub lent : ℕ

abbrev pub page_of : List ℕ → ℕ → ℕ → Page
page_of m n l = record { memory = m; written = n; lent = l }

-- the bytes come next; one past the page's end is counted and not stored
abbrev pub put_bytes : List ℕ → Page → Page
put_bytes [] g = g
put_bytes (b ∷ bs) g = put_bytes bs (page_of (slice_set g.memory g.written b) (suc g.written) g.lent)

-- what stands before a symbol behind n bytes
abbrev pub gap_after : ℕ → Symbol → List ℕ
gap_after zero s = []
gap_after (suc n) s = gap s

-- the symbols come next
abbrev pub put_symbols : List Symbol → Page → Page
put_symbols [] g = g
put_symbols (s ∷ xs) g = put_symbols xs (put_bytes (gap_after g.written s ++ bytes_of s) g)

abbrev pub meanings : List Lexeme → List Symbol
meanings [] = []
meanings (l ∷ ls) = meant l ∷ meanings ls

abbrev pub on_page : Writer → Page
on_page w = page_of w.page.now w.written w.page.ghost_name

-- the statement of record i, with its body
abbrev pub first_statement : List (Placed Statement) → ℕ → Sheet
first_statement rs i = sheet_of (at rs i).kind (at rs i) (span rs (suc i) (at rs i).end) done

-- the index behind the statement of record i and its body
abbrev pub end_of : List (Placed Statement) → ℕ → ℕ
end_of rs i = (at rs i).end

-- n is how many bytes the sheet of the records has in print, and they stand at the front of a page that has room for them, with the rest as it was
pub record SheetWritten (rs : List (Placed Statement)) (page : List ℕ) (n : ℕ) (after : List ℕ) : Type 0 where
  pub count : (h : IsSheet rs) → n ≡ length (printed h.sheet)
  pub front : (h : IsSheet rs) → length (printed h.sheet) ≤ length page → after ≡ printed h.sheet ++ drop (length (printed h.sheet)) page
