-- The statement records of a sheet.
use Rattle.std.specs.Prelude.{ℕ, suc, ◌+◌, List, [], ◌∷◌, ◌++◌, replicate}
use Rattle.reader.specs.declared.types.Placed.{Placed}
use Rattle.reader.specs.declared.types.Kind.{Kind}
use Rattle.reader.specs.declared.types.Kind.TheVariants.{Zero, Plus, Minus, Loop, While}
use Rattle.reader.specs.declared.types.Statement.{Statement}
use Rattle.reader.specs.Sheet.{Sheet, done, plus, minus, loop, while, size}
use Rattle.reader.specs.Symbols.{placed}

-- the number of each kind
abbrev pub kind_number : Kind → ℕ
kind_number Zero = 0
kind_number Plus = 1
kind_number Minus = 2
kind_number Loop = 3
kind_number While = 4

abbrev pub statement_of : Kind → ℕ → ℕ → ℕ → ℕ → Statement
statement_of k i j c e = record { kind = k; target = i; source = j; constant = c; end = e }

-- the records of a sheet in text order, of which the first has the index n: an end is the index after the statement and its body
abbrev pub records_from : ℕ → Sheet → List Statement
records_from n done = []
records_from n (plus i j c p) = statement_of Plus i j c (suc n) ∷ records_from (suc n) p
records_from n (minus i j c p) = statement_of Minus i j c (suc n) ∷ records_from (suc n) p
records_from n (loop i b p) = statement_of Loop 0 i 0 (suc n + size b) ∷ (records_from (suc n) b ++ records_from (suc n + size b) p)
records_from n (while i b p) = statement_of While 0 i 0 (suc n + size b) ∷ (records_from (suc n) b ++ records_from (suc n + size b) p)

abbrev pub records : Sheet → List Statement
records p = records_from 0 p

-- each record with its place
abbrev pub with_places : List ℕ → List Statement → List (Placed Statement)
with_places [] ss = []
with_places (p ∷ ps) [] = []
with_places (p ∷ ps) (s ∷ ss) = placed p s ∷ with_places ps ss

abbrev pub zero_record : Placed Statement
zero_record = placed 0 (statement_of Zero 0 0 0 0)

-- memory that holds n zero records and nothing else
abbrev pub cleared : ℕ → List (Placed Statement)
cleared n = replicate n zero_record
