-- Records that may come from anywhere: when they are those of a sheet, and how the sheet lies in them.
use Rattle.std.specs.Prelude.{◌≡◌, ℕ, suc, ◌+◌, ◌<◌, ◌≤◌, cond, ◌⊎◌, List, [], ◌∷◌, length, Option, nat_lt, slice_index_or}
use Rattle.reader.specs.declared.types.Placed.{Placed}
use Rattle.reader.specs.declared.types.Kind.{Kind}
use Rattle.reader.specs.declared.types.Kind.TheVariants.{Zero, Plus, Minus, Loop, While}
use Rattle.reader.specs.declared.types.Statement.{Statement}
use Rattle.reader.specs.Sheet.{Sheet, done, plus, minus, loop, while, Some, Whole, Fit, depth, Within}
use Rattle.reader.specs.Records.{statement_of, records, zero_record}
use Rattle.std.specs.declared.option.Option.TheVariants as option

-- the records without their places
abbrev pub items : List (Placed Statement) → List Statement
items [] = []
items (r ∷ rs) = r.item ∷ items rs

-- the records are, places aside, those of some sheet within the limits, and nothing stands behind them
pub record IsSheet (rs : List (Placed Statement)) : Type 0 where
  pub sheet : Sheet
  pub some : Some sheet
  pub whole : Whole sheet
  pub within : Within sheet
  pub same : items rs ≡ records sheet

-- record i, and a zero record past the end
abbrev pub at : List (Placed Statement) → ℕ → Statement
at rs i = (slice_index_or rs i zero_record).item

-- the records from index a up to b are those of the sheet
abbrev pub Spans : List (Placed Statement) → ℕ → ℕ → Sheet → Type 0
Spans rs a b done = a ≡ b
Spans rs a b (plus i j c p) = (a < b) × (at rs a ≡ statement_of Plus i j c (suc a)) × Spans rs (suc a) b p
Spans rs a b (minus i j c p) = (a < b) × (at rs a ≡ statement_of Minus i j c (suc a)) × Spans rs (suc a) b p
Spans rs a b (loop i q p) = (e : ℕ) × (a < e) × (e ≤ b) × (at rs a ≡ statement_of Loop 0 i 0 e) × Spans rs (suc a) e q × Spans rs e b p
Spans rs a b (while i q p) = (e : ℕ) × (a < e) × (e ≤ b) × (at rs a ≡ statement_of While 0 i 0 e) × Spans rs (suc a) e q × Spans rs e b p

-- the body of the first statement
abbrev pub inside : Sheet → Sheet
inside done = done
inside (plus i j c p) = done
inside (minus i j c p) = done
inside (loop i q p) = q
inside (while i q p) = q

-- the statements behind the first one
abbrev pub behind : Sheet → Sheet
behind done = done
behind (plus i j c p) = p
behind (minus i j c p) = p
behind (loop i q p) = p
behind (while i q p) = p

-- the statement of a record with its body q, and p behind it
abbrev pub sheet_of : Kind → Statement → Sheet → Sheet → Sheet
sheet_of Zero s q p = done
sheet_of Plus s q p = plus s.target s.source s.constant p
sheet_of Minus s q p = minus s.target s.source s.constant p
sheet_of Loop s q p = loop s.source q p
sheet_of While s q p = while s.source q p

-- the sheet of the records from index `from` up to `to`, in a list whose first record has the index n
unfoldable pub span_in : List (Placed Statement) → ℕ → ℕ → ℕ → Sheet
span_in [] n from to = done
span_in (r ∷ rs) n from to =
    cond (nat_lt n from) (span_in rs (suc n) from to)
    (cond (nat_lt n to) (sheet_of r.item.kind r.item (span_in rs (suc n) (suc n) r.item.end) (span_in rs (suc n) r.item.end to))
    done)

-- the sheet of the records from index `from` up to `to`
unfoldable pub span : List (Placed Statement) → ℕ → ℕ → Sheet
span rs from to = span_in rs 0 from to

-- how a sheet that is not empty lies in the records from index a up to b
pub record Begins (rs : List (Placed Statement)) (a b : ℕ) (p : Sheet) : Type 0 where
  pub present : a < length rs
  pub forward : a < (at rs a).end
  pub nested : (at rs a).end ≤ b
  pub kind : ((at rs a).kind ≡ Zero) → ⊥
  pub told : p ≡ sheet_of (at rs a).kind (at rs a) (inside p) (behind p)
  pub body : Spans rs (suc a) (at rs a).end (inside p)
  pub rest : Spans rs (at rs a).end b (behind p)

-- the index of the statement after that at i, in a body that ends before index e
abbrev pub sibling : List (Placed Statement) → ℕ → ℕ → Option ℕ
sibling rs i e = cond (nat_lt i (length rs)) (cond (nat_lt (at rs i).end e) (option.Some (at rs i).end) option.None) option.None

-- what the next-sibling question tells of a body whose statements from an index on are p, and which ends before index e
abbrev pub Follows : List (Placed Statement) → ℕ → Sheet → Option ℕ → Type 0
Follows rs e p option.None = behind p ≡ done
Follows rs e p (option.Some n) = Some (behind p) × Spans rs n e (behind p)

-- the record is that of an assignment, behind which comes index n
pub record Assigned (s : Statement) (n : ℕ) : Type 0 where
  pub ends : s.end ≡ n
  pub target : s.target ≤ 31
  pub source : s.source ≤ 31
  pub constant : s.constant ≤ 999999

-- the record is the head of a LOOP or WHILE whose body begins at index n, in a body that ends before index e, inside that many levels
pub record Headed (s : Statement) (n e level : ℕ) : Type 0 where
  pub target : s.target ≡ 0
  pub source : s.source ≤ 31
  pub constant : s.constant ≡ 0
  pub some : n < s.end
  pub nested : s.end ≤ e
  pub shallow : level < 8

-- the records from index a up to e are those of statements inside that many levels
pub record Body (rs : List (Placed Statement)) (a e level : ℕ) : Type 0 where
  pub sheet : Sheet
  pub spans : Spans rs a e sheet
  pub whole : Whole sheet
  pub fit : Fit sheet
  pub shallow : depth sheet + level ≤ 8

-- record a, with those of its body, is a statement inside that many levels, in a body that ends before index e
pub data IsStatement (rs : List (Placed Statement)) (a e level : ℕ) : Type 0 where
  an_assignment : (((at rs a).kind ≡ Plus) ⊎ ((at rs a).kind ≡ Minus)) → Assigned (at rs a) (a + 1) → IsStatement rs a e level
  a_block : (((at rs a).kind ≡ Loop) ⊎ ((at rs a).kind ≡ While)) → Headed (at rs a) (a + 1) e level → Body rs (a + 1) (at rs a).end (level + 1) → IsStatement rs a e level

-- 1 for a LOOP, 0 for others
abbrev pub loop_count : Kind → ℕ
loop_count Zero = 0
loop_count Plus = 0
loop_count Minus = 0
loop_count Loop = 1
loop_count While = 0

-- how many of the records are LOOPs
abbrev pub loops_in : List (Placed Statement) → ℕ
loops_in [] = 0
loops_in (r ∷ rs) = loop_count r.item.kind + loops_in rs
