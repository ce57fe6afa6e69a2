-- Filing the flat statements of a sheet whose records are given.
use Rattle.std.specs.Prelude.{◌≡◌, ℕ, suc, ◌+◌, ◌-◌, ◌<◌, ◌≤◌, List, ◌++◌, length, replicate, slice_set}
use Rattle.reader.specs.Sheet.{Sheet, size}
use Rattle.filing.specs.declared.table.Table.{Table}
use Rattle.reader.specs.declared.types.Placed.{Placed}
use Rattle.reader.specs.declared.types.Statement.{Statement}
use Rattle.reader.specs.declared.types.Kind.TheVariants.{Plus, Minus, While}
use Rattle.reader.specs.Symbols.{placed}
use Rattle.reader.specs.Records.{statement_of, records_from, with_places}
use Rattle.filing.specs.Tables.{memory, count, overwrite}
use Rattle.translator.specs.declared.types.Role.{Role}
use Rattle.translator.specs.declared.types.Role.TheVariants.{Entry, Test, Down}
use Rattle.translator.specs.declared.types.Flat.{Flat}
use Rattle.translator.specs.Counters.{counters_end}
use Rattle.translator.specs.Translation.{flat_from, flat, flat_size, flat_records_from, flat_places, flats_with_places, placed_flats, zero_flat}
use Rattle.translator.specs.Laying.{Stands}

-- the records from index a up to b are those of the sheet p, with the places xs
pub record RecordSpan (rs : List (Placed Statement)) (a b : ℕ) (p : Sheet) (xs : List ℕ) : Type 0 where
  pub ends : b ≡ a + size p
  pub listed : length xs ≡ size p
  pub stand : Stands rs a (with_places xs (records_from a p))

-- the flat statements of p with their places; the first has index n, and the first LOOP owns counter c
abbrev pub flatted : ℕ → ℕ → Sheet → List ℕ → List (Placed Flat)
flatted n c p xs = flats_with_places (flat_places p xs) (flat_records_from n (flat_from c p))

abbrev pub flat_of : Statement → Role → Flat
flat_of s r = record { statement = s; role = r }

-- the table t became u: one element more
pub record OneFiled (x : Placed Flat) (t u : Table (Placed Flat)) : Type 0 where
  pub room : count t < length (memory t)
  pub counted : count u ≡ suc (count t)
  pub filled : memory u ≡ slice_set (memory t) (count t) x

-- the table t became u: the flat statements of p are filed, and the memory behind them is as it was
pub record FlatsFiled (p : Sheet) (xs : List ℕ) (c : ℕ) (t : Table (Placed Flat)) (k : ℕ) (u : Table (Placed Flat)) : Type 0 where
  pub counters : k ≡ counters_end c p
  pub counted : count u ≡ count t + flat_size (flat_from c p)
  pub filled : memory u ≡ overwrite (memory t) (count t) (flatted (count t) c p xs)

-- the table t became u: of the flat statements of p, those of q are still to be filed
pub record FlatsLeft (p : Sheet) (xs : List ℕ) (c : ℕ) (t : Table (Placed Flat)) (q : Sheet) (ys : List ℕ) (k : ℕ) (u : Table (Placed Flat)) : Type 0 where
  pub counters : counters_end c p ≡ counters_end k q
  pub counted : count t + flat_size (flat_from c p) ≡ count u + flat_size (flat_from k q)
  pub filled : overwrite (memory t) (count t) (flatted (count t) c p xs) ≡ overwrite (memory u) (count u) (flatted (count u) k q ys)

-- the first statement of p is filed, and the rest of p begins at index n
pub record StatementFlat (rs : List (Placed Statement)) (b : ℕ) (p : Sheet) (xs : List ℕ) (c : ℕ) (t : Table (Placed Flat)) (n k : ℕ) (u : Table (Placed Flat)) : Type 0 where
  pub rest : Sheet
  pub places : List ℕ
  pub spans : RecordSpan rs n b rest places
  pub left : FlatsLeft p xs c t rest places k u

-- the memory has no room for the flat statements of p too
abbrev pub FlatsOver : Sheet → ℕ → Table (Placed Flat) → Type 0
FlatsOver p c t = length (memory t) < count t + flat_size (flat_from c p)

-- the table t became u: entry, test and countdown of a LOOP are filed; the test, at index i, has no end yet
pub record LoopOpened (x s c : ℕ) (t : Table (Placed Flat)) (i : ℕ) (u : Table (Placed Flat)) : Type 0 where
  pub room : count t + 3 ≤ length (memory t)
  pub test : i ≡ suc (count t)
  pub counted : count u ≡ count t + 3
  pub filled : memory u
      ≡ slice_set
      (slice_set (slice_set (memory t) (count t) (placed x (flat_of (statement_of Plus c s 0 (suc (count t))) Entry))) (suc (count t)) (placed x (flat_of (statement_of While 0 c 0 0) Test)))
      (suc (suc (count t)))
      (placed x (flat_of (statement_of Minus c c 1 (suc (suc (suc (count t))))) Down))

abbrev pub zero_placed_flat : Placed Flat
zero_placed_flat = placed 0 zero_flat

-- memory m became k: the n flat statements of p, with their places, and zero ones behind them
pub record Flattened (p : Sheet) (xs : List ℕ) (m : List (Placed Flat)) (n : ℕ) (k : List (Placed Flat)) : Type 0 where
  pub counted : n ≡ flat_size (flat p)
  pub room : flat_size (flat p) ≤ length m
  pub filled : k ≡ placed_flats p xs ++ replicate (length m - flat_size (flat p)) zero_placed_flat
