-- The jump code of a sheet in two stages: a LOOP becomes an entry and a WHILE over its counter, and then every WHILE becomes a test, its body
-- and a jump back.
use Rattle.std.specs.Prelude.{ℕ, suc, ◌+◌, List, [], ◌∷◌, ◌++◌, take, drop}
use Rattle.reader.specs.declared.types.Kind.TheVariants as kind
use Rattle.reader.specs.Sheet.{Sheet, done, plus, minus, loop, while, size}
use Rattle.reader.specs.declared.types.Placed.{Placed}
use Rattle.reader.specs.Symbols.{placed}
use Rattle.reader.specs.Records.{statement_of}
use Rattle.translator.specs.declared.types.Role.{Role}
use Rattle.translator.specs.declared.types.Role.TheVariants.{Written, Entry, Test, Down, Jump}
use Rattle.translator.specs.declared.types.Operation.TheVariants.{Plus, Minus, If, Goto}
use Rattle.translator.specs.declared.types.Instruction.{Instruction}
use Rattle.translator.specs.declared.types.Flat.{Flat}
use Rattle.translator.specs.JumpCode.{instruction, halt}
use Rattle.translator.specs.Counters.{first_counter, inside_loop, behind_loop, behind_while}

-- flat statements, each with its role and the rest behind it
pub data FlatSheet : Type 0 where
  flat_done : FlatSheet
  flat_plus : Role → ℕ → ℕ → ℕ → FlatSheet → FlatSheet  -- xi := xj + c
  flat_minus : Role → ℕ → ℕ → ℕ → FlatSheet → FlatSheet  -- xi := xj - c
  flat_while : Role → ℕ → FlatSheet → FlatSheet → FlatSheet  -- WHILE xi != 0 DO body END

-- the first stage; the next LOOP owns counter c
abbrev pub flat_from : ℕ → Sheet → FlatSheet
flat_from c done = flat_done
flat_from c (plus i j k p) = flat_plus Written i j k (flat_from c p)
flat_from c (minus i j k p) = flat_minus Written i j k (flat_from c p)
flat_from c (loop i b p) =
    flat_plus Entry c i 0 (flat_while Test c (flat_minus Down c c 1 (flat_from (inside_loop c) b)) (flat_from (behind_loop c b) p))
flat_from c (while i b p) = flat_while Written i (flat_from c b) (flat_from (behind_while c b) p)

abbrev pub flat : Sheet → FlatSheet
flat p = flat_from first_counter p

-- how many flat statements
abbrev pub flat_size : FlatSheet → ℕ
flat_size flat_done = 0
flat_size (flat_plus r i j k f) = suc (flat_size f)
flat_size (flat_minus r i j k f) = suc (flat_size f)
flat_size (flat_while r i b f) = suc (flat_size b + flat_size f)

-- how many instructions
abbrev pub code_size : FlatSheet → ℕ
code_size flat_done = 0
code_size (flat_plus r i j k f) = suc (code_size f)
code_size (flat_minus r i j k f) = suc (code_size f)
code_size (flat_while r i b f) = suc (code_size b + suc (code_size f))

-- the second stage: the code of flat statements from label l on
abbrev pub lay : ℕ → FlatSheet → List Instruction
lay l flat_done = []
lay l (flat_plus r i j k f) = instruction r (Plus i j k) ∷ lay (suc l) f
lay l (flat_minus r i j k f) = instruction r (Minus i j k) ∷ lay (suc l) f
lay l (flat_while r i b f) =
    instruction r (If i (suc (suc l + code_size b))) ∷ (lay (suc l) b ++ instruction Jump (Goto l) ∷ lay (suc (suc l + code_size b)) f)

-- the code of a sheet
abbrev pub compiled : Sheet → List Instruction
compiled p = lay 1 (flat p) ++ halt ∷ []

-- the records of flat statements in text order, of which the first has the index n
abbrev pub flat_records_from : ℕ → FlatSheet → List Flat
flat_records_from n flat_done = []
flat_records_from n (flat_plus r i j k f) = record { statement = statement_of kind.Plus i j k (suc n); role = r } ∷ flat_records_from (suc n) f
flat_records_from n (flat_minus r i j k f) = record { statement = statement_of kind.Minus i j k (suc n); role = r } ∷ flat_records_from (suc n) f
flat_records_from n (flat_while r i b f) =
    record { statement = statement_of kind.While 0 i 0 (suc n + flat_size b); role = r } ∷ (flat_records_from (suc n) b ++ flat_records_from (suc n + flat_size b) f)

abbrev pub flat_records : FlatSheet → List Flat
flat_records f = flat_records_from 0 f

-- each flat statement has the place of the statement that it was made from
abbrev pub flat_places : Sheet → List ℕ → List ℕ
flat_places p [] = []
flat_places done (x ∷ xs) = []
flat_places (plus i j k p) (x ∷ xs) = x ∷ flat_places p xs
flat_places (minus i j k p) (x ∷ xs) = x ∷ flat_places p xs
flat_places (loop i b p) (x ∷ xs) = x ∷ x ∷ x ∷ (flat_places b (take (size b) xs) ++ flat_places p (drop (size b) xs))
flat_places (while i b p) (x ∷ xs) = x ∷ (flat_places b (take (size b) xs) ++ flat_places p (drop (size b) xs))

abbrev pub flats_with_places : List ℕ → List Flat → List (Placed Flat)
flats_with_places [] fs = []
flats_with_places (x ∷ xs) [] = []
flats_with_places (x ∷ xs) (f ∷ fs) = placed x f ∷ flats_with_places xs fs

-- the flat statements of a sheet with their places, where the statements have the places xs
abbrev pub placed_flats : Sheet → List ℕ → List (Placed Flat)
placed_flats p xs = flats_with_places (flat_places p xs) (flat_records (flat p))

abbrev pub zero_flat : Flat
zero_flat = record { statement = statement_of kind.Zero 0 0 0 0; role = Written }
