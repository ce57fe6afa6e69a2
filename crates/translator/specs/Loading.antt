-- What a load answers, and what its memories then hold.
use Rattle.std.specs.Prelude.{◌≡◌, ℕ, ◌-◌, ◌<◌, ◌≤◌, List, ◌++◌, length, replicate, Err}
use Rattle.reader.specs.declared.types.Placed.{Placed}
use Rattle.reader.specs.declared.types.Refusal.{Refusal}
use Rattle.reader.specs.declared.types.Refusal.TheVariants.{FlatFull, CodeFull}
use Rattle.reader.specs.declared.types.Statement.{Statement}
use Rattle.reader.specs.Sheet.{Sheet, size}
use Rattle.reader.specs.Symbols.{PlacedSymbol, placed, heads}
use Rattle.reader.specs.Records.{records, with_places, cleared}
use Rattle.reader.specs.Reading.{Lexed, Sheeted, ReadAnswers}
use Rattle.translator.specs.declared.draft.Draft.{Draft}
use Rattle.translator.specs.declared.draft.SealedCode.{SealedCode}
use Rattle.translator.specs.declared.types.Flat.{Flat}
use Rattle.translator.specs.declared.types.Instruction.{Instruction}
use Rattle.translator.specs.declared.types.Stage.{Stage}
use Rattle.translator.specs.declared.types.Stage.TheVariants.{Read, Flatten, Lay}
use Rattle.translator.specs.declared.types.Fault.{Fault}
use Rattle.translator.specs.JumpCode.{halt}
use Rattle.translator.specs.Counters.{sheet_width}
use Rattle.translator.specs.Translation.{flat, flat_size, compiled, placed_flats}
use Rattle.translator.specs.Seals.{sealed_memory, sealed_code, sealed_width}
use Rattle.translator.specs.Laying.{Coded}
use Rattle.translator.specs.Flattening.{zero_placed_flat}

abbrev pub fault : Stage → Placed Refusal → Fault
fault s e = record { stage = s; cause = e }

-- memory that holds zero flat statements, or zero instructions, and nothing else
abbrev pub cleared_flats : ℕ → List (Placed Flat)
cleared_flats n = replicate n zero_placed_flat

abbrev pub cleared_code : ℕ → List Instruction
cleared_code n = replicate n halt

-- the text spells the sheet p, which is within the limits; its statements have the places xs
pub record SpelledSheet (text : List ℕ) (p : Sheet) (xs : List ℕ) : Type 0 where
  pub symbols : List PlacedSymbol
  pub lexed : Lexed text symbols
  pub sheeted : Sheeted symbols p
  pub places : xs ≡ heads symbols

-- memory for r statements and f flat ones, with the sheet that the text spells in both of its forms
pub record Prepared (text : List ℕ) (r f n : ℕ) (rs : List (Placed Statement)) (fs : List (Placed Flat)) : Type 0 where
  pub sheet : Sheet
  pub places : List ℕ
  pub spelled : SpelledSheet text sheet places
  pub counted : n ≡ flat_size (flat sheet)
  pub room : (size sheet ≤ r) × (flat_size (flat sheet) ≤ f)
  pub statements : rs ≡ with_places places (records sheet) ++ cleared (r - size sheet)
  pub flats : fs ≡ placed_flats sheet places ++ cleared_flats (f - flat_size (flat sheet))

-- the draft d became e: it holds the code of that sheet too
pub record SheetLaid (text : List ℕ) (r f : ℕ) (rs : List (Placed Statement)) (fs : List (Placed Flat)) (d e : Draft) : Type 0 where
  pub flats : ℕ
  pub prepared : Prepared text r f flats rs fs
  pub coded : Coded prepared.sheet d e

-- an accepted load into memory for r statements, f flat ones and c instructions: the sheet that the text spells, its flat statements,
-- and its translation, each with zero ones behind them
pub record Loaded (text : List ℕ) (r f c : ℕ) (rs : List (Placed Statement)) (fs : List (Placed Flat)) (s : SealedCode) : Type 0 where
  pub sheet : Sheet
  pub places : List ℕ
  pub spelled : SpelledSheet text sheet places
  pub room : (size sheet ≤ r) × (flat_size (flat sheet) ≤ f) × (length (compiled sheet) ≤ c)
  pub statements : rs ≡ with_places places (records sheet) ++ cleared (r - size sheet)
  pub flats : fs ≡ placed_flats sheet places ++ cleared_flats (f - flat_size (flat sheet))
  pub code : sealed_code s ≡ compiled sheet
  pub memory : sealed_memory s ≡ compiled sheet ++ cleared_code (c - length (compiled sheet))
  pub registers : sealed_width s ≡ sheet_width sheet

-- the fault of a load: that of the first stage that refuses
pub data LoadRefuses (text : List ℕ) (r f c : ℕ) : Fault → Type 0 where
  unread : {e : Placed Refusal} → ReadAnswers text r (Err e) (cleared r) → LoadRefuses text r f c (fault Read e)
  unflattened : {p : Sheet} {xs : List ℕ} → SpelledSheet text p xs → size p ≤ r → f < flat_size (flat p) → LoadRefuses text r f c (fault Flatten (placed 0 FlatFull))
  unlaid : {p : Sheet} {xs : List ℕ} → SpelledSheet text p xs → size p ≤ r → flat_size (flat p) ≤ f → c < length (compiled p) → LoadRefuses text r f c (fault Lay (placed 0 CodeFull))

-- the same code, N and memory
pub record SameCode (s t : SealedCode) : Type 0 where
  pub code : sealed_code s ≡ sealed_code t
  pub memory : sealed_memory s ≡ sealed_memory t
  pub registers : sealed_width s ≡ sealed_width t

-- a text and three memories have one answer of load: one code and one content of the memories, or one fault, and not both
pub record LoadIsUnique : Type 0 where
  pub accepted : (text : List ℕ) (r f c : ℕ) (rs rs' : List (Placed Statement)) (fs fs' : List (Placed Flat)) (s t : SealedCode)
      → Loaded text r f c rs fs s → Loaded text r f c rs' fs' t → (rs ≡ rs') × (fs ≡ fs') × SameCode s t
  pub refused : (text : List ℕ) (r f c : ℕ) (e e' : Fault) → LoadRefuses text r f c e → LoadRefuses text r f c e' → e ≡ e'
  pub apart : (text : List ℕ) (r f c : ℕ) (rs : List (Placed Statement)) (fs : List (Placed Flat)) (s : SealedCode) (e : Fault)
      → Loaded text r f c rs fs s → LoadRefuses text r f c e → ⊥
