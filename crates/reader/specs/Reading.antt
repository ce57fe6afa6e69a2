-- What a read of a text answers, and what its memory then holds.
use Rattle.std.specs.Prelude.{ℕ, ◌-◌, ◌<◌, ◌≤◌, List, [], ◌++◌, length, Ok, Err, Result}
use Rattle.reader.specs.declared.types.Placed.{Placed}
use Rattle.reader.specs.declared.types.Refusal.{Refusal}
use Rattle.reader.specs.declared.types.Refusal.TheVariants.{Overlong, TreeFull}
use Rattle.reader.specs.declared.types.Statement.{Statement}
use Rattle.reader.specs.Sheet.{Sheet, Within, size}
use Rattle.reader.specs.Symbols.{PlacedSymbol, placed, symbols, heads}
use Rattle.reader.specs.Grammar.{Spells}
use Rattle.reader.specs.Faults.{FirstFault}
use Rattle.reader.specs.Text.{Reads}
use Rattle.reader.specs.Refusals.{refusal_number}
use Rattle.reader.specs.Records.{records, with_places, cleared}

-- the text has at most 16,384 bytes, and ys are its symbols
pub record Lexed (text : List ℕ) (ys : List PlacedSymbol) : Type 0 where
  pub short : length text ≤ 16384
  pub reads : Reads 0 text ys

-- the symbols spell the sheet p, which is within the limits
pub record Sheeted (ys : List PlacedSymbol) (p : Sheet) : Type 0 where
  pub spells : Spells (symbols ys) p
  pub within : Within p

-- a read of the text into memory for `room` records: the answer, and what the memory then holds
pub data ReadAnswers (text : List ℕ) (room : ℕ) : Result ℕ (Placed Refusal) → List (Placed Statement) → Type 0 where
  accepted : {ys : List PlacedSymbol} {p : Sheet} → Lexed text ys → Sheeted ys p → size p ≤ room → ReadAnswers text room (Ok (size p)) (with_places (heads ys) (records p) ++ cleared (room - size p))
  -- 1 overlong
  overlong : 16384 < length text → ReadAnswers text room (Err (placed 16384 Overlong)) (cleared room)
  -- 2 to 7: the leftmost fault
  faulty : {ys : List PlacedSymbol} {place : ℕ} {refusal : Refusal} → Lexed text ys → FirstFault (length text) [] ys place (refusal_number refusal) → ReadAnswers text room (Err (placed place refusal)) (cleared room)
  -- 8 tree full: all else is well
  tree_full : {ys : List PlacedSymbol} {p : Sheet} → Lexed text ys → Sheeted ys p → room < size p → ReadAnswers text room (Err (placed (length text) TreeFull)) (cleared room)
