-- Laying the code of flat statements into a draft.
use Rattle.std.specs.Prelude.{◌≡◌, ℕ, suc, ◌+◌, ◌-◌, ◌<◌, List, [], ◌∷◌, ◌++◌, map, length, replicate}
use Rattle.std.proofs.Math.Option.{some}
use Rattle.std.proofs.Math.ListN.{get_elem?}
use Rattle.filing.specs.Tables.{overwrite}
use Rattle.reader.specs.Sheet.{Sheet}
use Rattle.reader.specs.declared.types.Placed.{Placed}
use Rattle.reader.specs.declared.types.Kind.{Kind}
use Rattle.reader.specs.declared.types.Kind.TheVariants.{Zero, Plus, Minus, Loop, While}
use Rattle.translator.specs.declared.draft.Draft.{Draft}
use Rattle.translator.specs.declared.types.Operation.{Operation}
use Rattle.translator.specs.declared.types.Operation.TheVariants as operation
use Rattle.translator.specs.declared.types.Flat.{Flat}
use Rattle.translator.specs.declared.types.Role.TheVariants.{Jump}
use Rattle.translator.specs.declared.types.Operation.TheVariants.{Goto}
use Rattle.translator.specs.JumpCode.{instruction, halt}
use Rattle.translator.specs.Drafts.{draft_memory, laid, laid_code, Appended}
use Rattle.translator.specs.Translation.{FlatSheet, flat_size, code_size, lay, compiled, flat_records_from}

-- the elements xs stand in ys from index a on
abbrev pub Stands : {A : Type 0} → List A → ℕ → List A → Type 0
Stands ys a [] = Unit {0}
Stands ys a (x ∷ xs) = (get_elem? ys a ≡ some x) × Stands ys (suc a) xs

-- the records from index a up to b are those of the flat statements f
pub record FlatSpan (rs : List (Placed Flat)) (a b : ℕ) (f : FlatSheet) : Type 0 where
  pub ends : b ≡ a + flat_size f
  pub stand : Stands (map (λ r. r.item) rs) a (flat_records_from a f)

-- the operation of an assignment; no other statement has one
abbrev pub assigned : Kind → ℕ → ℕ → ℕ → Operation
assigned Zero i j c = operation.Halt
assigned Plus i j c = operation.Plus i j c
assigned Minus i j c = operation.Minus i j c
assigned Loop i j c = operation.Halt
assigned While i j c = operation.Halt

-- the draft d became e: the code of f is laid, and the memory behind it is as it was
pub record CodeLaid (f : FlatSheet) (d e : Draft) : Type 0 where
  pub counted : laid e ≡ laid d + code_size f
  pub filled : draft_memory e ≡ overwrite (draft_memory d) (laid d) (lay (suc (laid d)) f)

-- the draft d became e: of the code of f, that of g is still to be laid
pub record CodeLeft (f : FlatSheet) (d : Draft) (g : FlatSheet) (e : Draft) : Type 0 where
  pub counted : laid d + code_size f ≡ laid e + code_size g
  pub filled : overwrite (draft_memory d) (laid d) (lay (suc (laid d)) f) ≡ overwrite (draft_memory e) (laid e) (lay (suc (laid e)) g)

-- the statement at index a of f is laid, and the rest of f begins at index n
pub record StatementLaid (rs : List (Placed Flat)) (b : ℕ) (f : FlatSheet) (d : Draft) (n : ℕ) (e : Draft) : Type 0 where
  pub rest : FlatSheet
  pub spans : FlatSpan rs n b rest
  pub left : CodeLeft f d rest e

-- the memory of a draft has no room for the code of f too
abbrev pub NoRoom : FlatSheet → Draft → Type 0
NoRoom f d = length (draft_memory d) < laid d + code_size f

-- the draft d became e: the body f of a WHILE is laid, and behind it the jump back to the label l
pub record RoundLaid (f : FlatSheet) (l : ℕ) (d e : Draft) : Type 0 where
  pub between : Draft
  pub body : CodeLaid f d between
  pub back : Appended (instruction Jump (Goto l)) between e

-- the memory has no room for them
abbrev pub NoRoomForRound : FlatSheet → Draft → Type 0
NoRoomForRound f d = length (draft_memory d) < laid d + suc (code_size f)

-- the draft d became e: it holds the code of p, and zero instructions behind it
pub record Coded (p : Sheet) (d e : Draft) : Type 0 where
  pub code : laid_code e ≡ compiled p
  pub filled : draft_memory e ≡ compiled p ++ replicate (length (draft_memory d) - length (compiled p)) halt
