-- What the parser's functions tell of a part of the text: the symbols that they passed, the sheet that these spell, and the
-- records filed for it; or what is refused.
use Rattle.std.specs.Prelude.{◌≡◌, ℕ, suc, ◌+◌, ◌<◌, ◌≤◌, List, [], ◌∷◌, ◌++◌, length, drop, Some, None, Ok, Err, Option, Result, ◌≢◌, slice_set}
use Rattle.reader.specs.declared.types.Placed.{Placed}
use Rattle.reader.specs.declared.types.Refusal.{Refusal}
use Rattle.reader.specs.declared.types.Refusal.TheVariants.{TooDeep, TooMany, TreeFull}
use Rattle.reader.specs.declared.types.Kind.{Kind}
use Rattle.reader.specs.declared.types.Kind.TheVariants as kind
use Rattle.reader.specs.declared.types.Lexeme.{Lexeme}
use Rattle.reader.specs.declared.types.Lexeme.TheVariants as lexeme
use Rattle.reader.specs.declared.types.Statement.{Statement}
use Rattle.reader.specs.declared.parser.Parser.{Parser}
use Rattle.reader.specs.declared.level.Level.{Level}
use Rattle.reader.specs.declared.parser.BlockKind.{BlockKind}
use Rattle.reader.specs.declared.parser.BlockKind.TheVariants as block
use Rattle.reader.specs.Sheet.{Sheet, size}
use Rattle.reader.specs.Symbols.{Symbol, LOOP, WHILE, DO, number, register, unequal, PlacedSymbol, placed, symbols, heads}
use Rattle.reader.specs.Grammar.{Spells}
use Rattle.reader.specs.Text.{Reads}
use Rattle.reader.specs.Machine.{Expect, statement, more, loop_register, while_register, refused, judge}
use Rattle.reader.specs.Refusals.{refusal_number}
use Rattle.reader.specs.Records.{records_from, records, with_places}
use Rattle.reader.specs.Faults.{FirstFault}
use Rattle.reader.specs.Reading.{Sheeted}
use Rattle.filing.specs.Tables.{overwrite}
use Rattle.reader.specs.Lexing.{meant, Fine, Between}
use Rattle.reader.specs.Expecting.{Halts}

abbrev pub text_of : Parser → List ℕ
text_of a = a.cursor.text.now

abbrev pub pos_of : Parser → ℕ
pos_of a = a.cursor.pos

abbrev pub memory_of : Parser → List (Placed Statement)
memory_of a = a.records.now

-- what a call leaves as it was: the text, and which memory the records go to
pub record Kept (a z : Parser) : Type 0 where
  pub text : text_of z ≡ text_of a
  pub room : length (memory_of z) ≡ length (memory_of a)
  pub loan : z.records.ghost_name ≡ a.records.ghost_name

-- the symbols us are those of one or more statements at that level, of a text that ends at `end`; n statements and m LOOPs had
-- begun before them, n' and m' after; the memory then holds their records too
pub record Parsed (end level n m : ℕ) (before : List (Placed Statement)) (us : List PlacedSymbol) (n' m' : ℕ) (after : List (Placed Statement)) : Type 0 where
  pub sheet : Sheet
  pub last : ℕ
  pub spells : Spells (symbols us) sheet
  pub began : n' ≡ suc last
  pub grown : n' ≡ n + size sheet
  pub judged : (zs : List PlacedSymbol) → judge end statement level n m (us ++ zs) ≡ judge end more level last m' zs
  pub filed : after ≡ overwrite before n (with_places (heads us) (records_from n sheet))

-- behind the symbols us, what stands from `from` on is refused so
abbrev pub RefusedBehind : List PlacedSymbol → List ℕ → ℕ → ℕ → ℕ → ℕ → Placed Refusal → Type 0
RefusedBehind us text from level n m e =
    (ys : List PlacedSymbol) × Reads from (drop from text) ys × (judge (length text) statement level n m (us ++ ys) ≡ refused (refusal_number e.item) e.place)

-- one statement, of which the symbols us were passed already
abbrev pub StatementRead : {X : Type 0} → List PlacedSymbol → ℕ → Parser → Result X (Placed Refusal) → Parser → Type 0
StatementRead us level a (Ok u) z =
    (vs : List PlacedSymbol) × Between (text_of a) (pos_of a) (pos_of z) vs
    × Parsed (length (text_of a)) level a.counts.statements a.counts.loops (memory_of a) (us ++ vs) z.counts.statements z.counts.loops (memory_of z)
StatementRead us level a (Err e) z = RefusedBehind us (text_of a) (pos_of a) level a.counts.statements a.counts.loops e

-- what stands behind a body at `mid`: the text's end, or a symbol that is no semicolon
abbrev pub Follows : List ℕ → ℕ → Option (Placed Lexeme) → ℕ → Type 0
Follows text mid None to = Reads mid (drop mid text) []
Follows text mid (Some x) to = Between text mid to (placed x.place (meant x.item) ∷ []) × Fine (meant x.item) × (x.item ≢ lexeme.Semicolon)

-- the statements of a body, and what follows them
abbrev pub BodyRead : ℕ → Parser → Result (Option (Placed Lexeme)) (Placed Refusal) → Parser → Type 0
BodyRead level a (Ok x) z =
    (us : List PlacedSymbol) × (mid : ℕ) × Between (text_of a) (pos_of a) mid us
    × Parsed (length (text_of a)) level a.counts.statements a.counts.loops (memory_of a) us z.counts.statements z.counts.loops (memory_of z) × Follows (text_of a) mid x (pos_of z)
BodyRead level a (Err e) z = RefusedBehind [] (text_of a) (pos_of a) level a.counts.statements a.counts.loops e

-- the word that begins a LOOP or WHILE, and what is expected behind it
pub data Opening : Kind → Symbol → Expect → Type 0 where
  opening_loop : Opening kind.Loop LOOP loop_register
  opening_while : Opening kind.While WHILE while_register

-- the kind of a block's record
abbrev pub kind_of : BlockKind → Kind
kind_of block.Loop = kind.Loop
kind_of block.While = kind.While

-- whether a LOOP or WHILE at that level may begin, where n statements and m LOOPs have begun, or which limit it would pass;
-- then m' LOOPs have begun
pub data Admitted (level n m : ℕ) : Kind → Option Refusal → ℕ → Type 0 where
  admits_loop : level < 8 → n < 256 → m < 32 → Admitted level n m kind.Loop None (suc m)
  admits_while : level < 8 → n < 256 → Admitted level n m kind.While None m
  too_deep : {k : Kind} → level ≡ 8 → Admitted level n m k (Some TooDeep) m
  too_many : {k : Kind} → level < 8 → n ≡ 256 → Admitted level n m k (Some TooMany) m
  too_many_loops : level < 8 → n < 256 → m ≡ 32 → Admitted level n m kind.Loop (Some TooMany) m

-- the same of a LOOP or WHILE at that place, and which level is inside it
abbrev pub Admits : ℕ → ℕ → ℕ → Kind → ℕ → Result Level (Placed Refusal) → ℕ → Type 0
Admits level n m k place (Ok inner) m' = Admitted level n m k None m' × (inner.depth ≡ level + 1)
Admits level n m k place (Err e) m' = Admitted level n m k (Some e.item) m' × (e.place ≡ place)

-- the symbols of a head behind its word
pub data Head : Kind → ℕ → List PlacedSymbol → Type 0 where
  head_loop : {p₂ p₃ i : ℕ} → Head kind.Loop i (placed p₂ (register i) ∷ placed p₃ DO ∷ [])
  head_while : {p₂ p₃ p₄ p₅ i : ℕ} → Head kind.While i (placed p₂ (register i) ∷ placed p₃ unequal ∷ placed p₄ (number 0) ∷ placed p₅ DO ∷ [])

abbrev pub HeadRead : Expect → Kind → List ℕ → ℕ → Result ℕ (Placed Refusal) → ℕ → Type 0
HeadRead x k text from (Ok i) to = (hs : List PlacedSymbol) × Between text from to hs × Head k i hs × (i ≤ 31)
HeadRead x k text from (Err e) to = Halts text from x e

-- a LOOP or WHILE at that place and level is counted, or the limit that it would pass is told
pub record BlockAdmitted (level : ℕ) (k : Kind) (place : ℕ) (a : Parser) (r : Result Level (Placed Refusal)) (z : Parser) : Type 0 where
  pub admitted : Admits level a.counts.statements a.counts.loops k place r z.counts.loops
  pub begun : z.counts.statements ≡ a.counts.statements
  pub memory : memory_of z ≡ memory_of a
  pub kept : Kept a z
  pub pos : pos_of z ≡ pos_of a

-- the head of a LOOP or WHILE is read
pub record BlockHeadRead (k : Kind) (a : Parser) (r : Result ℕ (Placed Refusal)) (z : Parser) : Type 0 where
  pub read : (s : Symbol) (x : Expect) → Opening k s x → HeadRead x k (text_of a) (pos_of a) r (pos_of z)
  pub begun : (z.counts.statements ≡ a.counts.statements) × (z.counts.loops ≡ a.counts.loops)
  pub memory : memory_of z ≡ memory_of a
  pub kept : Kept a z

-- the record of one statement more is filed
pub record RecordFiled (x : Placed Statement) (a : Parser) (i : ℕ) (z : Parser) : Type 0 where
  pub index : i ≡ a.counts.statements
  pub begun : z.counts.statements ≡ suc a.counts.statements
  pub loops : z.counts.loops ≡ a.counts.loops
  pub filed : memory_of z ≡ slice_set (memory_of a) a.counts.statements x
  pub kept : Kept a z
  pub pos : pos_of z ≡ pos_of a

-- why a sheet is refused: a first fault, or too little memory
pub data SheetRefused (room : ℕ) (text : List ℕ) : Placed Refusal → Type 0 where
  sheet_faulty : {ys : List PlacedSymbol} {place : ℕ} {refusal : Refusal} → Reads 0 text ys → FirstFault (length text) [] ys place (refusal_number refusal) → SheetRefused room text (placed place refusal)
  sheet_large : {ys : List PlacedSymbol} {p : Sheet} → Reads 0 text ys → Sheeted ys p → room < size p → SheetRefused room text (placed (length text) TreeFull)

-- a parser at the beginning of its text, with memory for `room` records
pub record Fresh (room : ℕ) (a : Parser) : Type 0 where
  pub pos : pos_of a ≡ 0
  pub begun : a.counts.statements ≡ 0
  pub looped : a.counts.loops ≡ 0
  pub roomy : room ≡ length (memory_of a)

-- a whole sheet: accepted, with its records at the front of the memory, or refused
abbrev pub SheetRead : ℕ → List ℕ → List (Placed Statement) → Result ℕ (Placed Refusal) → List (Placed Statement) → Type 0
SheetRead room text before (Ok n) after =
    (ys : List PlacedSymbol) × (p : Sheet) × Reads 0 text ys × Sheeted ys p × (n ≡ size p) × (n ≤ room)
    × (after ≡ overwrite before 0 (with_places (heads ys) (records p)))
SheetRead room text before (Err e) after = SheetRefused room text e × (length after ≡ length before)
