-- The most levels around a record of a sheet are the depth of the sheet.
use Rattle.std.proofs.Common.{◌≡◌, ℕ, suc, ◌+◌, ◌<◌, ◌≤◌, max, Bool, true, false, cond, leb, ◌⊎◌, List, [], ◌∷◌, ◌++◌, length, sym, refl, ap, ◌∙◌, subst, inl, inr, ⊎_elim, arith}
use Rattle.std.proofs.lemmas.Bool.{cases_lt, lt-ltb, le-ltb, le-leb, lt-leb}
use Rattle.reader.specs.declared.types.Placed.{Placed}
use Rattle.reader.specs.declared.types.Kind.TheVariants.{Plus, Minus, Loop, While}
use Rattle.reader.specs.declared.types.Statement.{Statement}
use Rattle.reader.specs.Sheet.{Sheet, done, plus, minus, loop, while, size, depth}
use Rattle.reader.specs.Records.{statement_of, records_from, records}
use Rattle.reader.specs.Checks.{items}
use Rattle.reader.proofs.Records.{length-records}
use Rattle.survey.specs.Counts.{block_count, level_count, levels_from, blocks_around, Deepest}

-- The level of one statement.
either : (b : Bool) (n : ℕ) → cond b n n ≡ n
either true n = refl
either false n = refl

number_before : (s : Statement) (i j : ℕ) → j < i → level_count s i j ≡ 0
number_before s i j lt = rw (lt-leb i j lt) refl

number_past : (s : Statement) (i j : ℕ) → s.end ≤ j → level_count s i j ≡ 0
number_past s i j le = rw (le-ltb j s.end le) (either (leb i j) 0)

number_in : (s : Statement) (i j : ℕ) → i ≤ j → j < s.end → level_count s i j ≡ block_count s.kind
number_in s i j le lt = rw (le-leb i j le, lt-ltb j s.end lt) refl

number_small : (s : Statement) (i j : ℕ) → level_count s i j ≤ block_count s.kind
number_small s i j =
    ⊎_elim
    (λ (lt : j < i). let e = number_before s i j lt in omega (arith, e))
    (λ (le : i ≤ j).
    ⊎_elim
    (λ (within : j < s.end). let e = number_in s i j le within in omega (arith, e))
    (λ (past : s.end ≤ j). let e = number_past s i j past in omega (arith, e))
    (cases_lt j s.end))
    (cases_lt j i)

-- The levels in a list of statements.
abbrev levels : ℕ → List Statement → ℕ → ℕ
levels i [] j = 0
levels i (s ∷ ss) j = level_count s i j + levels (suc i) ss j

levels-items : (i : ℕ) (rs : List (Placed Statement)) (j : ℕ) → levels_from i rs j ≡ levels i (items rs) j
levels-items i [] j = refl
levels-items i (r ∷ rs) j = ap (λ (n : ℕ). level_count r.item i j + n) (levels-items (suc i) rs j)

levels-before : (i : ℕ) (ss : List Statement) (j : ℕ) → j < i → levels i ss j ≡ 0
levels-before i [] j lt = refl
levels-before i (s ∷ ss) j lt = omega (arith, number_before s i j lt, levels-before (suc i) ss j (omega arith))

levels_append : (i : ℕ) (xs ys : List Statement) (j : ℕ) → levels i (xs ++ ys) j ≡ levels i xs j + levels (i + length xs) ys j
levels_append i [] ys j = let on : i ≡ i + 0 = omega arith in let e : levels i ys j ≡ levels (i + 0) ys j = ap (λ (n : ℕ). levels n ys j) on in omega (arith, e)
levels_append i (x ∷ xs) ys j =
    let on : suc i + length xs ≡ i + suc (length xs) = omega arith in
    let e : levels (suc i + length xs) ys j ≡ levels (i + suc (length xs)) ys j = ap (λ (n : ℕ). levels n ys j) on in
    let h = levels_append (suc i) xs ys j in
    omega (arith, e, h)

-- The levels in the records of a sheet, the first of which has index n.
sheet_levels : ℕ → Sheet → ℕ → ℕ
sheet_levels n p j = levels n (records_from n p) j

levels_block : (s : Statement) (n : ℕ) (b p : Sheet) (j : ℕ)
    → levels n (s ∷ (records_from (suc n) b ++ records_from (suc n + size b) p)) j ≡ level_count s n j + (sheet_levels (suc n) b j + sheet_levels (suc n + size b) p j)
unfolding sheet_levels
levels_block s n b p j =
    let e = levels_append (suc n) (records_from (suc n) b) (records_from (suc n + size b) p) j in
    let f = ap (λ (k : ℕ). levels (suc n + k) (records_from (suc n + size b) p) j) (length-records (suc n) b) in
    omega (arith, e, f)

loop_levels : (n i : ℕ) (b p : Sheet) (j : ℕ)
    → sheet_levels n (loop i b p) j ≡ level_count (statement_of Loop 0 i 0 (suc n + size b)) n j + (sheet_levels (suc n) b j + sheet_levels (suc n + size b) p j)
unfolding sheet_levels
loop_levels n i b p j = levels_block (statement_of Loop 0 i 0 (suc n + size b)) n b p j

while_levels : (n i : ℕ) (b p : Sheet) (j : ℕ)
    → sheet_levels n (while i b p) j ≡ level_count (statement_of While 0 i 0 (suc n + size b)) n j + (sheet_levels (suc n) b j + sheet_levels (suc n + size b) p j)
unfolding sheet_levels
while_levels n i b p j = levels_block (statement_of While 0 i 0 (suc n + size b)) n b p j

plus_levels : (n i k c : ℕ) (p : Sheet) (j : ℕ) → sheet_levels n (plus i k c p) j ≡ sheet_levels (suc n) p j
unfolding sheet_levels
plus_levels n i k c p j = let e = number_small (statement_of Plus i k c (suc n)) n j in omega (arith, e)

minus_levels : (n i k c : ℕ) (p : Sheet) (j : ℕ) → sheet_levels n (minus i k c p) j ≡ sheet_levels (suc n) p j
unfolding sheet_levels
minus_levels n i k c p j = let e = number_small (statement_of Minus i k c (suc n)) n j in omega (arith, e)

before : (n : ℕ) (p : Sheet) (j : ℕ) → j < n → sheet_levels n p j ≡ 0
unfolding sheet_levels
before n p j lt = levels-before n (records_from n p) j lt

none : (n j : ℕ) → sheet_levels n done j ≡ 0
unfolding sheet_levels
none n j = refl

past : (n : ℕ) (p : Sheet) (j : ℕ) → n + size p ≤ j → sheet_levels n p j ≡ 0
past n done j le = none n j
past n (plus i k c p) j le = plus_levels n i k c p j ∙ past (suc n) p j (omega arith)
past n (minus i k c p) j le = minus_levels n i k c p j ∙ past (suc n) p j (omega arith)
past n (loop i b p) j le =
    let h = number_past (statement_of Loop 0 i 0 (suc n + size b)) n j (omega arith) in
    omega (arith, loop_levels n i b p j, h, past (suc n) b j (omega arith), past (suc n + size b) p j (omega arith))
past n (while i b p) j le =
    let h = number_past (statement_of While 0 i 0 (suc n + size b)) n j (omega arith) in
    omega (arith, while_levels n i b p j, h, past (suc n) b j (omega arith), past (suc n + size b) p j (omega arith))

-- At most d levels stand around each index, and d around one of the sheet's, if any.
record Deep (n : ℕ) (p : Sheet) (d : ℕ) : Type 0 where
  bound : (j : ℕ) → sheet_levels n p j ≤ d
  reached : (d ≡ 0) ⊎ ((j : ℕ) × (n ≤ j) × (j < n + size p) × (sheet_levels n p j ≡ d))

-- A place of a sheet around which there are d levels.
abbrev Reached : ℕ → Sheet → ℕ → Type 0
Reached n p d = (j : ℕ) × (n ≤ j) × (j < n + size p) × (sheet_levels n p j ≡ d)

-- A LOOP or WHILE with its body b, and p behind it.
module _ (n : ℕ) (q b p : Sheet) (s : Statement) (ends : s.end ≡ suc n + size b) (one : block_count s.kind ≡ 1) (whole : size q ≡ suc (size b + size p))
    (split : (j : ℕ) → sheet_levels n q j ≡ level_count s n j + (sheet_levels (suc n) b j + sheet_levels (suc n + size b) p j)) where
  in_body : (j : ℕ) → n ≤ j → j < suc n + size b → sheet_levels n q j ≡ suc (sheet_levels (suc n) b j)
  in_body j le lt = omega (arith, split j, number_in s n j le (omega (arith, ends)), one, before (suc n + size b) p j lt)

  behind_body : (j : ℕ) → suc n + size b ≤ j → sheet_levels n q j ≡ sheet_levels (suc n + size b) p j
  behind_body j le = omega (arith, split j, number_past s n j (omega (arith, ends)), past (suc n) b j le)

  in_front : (j : ℕ) → j < n → sheet_levels n q j ≡ 0
  in_front j lt = before n q j lt

  block_bound : (c d : ℕ) → Deep (suc n) b c → Deep (suc n + size b) p d → (j : ℕ) → sheet_levels n q j ≤ max (suc c) d
  block_bound c d db dp j =
      ⊎_elim
      (λ (lt : j < n). omega (arith, in_front j lt))
      (λ (le : n ≤ j).
      ⊎_elim
      (λ (lt : j < suc n + size b). omega (arith, in_body j le lt, db.bound j))
      (λ (ge : suc n + size b ≤ j). omega (arith, behind_body j ge, dp.bound j))
      (cases_lt j (suc n + size b)))
      (cases_lt j n)

  reached_by_body : (c : ℕ) → Deep (suc n) b c → Reached n q (suc c)
  reached_by_body c db =
      ⊎_elim
      (λ (z : c ≡ 0). (n, omega arith, omega (arith, whole), omega (arith, z, in_body n (omega arith) (omega arith), before (suc n) b n (omega arith))))
      (λ (r : Reached (suc n) b c). (r.0, omega (arith, r.1), omega (arith, whole, r.2), omega (arith, in_body r.0 (omega (arith, r.1)) r.2, r.3)))
      db.reached

  reached_behind : (d : ℕ) → 0 < d → Deep (suc n + size b) p d → Reached n q d
  reached_behind d some dp =
      ⊎_elim
      (λ (z : d ≡ 0). absurd (omega (arith, z, some)))
      (λ (r : Reached (suc n + size b) p d). (r.0, omega (arith, r.1), omega (arith, whole, r.2), behind_body r.0 r.1 ∙ r.3))
      dp.reached

  block_reached : (c d : ℕ) → Deep (suc n) b c → Deep (suc n + size b) p d → Reached n q (max (suc c) d)
  block_reached c d db dp =
      ⊎_elim
      (λ (lt : suc c < d). let m : d ≡ max (suc c) d = omega arith in subst (λ (k : ℕ). Reached n q k) m (reached_behind d (omega arith) dp))
      (λ (ge : d ≤ suc c). let m : suc c ≡ max (suc c) d = omega arith in subst (λ (k : ℕ). Reached n q k) m (reached_by_body c db))
      (cases_lt (suc c) d)

  block_deep : (c d : ℕ) → Deep (suc n) b c → Deep (suc n + size b) p d → Deep n q (max (suc c) d)
  block_deep c d db dp = record { bound = block_bound c d db dp; reached = inr (block_reached c d db dp) }

-- An assignment, and p behind it.
plain_deep : (n : ℕ) (q p : Sheet) (d : ℕ) → size q ≡ suc (size p) → ((j : ℕ) → sheet_levels n q j ≡ sheet_levels (suc n) p j) → Deep (suc n) p d → Deep n q d
plain_deep n q p d whole same dp = record {
  bound = λ j. omega (arith, same j, dp.bound j);
  reached =
      ⊎_elim
      (λ (z : d ≡ 0). inl z)
      (λ (r : Reached (suc n) p d). inr (r.0, omega (arith, r.1), omega (arith, whole, r.2), same r.0 ∙ r.3))
      dp.reached;
}

deep : (n : ℕ) (p : Sheet) → Deep n p (depth p)
deep n done = record { bound = λ j. omega (arith, none n j); reached = inl refl }
deep n (plus i k c p) = plain_deep n (plus i k c p) p (depth p) refl (plus_levels n i k c p) (deep (suc n) p)
deep n (minus i k c p) = plain_deep n (minus i k c p) p (depth p) refl (minus_levels n i k c p) (deep (suc n) p)
deep n (loop i b p) =
    block_deep n (loop i b p) b p (statement_of Loop 0 i 0 (suc n + size b)) refl refl refl (loop_levels n i b p) (depth b) (depth p) (deep (suc n) b) (deep (suc n + size b) p)
deep n (while i b p) =
    block_deep n (while i b p) b p (statement_of While 0 i 0 (suc n + size b)) refl refl refl (while_levels n i b p) (depth b) (depth p) (deep (suc n) b) (deep (suc n + size b) p)

items-length : (rs : List (Placed Statement)) → length (items rs) ≡ length rs
items-length [] = refl
items-length (r ∷ rs) = ap suc (items-length rs)

-- Levels around a record, and in the sheet.
around : (rs : List (Placed Statement)) (p : Sheet) → items rs ≡ records p → (j : ℕ) → blocks_around rs j ≡ sheet_levels 0 p j
unfolding sheet_levels
around rs p e j = levels-items 0 rs j ∙ ap (λ (ss : List Statement). levels 0 ss j) e

long : (rs : List (Placed Statement)) (p : Sheet) → items rs ≡ records p → length rs ≡ size p
long rs p e = sym (items-length rs) ∙ ap length e ∙ length-records 0 p

pub depth_of : (rs : List (Placed Statement)) (d : ℕ) → Deepest rs d → (p : Sheet) → items rs ≡ records p → d ≡ depth p
depth_of rs d h p e =
    let top : Deep 0 p (depth p) = deep 0 p in
    let le : d ≤ depth p =
    ⊎_elim
    (λ (z : d ≡ 0). omega (arith, z))
    (λ (r : (j : ℕ) × (j < length rs) × (blocks_around rs j ≡ d)). omega (arith, r.2, around rs p e r.0, top.bound r.0))
    h.reached
    in
    let ge : depth p ≤ d =
    ⊎_elim
    (λ (z : depth p ≡ 0). omega (arith, z))
    (λ (r : Reached 0 p (depth p)). omega (arith, r.3, around rs p e r.0, h.bound r.0 (omega (arith, r.2, long rs p e))))
    top.reached
    in
    omega (arith, le, ge)
