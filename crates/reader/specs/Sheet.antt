-- A cue sheet: a list of statements, where LOOP and WHILE hold a sheet of their own, the body.
use Rattle.std.specs.Prelude.{ℕ, suc, ◌+◌, ◌≤◌, max}

pub data Sheet : Type 0 where
  done : Sheet
  plus : ℕ → ℕ → ℕ → Sheet → Sheet  -- xi := xj + c; then the rest
  minus : ℕ → ℕ → ℕ → Sheet → Sheet  -- xi := xj - c; then the rest
  loop : ℕ → Sheet → Sheet → Sheet  -- LOOP xi DO body END; then the rest
  while : ℕ → Sheet → Sheet → Sheet  -- WHILE xi != 0 DO body END; then the rest

-- p, and q behind it
abbrev pub then : Sheet → Sheet → Sheet
then done q = q
then (plus i j c p) q = plus i j c (then p q)
then (minus i j c p) q = minus i j c (then p q)
then (loop i b p) q = loop i b (then p q)
then (while i b p) q = while i b (then p q)

abbrev pub Some : Sheet → Type 0
Some done = ⊥
Some (plus i j c p) = Unit {0}
Some (minus i j c p) = Unit {0}
Some (loop i b p) = Unit {0}
Some (while i b p) = Unit {0}

-- no body is empty
abbrev pub Whole : Sheet → Type 0
Whole done = Unit {0}
Whole (plus i j c p) = Whole p
Whole (minus i j c p) = Whole p
Whole (loop i b p) = Some b × Whole b × Whole p
Whole (while i b p) = Some b × Whole b × Whole p

-- the registers are x0 to x31, and no number is above 999,999
abbrev pub Fit : Sheet → Type 0
Fit done = Unit {0}
Fit (plus i j c p) = (i ≤ 31) × (j ≤ 31) × (c ≤ 999999) × Fit p
Fit (minus i j c p) = (i ≤ 31) × (j ≤ 31) × (c ≤ 999999) × Fit p
Fit (loop i b p) = (i ≤ 31) × Fit b × Fit p
Fit (while i b p) = (i ≤ 31) × Fit b × Fit p

-- the deepest nesting of LOOP and WHILE
abbrev pub depth : Sheet → ℕ
depth done = 0
depth (plus i j c p) = depth p
depth (minus i j c p) = depth p
depth (loop i b p) = max (suc (depth b)) (depth p)
depth (while i b p) = max (suc (depth b)) (depth p)

-- how many statements
abbrev pub size : Sheet → ℕ
size done = 0
size (plus i j c p) = suc (size p)
size (minus i j c p) = suc (size p)
size (loop i b p) = suc (size b + size p)
size (while i b p) = suc (size b + size p)

abbrev pub loops : Sheet → ℕ
loops done = 0
loops (plus i j c p) = loops p
loops (minus i j c p) = loops p
loops (loop i b p) = suc (loops b + loops p)
loops (while i b p) = loops b + loops p

-- a sheet that can be accepted
pub record Within (p : Sheet) : Type 0 where
  pub fit : Fit p
  pub shallow : depth p ≤ 8
  pub few : size p ≤ 256
  pub few_loops : loops p ≤ 32
