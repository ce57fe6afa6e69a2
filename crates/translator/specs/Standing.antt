-- Where a box stands in its sheet, and the written run that it stands for there. The code is described by what it says at its labels.
use Rattle.std.specs.Prelude.{◌≡◌, ℕ, suc, ◌+◌, ◌*◌, ◌<◌, ◌≤◌, List, [], ◌∷◌, length, take, ◌≢◌, slice_index}
use Rattle.std.proofs.Math.Option.{some}
use Rattle.reader.specs.Sheet.{Sheet, done, plus, minus, loop, while, then, Some, depth}
use Rattle.reader.specs.WrittenRun.{Counts, WrittenRun, running, times}
use Rattle.translator.specs.JumpCode.{instruction, halt, instruction_at, Box}
use Rattle.translator.specs.Counters.{sheet_width}
use Rattle.translator.specs.Translation.{compiled}
use Rattle.translator.specs.declared.types.Role.TheVariants.{Written, Entry, Test, Down, Jump}
use Rattle.translator.specs.declared.types.Operation.TheVariants.{Plus, Minus, If, Goto}
use Rattle.translator.specs.declared.types.Instruction.{Instruction}

-- c is none of the list
abbrev pub Away : ℕ → List ℕ → Type 0
Away c [] = Unit {0}
Away c (x ∷ xs) = (c ≢ x) × Away c xs

-- all that is used of a counter: a LOOP's is one of x32 to x(N - 1), and none of those of the LOOPs around it
pub record Counter (n : ℕ) (out : List ℕ) (c : ℕ) : Type 0 where
  pub high : 32 ≤ c
  pub below : c < n
  pub away : Away c out

-- a WHILE whose test is at l and whose jump back is at q, and what is laid in it and behind it
pub record WhileLaid (code : List Instruction) (l q i : ℕ) (b : Sheet) (Body After : Type 0) : Type 0 where
  pub reads : i < 32
  pub full : Some b
  pub test : instruction_at code l ≡ some (instruction Written (If i (suc q)))
  pub body : Body
  pub back : instruction_at code q ≡ some (instruction Jump (Goto l))
  pub after : After

-- a LOOP whose counter test is at t and whose jump back is at q
pub record LoopLaid (code : List Instruction) (n : ℕ) (out : List ℕ) (t q c : ℕ) (b : Sheet) (Body After : Type 0) : Type 0 where
  pub counter : Counter n out c
  pub full : Some b
  pub test : instruction_at code t ≡ some (instruction Test (If c (suc q)))
  pub down : instruction_at code (suc t) ≡ some (instruction Down (Minus c c 1))
  pub body : Body
  pub back : instruction_at code q ≡ some (instruction Jump (Goto t))
  pub after : After

-- the code of the sheet p stands from l up to m; out: the counters of the LOOPs around it
abbrev pub Lays : List Instruction → ℕ → List ℕ → Sheet → ℕ → ℕ → Type 0
Lays code n out done l m = l ≡ m
Lays code n out (plus i j c p) l m = (i < 32) × (j < 32) × (instruction_at code l ≡ some (instruction Written (Plus i j c))) × Lays code n out p (suc l) m
Lays code n out (minus i j c p) l m = (i < 32) × (j < 32) × (instruction_at code l ≡ some (instruction Written (Minus i j c))) × Lays code n out p (suc l) m
Lays code n out (loop i b p) l m =
    (c : ℕ) × (q : ℕ) × (i < 32) × (instruction_at code l ≡ some (instruction Entry (Plus c i 0)))
    × LoopLaid code n out (suc l) q c b (Lays code n (c ∷ out) b (suc (suc (suc l))) q) (Lays code n out p (suc q) m)
Lays code n out (while i b p) l m = (q : ℕ) × WhileLaid code l q i b (Lays code n out b (suc l) q) (Lays code n out p (suc q) m)

-- the LOOPs and WHILEs around a place, the innermost first, each with its body and what comes behind it
pub data Around : Type 0 where
  outermost : Around
  in_while : ℕ → Sheet → Sheet → Around → Around  -- the register
  in_loop : ℕ → Sheet → Sheet → Around → Around  -- the counter

abbrev pub counters : Around → List ℕ
counters outermost = []
counters (in_while i b p k) = counters k
counters (in_loop c b p k) = c ∷ counters k

abbrev pub levels : Around → ℕ
levels outermost = 0
levels (in_while i b p k) = suc (levels k)
levels (in_loop c b p k) = suc (levels k)

-- what rests of the written sheet behind the innermost body
abbrev pub tail : List ℕ → Around → Sheet
tail ν outermost = done
tail ν (in_while i b p k) = while i b (then p (tail ν k))
tail ν (in_loop c b p k) = times (slice_index ν c) b (then p (tail ν k))

-- the LOOP rounds that the written run has counted and the box has yet to do
abbrev pub pending : List ℕ → Around → ℕ
pending ν outermost = 0
pending ν (in_while i b p k) = pending ν k
pending ν (in_loop c b p k) = slice_index ν c + pending ν k

-- the box steps that the step formula has and the box has yet to do
abbrev pub owed : Around → ℕ
owed outermost = 0
owed (in_while i b p k) = suc (owed k)
owed (in_loop c b p k) = suc (suc (owed k))

-- a body b, with p behind it, at a level: the nesting stays within d, and the rest is laid up to HALT
pub record Behind (d level : ℕ) (b p : Sheet) (Rest : Type 0) : Type 0 where
  pub body_deep : suc (depth b) + level ≤ d
  pub after_deep : depth p + level ≤ d
  pub rest : Rest

abbrev pub Ends : List Instruction → ℕ → ℕ → ℕ → Around → Type 0
Ends code n d q outermost = instruction_at code q ≡ some halt
Ends code n d q (in_while i b p k) =
    (l : ℕ) × (m : ℕ)
    × WhileLaid code l q i b (Lays code n (counters k) b (suc l) q) (Lays code n (counters k) p (suc q) m)
    × Behind d (levels k) b p (Ends code n d m k)
Ends code n d q (in_loop c b p k) =
    (t : ℕ) × (m : ℕ)
    × LoopLaid code n (counters k) t q c b (Lays code n (c ∷ counters k) b (suc (suc t)) q) (Lays code n (counters k) p (suc q) m)
    × Behind d (levels k) b p (Ends code n d m k)

-- before the sheet p; before a counter test; between a counter test and the counter's going down
pub data Spot : Type 0 where
  before : Sheet → Around → Spot
  testing : ℕ → Sheet → Sheet → Around → Spot
  lowering : ℕ → Sheet → Sheet → Around → Spot

abbrev pub LoopAt : List Instruction → ℕ → ℕ → ℕ → ℕ → Sheet → Sheet → Around → Type 0
LoopAt code n d t c b p k =
    (q : ℕ) × (m : ℕ)
    × LoopLaid code n (counters k) t q c b (Lays code n (c ∷ counters k) b (suc (suc t)) q) (Lays code n (counters k) p (suc q) m)
    × Behind d (levels k) b p (Ends code n d m k)

abbrev pub Place : List Instruction → ℕ → ℕ → ℕ → Spot → Type 0
Place code n d l (before p k) = (m : ℕ) × Lays code n (counters k) p l m × Ends code n d m k × (depth p + levels k ≤ d)
Place code n d l (testing c b p k) = LoopAt code n d l c b p k
Place code n d l (lowering c b p k) = (t : ℕ) × (l ≡ suc t) × LoopAt code n d t c b p k

-- the counter has a round left
abbrev pub Live : List ℕ → Spot → Type 0
Live ν (before p k) = Unit {0}
Live ν (testing c b p k) = Unit {0}
Live ν (lowering c b p k) = (v : ℕ) × (slice_index ν c ≡ suc v)

abbrev pub rest_of : List ℕ → Spot → Sheet
rest_of ν (before p k) = then p (tail ν k)
rest_of ν (testing c b p k) = tail ν (in_loop c b p k)
rest_of ν (lowering c b p k) = tail ν (in_loop c b p k)

abbrev pub pending_of : List ℕ → Spot → ℕ
pending_of ν (before p k) = pending ν k
pending_of ν (testing c b p k) = pending ν (in_loop c b p k)
pending_of ν (lowering c b p k) = pending ν (in_loop c b p k)

abbrev pub owed_of : Spot → ℕ
owed_of (before p k) = owed k
owed_of (testing c b p k) = suc (owed k)
owed_of (lowering c b p k) = owed k

-- 0 before a written statement, else 1: LOOP rounds, WHILE rounds and this are at most the written steps
abbrev pub lack : Sheet → ℕ
lack done = 1
lack (plus i j c p) = 0
lack (minus i j c p) = 0
lack (loop i b p) = 0
lack (while i b p) = 0

abbrev pub lack_of : Spot → ℕ
lack_of (before p k) = lack p
lack_of (testing c b p k) = 1
lack_of (lowering c b p k) = 1

-- at most this many box steps that are no written steps lie ahead
abbrev pub quiet_at : Sheet → Around → ℕ
quiet_at done k = suc (2 * levels k)
quiet_at (plus i j c p) k = 0
quiet_at (minus i j c p) k = 0
quiet_at (loop i b p) k = 0
quiet_at (while i b p) k = 0

abbrev pub quiet : Spot → ℕ
quiet (before p k) = quiet_at p k
quiet (testing c b p k) = 2 + 2 * levels k
quiet (lowering c b p k) = 1

-- the written run that a box in a spot stands for
abbrev pub seen_counts : Counts → ℕ → Counts
seen_counts n more = record { written = n.written; entered = n.entered; rounds = n.rounds + more; whiles = n.whiles }

abbrev pub seen : Box → Spot → WrittenRun
seen s m = running (take 32 s.registers) (rest_of s.registers m) (seen_counts s.counts (pending_of s.registers m))

-- a box of the code with n registers, in a spot of a sheet of depth d, with its tallies
pub record StandsAt (code : List Instruction) (n d top : ℕ) (s : Box) (m : Spot) : Type 0 where
  pub place : Place code n d s.label m
  pub live : Live s.registers m
  pub wide : 32 ≤ n
  pub long : n ≤ length s.registers
  pub low : (i : ℕ) → slice_index s.registers i ≤ top
  pub paid : s.steps + owed_of m ≡ s.counts.written + s.counts.entered + 3 * s.counts.rounds + s.counts.whiles
  pub few : s.counts.entered ≤ s.counts.written
  pub bound : s.counts.rounds + s.counts.whiles + lack_of m ≤ s.counts.written

-- a box with the code of the sheet p stands for the written run a
pub record Stands (top : ℕ) (p : Sheet) (s : Box) (a : WrittenRun) : Type 0 where
  pub spot : Spot
  pub at : StandsAt (compiled p) (sheet_width p) (depth p) top s spot
  pub same : a ≡ seen s spot
