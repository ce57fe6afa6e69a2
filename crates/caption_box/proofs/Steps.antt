-- The pieces of a step make the step by the GOTO rules.
use Rattle.std.proofs.Common.{◌≡◌, ℕ, zero, suc, ◌+◌, ◌<◌, ◌≤◌, Bool, true, false, cond, not, ◌&&◌, eqb, ltb, leb, List, [], ◌∷◌, length, get_or, Some, sym, refl, ap, ◌∙◌, subst, arith}
use mathlib.Core.Option.{Option, none, some}
use lib.ListN.{get_elem?}
use Rattle.std.proofs.lemmas.Bool.{ne_eqb}
use Rattle.reader.specs.Steps.{Next, went, waits, ended, unfit, if_low}
use Rattle.reader.specs.WrittenRun.{Counts}
use Rattle.translator.specs.declared.types.Role.{Role}
use Rattle.translator.specs.declared.types.Role.TheVariants.{Written, Entry, Test, Down, Jump}
use Rattle.translator.specs.declared.types.Role.TheVariants as role
use Rattle.translator.specs.declared.types.Operation.{Operation}
use Rattle.translator.specs.declared.types.Operation.TheVariants.{Plus, Minus, If, Goto}
use Rattle.translator.specs.declared.types.Operation.TheVariants as operation
use Rattle.translator.specs.declared.types.Instruction.{Instruction}
use Rattle.translator.specs.JumpCode.{instruction, instruction_at, inside, fits, Box, after_if, obey_fit, obey_at}
use Rattle.translator.specs.Seals.{answer}
use Rattle.caption_box.specs.declared.types.State.{State}
use Rattle.caption_box.specs.declared.types.State.TheVariants.{Ended, Unfit, Over, Time}
use Rattle.caption_box.specs.Tallies.{counted}
use Rattle.caption_box.specs.Calls.{Setting, step, largest_tally}
use Rattle.caption_box.specs.Stepping.{fate, stored, label_after, finds_more}

-- what a step comes to, by the state before it and the box after it
abbrev pub by_state : State → Box → Next Box
by_state Time t = went t
by_state Over t = waits
by_state Ended t = ended
by_state Unfit t = unfit

-- a box by its parts
abbrev pub boxed : ℕ → List ℕ → ℕ → Counts → Box
boxed l ν b n = record { label = l; registers = ν; steps = b; counts = n }

-- the box after an instruction that is done
abbrev pub after : Box → Instruction → Box
after s x =
    boxed (label_after s.registers s.label x.operation) (stored s.registers x.operation) (suc s.steps)
    (counted x.role (finds_more s.registers x.operation) s.counts)

low : (y : Bool) (t : Box) → if_low y t ≡ by_state (cond y Time Over) t
low true t = refl
low false t = refl

operation_bridge : (top n len l : ℕ) (ν : List ℕ) (b : ℕ) (k : Counts) (r : Role) (o : Operation)
    → obey_fit (fits n len o) top (instruction r o) (boxed l ν b k) ≡ by_state (fate top n len ν o) (after (boxed l ν b k) (instruction r o))
operation_bridge top n len l ν b k r (Plus i j c) = go (ltb i n && ltb j n)
  where
    go : (x : Bool) → obey_fit x top (instruction r (Plus i j c)) (boxed l ν b k)
        ≡ by_state (cond x (cond (leb (get_or ν j 0 + c) top) Time Over) Unfit) (after (boxed l ν b k) (instruction r (Plus i j c)))
    go true = low (leb (get_or ν j 0 + c) top) (after (boxed l ν b k) (instruction r (Plus i j c)))
    go false = refl
operation_bridge top n len l ν b k r (Minus i j c) = go (ltb i n && ltb j n)
  where
    go : (x : Bool) → obey_fit x top (instruction r (Minus i j c)) (boxed l ν b k) ≡ by_state (cond x Time Unfit) (after (boxed l ν b k) (instruction r (Minus i j c)))
    go true = refl
    go false = refl
operation_bridge top n len l ν b k r (If i m) = go (ltb i n && inside len m)
  where
    tested : (v : ℕ) → went (after_if v r m (boxed l ν b k)) ≡ went (boxed (cond (eqb v 0) m (suc l)) ν (suc b) (counted r (not (eqb v 0)) k))
    tested zero = refl
    tested (suc v) =
        let e : eqb (suc v) 0 ≡ false = ne_eqb (suc v) 0 (λ x. omega arith) in
        sym (ap (λ (z : Bool). went (boxed (cond z m (suc l)) ν (suc b) (counted r (not z) k))) e)

    go : (x : Bool) → obey_fit x top (instruction r (If i m)) (boxed l ν b k) ≡ by_state (cond x Time Unfit) (after (boxed l ν b k) (instruction r (If i m)))
    go true = tested (get_or ν i 0)
    go false = refl
operation_bridge top n len l ν b k r (Goto m) = go (inside len m)
  where
    go : (x : Bool) → obey_fit x top (instruction r (Goto m)) (boxed l ν b k) ≡ by_state (cond x Time Unfit) (after (boxed l ν b k) (instruction r (Goto m)))
    go true = refl
    go false = refl
operation_bridge top n len l ν b k r operation.Halt = refl

-- a step where there is an instruction, and where there is none
pub step-at : (g : Setting) (s : Box) (x : Instruction) → instruction_at g.code s.label ≡ some x
    → step g s ≡ by_state (fate g.top g.need (length g.code) s.registers x.operation) (after s x)
step-at g s x e =
    ap (λ (o : Option Instruction). obey_at g.top g.need (length g.code) o s) e
    ∙ operation_bridge g.top g.need (length g.code) s.label s.registers s.steps s.counts x.role x.operation

pub step-none : (g : Setting) (s : Box) → instruction_at g.code s.label ≡ none → step g s ≡ unfit
step-none g s e = ap (λ (o : Option Instruction). obey_at g.top g.need (length g.code) o s) e

-- what the question for an instruction tells
pub found_some : (o : Option Instruction) (x : Instruction) → Some x ≡ answer o → o ≡ some x
found_some none x e = let q : ◌≡◌ {A = ℕ} 0 1 = cc in absurd (omega arith)
found_some (some y) x e = let q : x ≡ y = cc in sym (ap some q)

-- an instruction stands inside the code
pub inside_code : (c : List Instruction) (i : ℕ) (x : Instruction) → get_elem? c i ≡ some x → i < length c
inside_code [] i x e = let q : ◌≡◌ {A = ℕ} 0 1 = cc in absurd (omega arith)
inside_code (y ∷ c) zero x e = omega arith
inside_code (y ∷ c) (suc i) x e = let h = inside_code c i x e in omega arith

-- a step adds one to the box steps and at most one to each other tally
pub record Grows (s t : Box) : Type 0 where
  pub steps : t.steps ≡ suc s.steps
  pub written : t.counts.written ≤ suc s.counts.written
  pub entered : t.counts.entered ≤ suc s.counts.entered
  pub rounds : t.counts.rounds ≤ suc s.counts.rounds
  pub whiles : t.counts.whiles ≤ suc s.counts.whiles

grows_by : (l l' : ℕ) (ν ν' : List ℕ) (b : ℕ) (n : Counts) (r : Role) (f : Bool) → Grows (boxed l ν b n) (boxed l' ν' (suc b) (counted r f n))
grows_by l l' ν ν' b n Written true = record { steps = refl; written = omega arith; entered = omega arith; rounds = omega arith; whiles = omega arith }
grows_by l l' ν ν' b n Written false = record { steps = refl; written = omega arith; entered = omega arith; rounds = omega arith; whiles = omega arith }
grows_by l l' ν ν' b n Entry true = record { steps = refl; written = omega arith; entered = omega arith; rounds = omega arith; whiles = omega arith }
grows_by l l' ν ν' b n Entry false = record { steps = refl; written = omega arith; entered = omega arith; rounds = omega arith; whiles = omega arith }
grows_by l l' ν ν' b n Test true = record { steps = refl; written = omega arith; entered = omega arith; rounds = omega arith; whiles = omega arith }
grows_by l l' ν ν' b n Test false = record { steps = refl; written = omega arith; entered = omega arith; rounds = omega arith; whiles = omega arith }
grows_by l l' ν ν' b n Down true = record { steps = refl; written = omega arith; entered = omega arith; rounds = omega arith; whiles = omega arith }
grows_by l l' ν ν' b n Down false = record { steps = refl; written = omega arith; entered = omega arith; rounds = omega arith; whiles = omega arith }
grows_by l l' ν ν' b n Jump true = record { steps = refl; written = omega arith; entered = omega arith; rounds = omega arith; whiles = omega arith }
grows_by l l' ν ν' b n Jump false = record { steps = refl; written = omega arith; entered = omega arith; rounds = omega arith; whiles = omega arith }
grows_by l l' ν ν' b n role.Halt true = record { steps = refl; written = omega arith; entered = omega arith; rounds = omega arith; whiles = omega arith }
grows_by l l' ν ν' b n role.Halt false = record { steps = refl; written = omega arith; entered = omega arith; rounds = omega arith; whiles = omega arith }

-- a step that is done
pub step_grows : (g : Setting) (s t : Box) → step g s ≡ went t → Grows s t
step_grows g s t e = at (instruction_at g.code s.label) refl
  where
    by : (o : State) (u : Box) → Grows s u → by_state o u ≡ went t → Grows s t
    by Time u h q = let p : u ≡ t = cc in subst (Grows s) p h
    by Over u h q = let z : ◌≡◌ {A = ℕ} 0 1 = cc in absurd (omega arith)
    by Ended u h q = let z : ◌≡◌ {A = ℕ} 0 1 = cc in absurd (omega arith)
    by Unfit u h q = let z : ◌≡◌ {A = ℕ} 0 1 = cc in absurd (omega arith)

    at : (o : Option Instruction) → instruction_at g.code s.label ≡ o → Grows s t
    at none i = let q = sym (step-none g s i) ∙ e in let z : ◌≡◌ {A = ℕ} 0 1 = cc in absurd (omega arith)
    at (some x) i =
        by (fate g.top g.need (length g.code) s.registers x.operation) (after s x)
        (grows_by s.label _ s.registers _ s.steps s.counts x.role (finds_more s.registers x.operation))
        (sym (step-at g s x i) ∙ e)

pub grows_largest : (s t : Box) → Grows s t → largest_tally t ≤ suc (largest_tally s)
grows_largest s t h =
    let a = h.steps in let b = h.written in let c = h.entered in let d = h.rounds in let e = h.whiles in omega arith

-- where no tally is above the box steps, none is after it
pub grows_even : (s t : Box) → Grows s t → largest_tally s ≡ s.steps → largest_tally t ≡ t.steps
grows_even s t h e =
    let a = h.steps in let b = h.written in let c = h.entered in let d = h.rounds in let f = h.whiles in omega arith
