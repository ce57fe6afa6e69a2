-- The states that symbols reach: symbols begin a program just where they reach one.
use Rattle.std.proofs.Common.{◌≡◌, ℕ, zero, suc, ◌+◌, ◌≤◌, max, List, [], ◌∷◌, ◌++◌, sym, refl, ◌∙◌, subst, append_assoc, append-nil, arith}
use Rattle.reader.specs.Sheet.{depth}
use Rattle.reader.specs.Symbols.{Symbol, DO, END, semicolon, opening, closing, separating, total, level, Starts, at_first, behind_semicolon, behind_do}
use Rattle.reader.specs.Grammar.{Program, Begins}
use Rattle.reader.specs.Machine.{Expect, statement, becomes, source, sign, constant, loop_register, loop_do, while_register, while_unequal, while_zero, while_do, more, Step, to_target, to_loop, to_while, to_assign, to_source, to_plus, to_minus, to_constant, to_loop_register, to_loop_do, to_while_register, to_unequal, to_zero, to_while_do, to_next, to_end, Begun, begun}
use Rattle.reader.proofs.Runs.{Run, at_last, onward, runs, spelled}

-- the symbols lead from the start to a state
pub data Reach : List Symbol → Expect → ℕ → Type 0 where
  from_start : Reach [] statement 0
  one_more : {e e' : Expect} {d d' : ℕ} {s : Symbol} (xs : List Symbol) → Reach xs e d → Step e s d e' d' → Reach (xs ++ (s ∷ [])) e' d'

-- the machine has one step at most
pub same_state : (P : Expect → ℕ → Type 0) {e e₁ e₂ : Expect} {d d₁ d₂ : ℕ} {s : Symbol} → Step e s d e₁ d₁ → Step e s d e₂ d₂ → P e₂ d₂ → P e₁ d₁
same_state P to_target to_target h = h
same_state P to_loop to_loop h = h
same_state P to_while to_while h = h
same_state P to_assign to_assign h = h
same_state P to_source to_source h = h
same_state P to_plus to_plus h = h
same_state P to_minus to_minus h = h
same_state P to_constant to_constant h = h
same_state P to_loop_register to_loop_register h = h
same_state P to_loop_do to_loop_do h = h
same_state P to_while_register to_while_register h = h
same_state P to_unequal to_unequal h = h
same_state P to_zero to_zero h = h
same_state P to_while_do to_while_do h = h
same_state P to_next to_next h = h
same_state P to_end to_end h = h

-- a run is the way that it reached, and what is left of it
pub follow : (top : ℕ) {xs : List Symbol} {e : Expect} {d : ℕ} (ys : List Symbol) → Reach xs e d → Run top statement 0 (xs ++ ys) → Run top e d ys
follow top ys from_start r = r
follow top ys (one_more {s = s} xs w t) r = behind t (follow top (s ∷ ys) w (subst (Run top statement 0) (append_assoc xs (s ∷ []) ys) r))
  where
    behind : {e e' : Expect} {d d' : ℕ} {s : Symbol} → Step e s d e' d' → Run top e d (s ∷ ys) → Run top e' d' ys
    behind t (onward t' h r) = same_state (λ e d. Run top e d ys) t t' r

-- the most levels that were open on the way
high : {xs : List Symbol} {e : Expect} {d : ℕ} → Reach xs e d → ℕ
high from_start = 0
high (one_more {d' = d'} xs w t) = max d' (high w)

-- and back
unfollow : (top : ℕ) {xs : List Symbol} {e : Expect} {d : ℕ} (ys : List Symbol) (w : Reach xs e d) → high w ≤ top → Run top e d ys → Run top statement 0 (xs ++ ys)
unfolding high
unfollow top ys from_start h r = r
unfollow top ys (one_more {s = s} xs w t) h r = subst (Run top statement 0) (sym (append_assoc xs (s ∷ []) ys)) (unfollow top (s ∷ ys) w (omega arith) (onward t (omega arith) r))

-- every state can be completed
closed : (top d : ℕ) → d ≤ top → (ys : List Symbol) × Run top more d ys
closed top zero h = ([], at_last)
closed top (suc d) h = let c = closed top d (omega arith) in (END ∷ c.0, onward to_end (omega arith) c.1)

put : (top : ℕ) {e e' : Expect} {d d' : ℕ} {s : Symbol} → Step e s d e' d' → d' ≤ top → (ys : List Symbol) × Run top e' d' ys → (ys : List Symbol) × Run top e d ys
put top {s = s} t h c = (s ∷ c.0, onward t h c.1)

module _ (top d : ℕ) (h : d ≤ top) where
  at_sign : (ys : List Symbol) × Run top sign d ys
  at_sign = put top to_plus h (put top (to_constant {c = 0}) h (closed top d h))

  at_becomes : (ys : List Symbol) × Run top becomes d ys
  at_becomes = put top to_assign h (put top (to_source {j = 0}) h at_sign)

  at_statement : (ys : List Symbol) × Run top statement d ys
  at_statement = put top (to_target {i = 0}) h at_becomes

  at_zero : (ys : List Symbol) × Run top while_zero d ys
  at_zero = put top to_zero h (put top to_while_do h at_statement)

pub completed : (top : ℕ) (e : Expect) (d : ℕ) → d ≤ top → (ys : List Symbol) × Run top e d ys
completed top statement d h = at_statement top d h
completed top becomes d h = at_becomes top d h
completed top source d h = put top (to_source {j = 0}) h (at_sign top d h)
completed top sign d h = at_sign top d h
completed top constant d h = put top (to_constant {c = 0}) h (closed top d h)
completed top loop_register d h = put top (to_loop_register {i = 0}) h (put top to_loop_do h (at_statement top d h))
completed top loop_do d h = put top to_loop_do h (at_statement top d h)
completed top while_register d h = put top (to_while_register {i = 0}) h (put top to_unequal h (at_zero top d h))
completed top while_unequal d h = put top to_unequal h (at_zero top d h)
completed top while_zero d h = at_zero top d h
completed top while_do d h = put top to_while_do h (at_statement top d h)
completed top more d h = closed top d h

-- so what reaches a state begins a program
pub begins : {xs : List Symbol} {e : Expect} {d : ℕ} → Reach xs e d → Begins xs
begins {xs} {e} {d} w =
    let top = max d (high w) in
    let end = completed top e d (omega arith) in
    let all = spelled top (unfollow top end.0 w (omega arith) end.1) in
    (end.0, (all.0, all.1))

-- and what reaches the end is one
pub reached : {xs : List Symbol} → Reach xs more 0 → Program xs
reached {xs} w =
    let all = spelled (high w) (unfollow (high w) [] w (omega arith) at_last) in
    subst Program (append-nil xs) (all.0, all.1)

-- a program that has come to a state runs on from it
pub program_runs : {xs : List Symbol} {e : Expect} {d : ℕ} (ys : List Symbol) → Reach xs e d → Program (xs ++ ys) → (top : ℕ) × Run top e d ys
program_runs {xs} ys w g =
    let r = runs (depth g.0) g.1 0 [] (omega arith) at_last in
    (depth g.0, follow (depth g.0) ys w (subst (Run (depth g.0) statement 0) (append-nil (xs ++ ys)) r))

-- one symbol more that begins a program is a step
pub begins_step : {xs : List Symbol} {e : Expect} {d : ℕ} (s : Symbol) → Reach xs e d → Begins (xs ++ (s ∷ [])) → (e' : Expect) × (d' : ℕ) × Step e s d e' d'
begins_step {xs} s w b =
    first (program_runs (s ∷ b.0) w (subst Program (append_assoc xs (s ∷ []) b.0) b.1)).1
  where
    first : {top : ℕ} {e : Expect} {d : ℕ} {ys : List Symbol} → Run top e d (s ∷ ys) → (e' : Expect) × (d' : ℕ) × Step e s d e' d'
    first (onward {e' = e'} {d' = d'} t h r) = (e', d', t)

-- the end of a program is the state where a statement is over and no level is open
pub data Over : Expect → ℕ → Type 0 where
  it_is_over : Over more 0

pub program_over : {xs : List Symbol} {e : Expect} {d : ℕ} → Reach xs e d → Program xs → Over e d
program_over {xs} w g = last (program_runs [] w (subst Program (sym (append-nil xs)) g)).1
  where
    last : {top : ℕ} {e : Expect} {d : ℕ} → Run top e d [] → Over e d
    last at_last = it_is_over

-- the levels open
pub total_append : (f : Symbol → ℕ) (xs ys : List Symbol) → total f (xs ++ ys) ≡ total f xs + total f ys
total_append f [] ys = omega arith
total_append f (x ∷ xs) ys = omega (arith, total_append f xs ys)

step-level : {e e' : Expect} {d d' : ℕ} {s : Symbol} → Step e s d e' d' → d' + closing s ≡ d + opening s
step-level to_target = omega arith
step-level to_loop = omega arith
step-level to_while = omega arith
step-level to_assign = omega arith
step-level to_source = omega arith
step-level to_plus = omega arith
step-level to_minus = omega arith
step-level to_constant = omega arith
step-level to_loop_register = omega arith
step-level to_loop_do = omega arith
step-level to_while_register = omega arith
step-level to_unequal = omega arith
step-level to_zero = omega arith
step-level to_while_do = omega arith
step-level to_next = omega arith
step-level to_end = omega arith

reach_levels : {xs : List Symbol} {e : Expect} {d : ℕ} → Reach xs e d → d + total closing xs ≡ total opening xs
reach_levels from_start = refl
reach_levels (one_more {s = s} xs w t) = omega (arith, reach_levels w, step-level t, total_append closing xs (s ∷ []), total_append opening xs (s ∷ []))

pub reach_level : {xs : List Symbol} {e : Expect} {d : ℕ} → Reach xs e d → d ≡ level xs
reach_level w = omega (arith, reach_levels w)

-- where a statement begins
unfoldable pub starting : ℕ → List Symbol → ℕ
starting b [] = b
starting b (s ∷ xs) = starting (separating s) xs

starting_last : (b : ℕ) (xs : List Symbol) (s : Symbol) → starting b (xs ++ (s ∷ [])) ≡ separating s
unfolding starting
starting_last b [] s = refl
starting_last b (x ∷ xs) s = starting_last (separating x) xs s

starts_starting : {xs : List Symbol} → Starts xs → starting 1 xs ≡ 1
unfolding starting
starts_starting at_first = refl
starts_starting (behind_semicolon xs) = starting_last 1 xs semicolon
starts_starting (behind_do xs) = starting_last 1 xs DO

separated : {e e' : Expect} {d d' : ℕ} {s : Symbol} → Step e s d e' d' → separating s ≡ 1 → Begun e'
separated to_target h = absurd (omega arith)
separated to_loop h = absurd (omega arith)
separated to_while h = absurd (omega arith)
separated to_assign h = absurd (omega arith)
separated to_source h = absurd (omega arith)
separated to_plus h = absurd (omega arith)
separated to_minus h = absurd (omega arith)
separated to_constant h = absurd (omega arith)
separated to_loop_register h = absurd (omega arith)
separated to_loop_do h = begun
separated to_while_register h = absurd (omega arith)
separated to_unequal h = absurd (omega arith)
separated to_zero h = absurd (omega arith)
separated to_while_do h = begun
separated to_next h = begun
separated to_end h = absurd (omega arith)

pub starts_begun : {xs : List Symbol} {e : Expect} {d : ℕ} → Reach xs e d → Starts xs → Begun e
starts_begun w s = go w (starts_starting s)
  where
    go : {xs : List Symbol} {e : Expect} {d : ℕ} → Reach xs e d → starting 1 xs ≡ 1 → Begun e
    go from_start h = begun
    go (one_more {s = s} xs w t) h = separated t (sym (starting_last 1 xs s) ∙ h)

begun_last : {e e' : Expect} {d d' : ℕ} {s : Symbol} (xs : List Symbol) → Begun e' → Step e s d e' d' → Starts (xs ++ (s ∷ []))
begun_last xs begun to_loop_do = behind_do xs
begun_last xs begun to_while_do = behind_do xs
begun_last xs begun to_next = behind_semicolon xs

pub begun_starts : {xs : List Symbol} {e : Expect} {d : ℕ} → Reach xs e d → Begun e → Starts xs
begun_starts from_start b = at_first
begun_starts (one_more xs w t) b = begun_last xs b t
