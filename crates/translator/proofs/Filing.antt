-- What is filed in a table of instructions, and questions about a list of them.
use Rattle.std.proofs.Common.{◌≡◌, ℕ, zero, suc, ◌-◌, ◌<◌, ◌≤◌, max, Bool, true, false, T, List, [], ◌∷◌, length, get_or, drop, slice_get, Some, None, Option as Answer, option_copied, MatchOption, HoldsAt, sym, refl, ap, ◌∙◌, subst, arith, length-take}
use mathlib.Core.Option.{Option, some, none}
use lib.ListN.{get_elem?}
use Rattle.std.specs.List.{list_all}
use Rattle.std.proofs.lemmas.List.{get_or-take}
use denote.Ref.{Bor}
use Rattle.filing.specs.declared.table.Table.{Table}
use Rattle.filing.specs.Tables.{memory, count}
use Rattle.translator.specs.declared.types.Operation.TheVariants.{Halt}
use Rattle.translator.specs.declared.types.Instruction.{Instruction}
use Rattle.translator.specs.JumpCode.{instruction, instruction_at, fits, AllFit}
use Rattle.translator.specs.Drafts.{filed}
use Rattle.translator.specs.Seals.{EndsInHalt, Tells, answer}
use Rattle.translator.specs.Width.{width}
use Rattle.translator.proofs.Fits.{and_true, and_left, and_right}
use Rattle.translator.proofs.Width.{width_low}

pub length-filed : (t : Table Instruction) → length (filed t) ≡ count t
length-filed t = let e = length-take (count t) (memory t) in let w = t.within in omega arith

pub get_or-filed : (t : Table Instruction) (i : ℕ) (d : Instruction) → i < length (filed t) → get_or (filed t) i d ≡ get_or (memory t) i d
get_or-filed t i d h = get_or-take (count t) (memory t) i d (omega (arith, length-filed t))

pub elem_get_or : {A : Type 0} (xs : List A) (i : ℕ) (d : A) → i < length xs → get_elem? xs i ≡ some (get_or xs i d)
elem_get_or [] i d h = absurd (omega arith)
elem_get_or (x ∷ xs) zero d h = refl
elem_get_or (x ∷ xs) (suc i) d h = elem_get_or xs i d (omega arith)

pub elem_past : {A : Type 0} (xs : List A) (i : ℕ) → length xs ≤ i → get_elem? xs i ≡ none
elem_past [] i h = refl
elem_past (x ∷ xs) zero h = absurd (omega arith)
elem_past (x ∷ xs) (suc i) h = elem_past xs i (omega arith)

pub elem_below : {A : Type 0} (xs : List A) (i : ℕ) (y : A) → get_elem? xs i ≡ some y → i < length xs
elem_below [] i y e = let z : ◌≡◌ {A = ℕ} 0 1 = cc in absurd (omega arith)
elem_below (x ∷ xs) zero y e = omega arith
elem_below (x ∷ xs) (suc i) y e = let h = elem_below xs i y e in omega arith

pub elem_is : {A : Type 0} (xs : List A) (i : ℕ) (x d : A) → get_elem? xs i ≡ some x → get_or xs i d ≡ x
elem_is xs i x d e = let f = elem_get_or xs i d (elem_below xs i x e) in cc

-- the instruction at an index, as a slice answers it
asked : (c : List Instruction) (i : ℕ) → slice_get c i ≡ answer (instruction_at c (suc i))
asked [] i = refl
asked (x ∷ c) zero = refl
asked (x ∷ c) (suc i) = asked c i

pub asked_at : (c : List Instruction) (i : ℕ) (o : Answer (Bor Instruction)) → MatchOption o (length c ≤ i) (λ x. (i < length c) × HoldsAt (λ y. x.now ≡ y) c i)
    → option_copied o ≡ answer (instruction_at c (suc i))
asked_at c i (Some x) h = sym (ap answer (elem_get_or c i x.now h.0 ∙ ap some (sym (h.1 x.now))))
asked_at c i None h = sym (ap answer (elem_past c i h))

some_answered : (o : Option Instruction) (x : Instruction) → Some x ≡ answer o → o ≡ some x
some_answered none x e = let z : ◌≡◌ {A = ℕ} 0 1 = cc in absurd (omega arith)
some_answered (some y) x e = cc

last_answer : (c : List Instruction) → slice_get c (length c - 1) ≡ answer (instruction_at c (length c))
last_answer [] = refl
last_answer (x ∷ c) = let n : suc (length c) - 1 ≡ length c = omega arith in ap (slice_get (x ∷ c)) n ∙ asked (x ∷ c) (length c)

-- the last instruction is HALT, or is not
ends : (c : List Instruction) (x : Instruction) (b : Bool) → Some x ≡ slice_get c (length c - 1) → Tells b (x.operation ≡ Halt) → Tells b (EndsInHalt c)
ends c x true e h = (x.role, some_answered (instruction_at c (length c)) x (e ∙ last_answer c) ∙ ap (λ o. some (instruction x.role o)) h)
ends c x false e h = λ q.
    let same : some x ≡ some (instruction q.0 Halt) = sym (some_answered (instruction_at c (length c)) x (e ∙ last_answer c)) ∙ q.1 in
    let y : x ≡ instruction q.0 Halt = cc in
    h (ap (λ (z : Instruction). z.operation) y)

none_ends : (c : List Instruction) → None ≡ slice_get c (length c - 1) → EndsInHalt c → ⊥
none_ends c e q =
    let z : None ≡ Some (instruction q.0 Halt) = e ∙ (last_answer c ∙ ap answer q.1) in
    let z : ◌≡◌ {A = ℕ} 0 1 = cc in
    omega arith

pub ends_told : (c : List Instruction) (o : Answer (Bor Instruction)) (b : Bool) (P : Bor Instruction → Type 0) → option_copied o ≡ slice_get c (length c - 1) → MatchOption o (b ≡ false) P
    → ((x : Bor Instruction) → P x → Tells b (x.now.operation ≡ Halt)) → Tells b (EndsInHalt c)
ends_told c (Some x) b P e h t = ends c x.now b e (t x h)
ends_told c None b P e h t = subst (λ (a : Bool). Tells a (EndsInHalt c)) (sym h) (none_ends c e)

-- a test of each instruction
all_pass : (p : Instruction → Bool) (c : List Instruction) → ((i : ℕ) (x : Instruction) → get_elem? c i ≡ some x → T (p x)) → T (list_all p c)
all_pass p [] h = tt
all_pass p (x ∷ c) h = and_true (p x) (list_all p c) (h 0 x refl) (all_pass p c (λ i. h (suc i)))

each_passes : (p : Instruction → Bool) (c : List Instruction) → T (list_all p c) → (i : ℕ) (x : Instruction) → get_elem? c i ≡ some x → T (p x)
each_passes p [] t i x e = let z : ◌≡◌ {A = ℕ} 0 1 = cc in absurd (omega arith)
each_passes p (y ∷ c) t zero x e = let same : y ≡ x = cc in subst (λ (z : Instruction). T (p z)) same (and_left (p y) (list_all p c) t)
each_passes p (y ∷ c) t (suc i) x e = each_passes p c (and_right (p y) (list_all p c) t) i x e

each_fits : (c : List Instruction) → T (list_all (λ x. fits 64 (length c) x.operation) c) → AllFit 64 c
each_fits c t zero x e = let z : ◌≡◌ {A = ℕ} 0 1 = cc in absurd (omega arith)
each_fits c t (suc i) x e = each_passes (λ x. fits 64 (length c) x.operation) c t i x e

pub fit_told : (c : List Instruction) (b : Bool) → b ≡ list_all (λ x. fits 64 (length c) x.operation) c → Tells b (AllFit 64 c)
fit_told c true e = each_fits c (subst T e tt)
fit_told c false e = λ h. subst T (sym e) (all_pass (λ x. fits 64 (length c) x.operation) c (λ i. h (suc i)))

-- N, counted up to i
abbrev pub Widened : List Instruction → ℕ → ℕ → Type 0
Widened c i n = (32 ≤ n) × (max n (width (drop i c)) ≡ width c)

pub wide_none : (c : List Instruction) → Widened c 0 32
wide_none c = (omega arith, let h = width_low c in omega arith)
