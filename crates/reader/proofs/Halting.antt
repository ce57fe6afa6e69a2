-- Reading on, symbol by symbol, and where the machine refuses.
use Rattle.std.proofs.Common.{◌≡◌, ℕ, ◌≤◌, List, [], ◌∷◌, length, refl, ◌∙◌, subst, arith}
use Rattle.reader.specs.declared.types.Placed.{Placed}
use Rattle.reader.specs.declared.types.Kind.{Kind}
use Rattle.reader.specs.declared.types.Refusal.{Refusal}
use Rattle.reader.specs.Symbols.{Symbol, DO, number, register, assign, unequal, plus_sign, minus_sign, PlacedSymbol, placed, Opens, separating, looping}
use Rattle.reader.specs.Machine.{Expect, becomes, source, sign, constant, loop_register, loop_do, while_register, while_unequal, while_zero, while_do, Step, to_assign, to_source, to_plus, to_minus, to_constant, to_loop_register, to_loop_do, to_while_register, to_unequal, to_zero, to_while_do, Begun, refused, finish, judge}
use Rattle.reader.specs.Refusals.{refusal_number}
use Rattle.reader.specs.Lexing.{Fine, Between}
use Rattle.reader.specs.Expecting.{Misfit, has_flaw, is_other, is_none, Refuses, IsRegister, is_register, IsNumber, is_number, Sign, sign_plus, sign_minus, IsSign, Passes, Halts}
use Rattle.reader.proofs.Driving.{judge_flaw, judge_stuck}
use Rattle.reader.proofs.Parts.{judge_plain}
use Rattle.reader.proofs.Counts.{fine_number, fine_register}

-- what holds of a text holds of the same text
pub moved : (F : List ℕ → Type 0) {t u : List ℕ} → u ≡ t → F u → F t
moved F e h = subst F e h

-- where x is expected and the first symbol is none that x allows, the machine refuses
pub refuses_halts : (P : Symbol → Type 0) (text : List ℕ) (from : ℕ) (x : Expect) (e : Placed Refusal) → ((s : Symbol) (d d' : ℕ) (x' : Expect) → Step x s d x' d' → P s) → ((end d : ℕ) → finish end x d ≡ refused 5 end) → Refuses P text from e → Halts text from x e
unfolding judge
refuses_halts P text from x e f g h = (h.0, h.1, λ d n m. go d n m h.2)
  where
    go : {ys : List PlacedSymbol} {e : Placed Refusal} (d n m : ℕ) → Misfit P (length text) ys e → judge (length text) x d n m ys ≡ refused (refusal_number e.item) e.place
    go d n m (has_flaw {y} {ys} {f = r} k) = judge_flaw (length text) x d n m y ys (refusal_number r) k
    go d n m (is_other {y} {ys} nice k) = judge_stuck (length text) x d n m y ys nice (λ x' d' t. k (f y.item d d' x' t))
    go d n m is_none = g (length text) d

module _ (text : List ℕ) (from : ℕ) (e : Placed Refusal) where
  pub no_assign : Refuses (λ s. s ≡ assign) text from e → Halts text from becomes e
  no_assign = refuses_halts (λ s. s ≡ assign) text from becomes e (λ s d d' x' t. go t) (λ end d. refl)
    where
      go : {s : Symbol} {d d' : ℕ} {x' : Expect} → Step becomes s d x' d' → s ≡ assign
      go to_assign = refl

  pub no_source : Refuses IsRegister text from e → Halts text from source e
  no_source = refuses_halts IsRegister text from source e (λ s d d' x' t. go t) (λ end d. refl)
    where
      go : {s : Symbol} {d d' : ℕ} {x' : Expect} → Step source s d x' d' → IsRegister s
      go to_source = is_register

  pub no_sign : Refuses IsSign text from e → Halts text from sign e
  no_sign = refuses_halts IsSign text from sign e (λ s d d' x' t. go t) (λ end d. refl)
    where
      go : {s : Symbol} {d d' : ℕ} {x' : Expect} → Step sign s d x' d' → IsSign s
      go to_plus = (_, sign_plus)
      go to_minus = (_, sign_minus)

  pub no_constant : Refuses IsNumber text from e → Halts text from constant e
  no_constant = refuses_halts IsNumber text from constant e (λ s d d' x' t. go t) (λ end d. refl)
    where
      go : {s : Symbol} {d d' : ℕ} {x' : Expect} → Step constant s d x' d' → IsNumber s
      go to_constant = is_number

  pub no_loop_register : Refuses IsRegister text from e → Halts text from loop_register e
  no_loop_register = refuses_halts IsRegister text from loop_register e (λ s d d' x' t. go t) (λ end d. refl)
    where
      go : {s : Symbol} {d d' : ℕ} {x' : Expect} → Step loop_register s d x' d' → IsRegister s
      go to_loop_register = is_register

  pub no_loop_do : Refuses (λ s. s ≡ DO) text from e → Halts text from loop_do e
  no_loop_do = refuses_halts (λ s. s ≡ DO) text from loop_do e (λ s d d' x' t. go t) (λ end d. refl)
    where
      go : {s : Symbol} {d d' : ℕ} {x' : Expect} → Step loop_do s d x' d' → s ≡ DO
      go to_loop_do = refl

  pub no_while_register : Refuses IsRegister text from e → Halts text from while_register e
  no_while_register = refuses_halts IsRegister text from while_register e (λ s d d' x' t. go t) (λ end d. refl)
    where
      go : {s : Symbol} {d d' : ℕ} {x' : Expect} → Step while_register s d x' d' → IsRegister s
      go to_while_register = is_register

  pub no_unequal : Refuses (λ s. s ≡ unequal) text from e → Halts text from while_unequal e
  no_unequal = refuses_halts (λ s. s ≡ unequal) text from while_unequal e (λ s d d' x' t. go t) (λ end d. refl)
    where
      go : {s : Symbol} {d d' : ℕ} {x' : Expect} → Step while_unequal s d x' d' → s ≡ unequal
      go to_unequal = refl

  pub no_zero : Refuses (λ s. s ≡ number 0) text from e → Halts text from while_zero e
  no_zero = refuses_halts (λ s. s ≡ number 0) text from while_zero e (λ s d d' x' t. go t) (λ end d. refl)
    where
      go : {s : Symbol} {d d' : ℕ} {x' : Expect} → Step while_zero s d x' d' → s ≡ number 0
      go to_zero = refl

  pub no_while_do : Refuses (λ s. s ≡ DO) text from e → Halts text from while_do e
  no_while_do = refuses_halts (λ s. s ≡ DO) text from while_do e (λ s d d' x' t. go t) (λ end d. refl)
    where
      go : {s : Symbol} {d d' : ℕ} {x' : Expect} → Step while_do s d x' d' → s ≡ DO
      go to_while_do = refl

-- the symbol s, at any place, leads from x to x'
unfoldable pub Leads : Expect → Symbol → Expect → Type 0
Leads x s x' = (end d n m p : ℕ) (zs : List PlacedSymbol) → judge end x d n m (placed p s ∷ zs) ≡ judge end x' d n m zs

pub leads : {x x' : Expect} (s : Symbol) → ((d : ℕ) → Step x s d x' d) → Fine s → (Opens s → ⊥) → (Begun x → ⊥) → separating s ≡ 0 → looping s ≡ 0 → Leads x s x'
unfolding Leads
leads s t nice o b a l end d n m p zs = judge_plain end n m (placed p s) zs (t d) nice o b n (omega arith) (omega arith)

-- what halts behind a symbol halts before it
pub halts_behind : (x x' : Expect) (text : List ℕ) (from mid p : ℕ) (s : Symbol) (e : Placed Refusal) → Between text from mid (placed p s ∷ []) → Leads x s x' → Halts text mid x' e → Halts text from x e
unfolding Leads
halts_behind x x' text from mid p s e b l h = (placed p s ∷ h.0, b h.0 h.1, λ d n m. l (length text) d n m p h.0 ∙ h.2 d n m)

pub leads_assign : Leads becomes assign source
leads_assign = leads assign (λ d. to_assign) (λ n f. elim f [ ]) (λ o. elim o [ ]) (λ b. elim b [ ]) refl refl

pub leads_source : (j : ℕ) → j ≤ 31 → Leads source (register j) sign
leads_source j h = leads (register j) (λ d. to_source) (fine_register j h) (λ o. elim o [ ]) (λ b. elim b [ ]) refl refl

pub leads_sign : {k : Kind} {s : Symbol} → Sign k s → Leads sign s constant
leads_sign sign_plus = leads plus_sign (λ d. to_plus) (λ n f. elim f [ ]) (λ o. elim o [ ]) (λ b. elim b [ ]) refl refl
leads_sign sign_minus = leads minus_sign (λ d. to_minus) (λ n f. elim f [ ]) (λ o. elim o [ ]) (λ b. elim b [ ]) refl refl

pub leads_loop_register : (i : ℕ) → i ≤ 31 → Leads loop_register (register i) loop_do
leads_loop_register i h = leads (register i) (λ d. to_loop_register) (fine_register i h) (λ o. elim o [ ]) (λ b. elim b [ ]) refl refl

pub leads_while_register : (i : ℕ) → i ≤ 31 → Leads while_register (register i) while_unequal
leads_while_register i h = leads (register i) (λ d. to_while_register) (fine_register i h) (λ o. elim o [ ]) (λ b. elim b [ ]) refl refl

pub leads_unequal : Leads while_unequal unequal while_zero
leads_unequal = leads unequal (λ d. to_unequal) (λ n f. elim f [ ]) (λ o. elim o [ ]) (λ b. elim b [ ]) refl refl

pub leads_zero : Leads while_zero (number 0) while_do
leads_zero = leads (number 0) (λ d. to_zero) (fine_number 0 (omega arith)) (λ o. elim o [ ]) (λ b. elim b [ ]) refl refl

module _ (text : List ℕ) (from mid : ℕ) (e : Placed Refusal) where
  behind : (x x' : Expect) (s : Symbol) → Leads x s x' → Passes text from mid s → Halts text mid x' e → Halts text from x e
  behind x x' s l p h = halts_behind x x' text from mid p.0 s e p.1 l h

  pub behind_assign : Passes text from mid assign → Halts text mid source e → Halts text from becomes e
  behind_assign = behind becomes source assign leads_assign

  pub behind_source : (j : ℕ) → Passes text from mid (register j) × (j ≤ 31) → Halts text mid sign e → Halts text from source e
  behind_source j p = behind source sign (register j) (leads_source j p.1) p.0

  pub behind_sign : (k : Kind) → (s : Symbol) × Sign k s × Passes text from mid s → Halts text mid constant e → Halts text from sign e
  behind_sign k p = behind sign constant p.0 (leads_sign p.1) p.2

  pub behind_loop_register : (i : ℕ) → Passes text from mid (register i) × (i ≤ 31) → Halts text mid loop_do e → Halts text from loop_register e
  behind_loop_register i p = behind loop_register loop_do (register i) (leads_loop_register i p.1) p.0

  pub behind_while_register : (i : ℕ) → Passes text from mid (register i) × (i ≤ 31) → Halts text mid while_unequal e → Halts text from while_register e
  behind_while_register i p = behind while_register while_unequal (register i) (leads_while_register i p.1) p.0

  pub behind_unequal : Passes text from mid unequal → Halts text mid while_zero e → Halts text from while_unequal e
  behind_unequal = behind while_unequal while_zero unequal leads_unequal

  pub behind-zero : Passes text from mid (number 0) → Halts text mid while_do e → Halts text from while_zero e
  behind-zero = behind while_zero while_do (number 0) leads_zero

-- the register of a head was passed, and the next symbol is another than the word w
pub head_refused : (x x' : Expect) (w : Symbol) (text t : List ℕ) (from mid i : ℕ) (e : Placed Refusal) → (Passes text from mid (register i) × (i ≤ 31) → Halts text mid x' e → Halts text from x e) → (Refuses (λ s. s ≡ w) text mid e → Halts text mid x' e)
    → Passes text from mid (register i) × (i ≤ 31) → t ≡ text → Refuses (λ s. s ≡ w) t mid e → Halts text from x e
head_refused x x' w text t from mid i e f g a same r = f a (g (moved (λ t. Refuses (λ s. s ≡ w) t mid e) same r))
