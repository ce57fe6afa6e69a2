-- What stands at a place where a certain symbol is expected.
use Rattle.std.proofs.Common.{◌≡◌, ℕ, List, [], ◌∷◌, length, drop, Some, None, Ok, Err, Option, Result, sym, refl, ap, ◌∙◌, subst}
use Rattle.std.specs.Prelude.{MatchOption}
use Rattle.std.specs.Option.{ok_or}
use Rattle.reader.specs.declared.types.Placed.{Placed}
use Rattle.reader.specs.declared.types.Kind.{Kind}
use Rattle.reader.specs.declared.types.Refusal.{Refusal}
use Rattle.reader.specs.declared.types.Refusal.TheVariants.{OutOfOrder}
use Rattle.reader.specs.declared.types.Lexeme.{Lexeme}
use Rattle.reader.specs.declared.types.Lexeme.TheVariants as lexeme
use Rattle.reader.specs.Symbols.{Symbol, LOOP, WHILE, DO, END, number, register, assign, unequal, plus_sign, minus_sign, semicolon, stray, strange, PlacedSymbol, placed}
use Rattle.reader.specs.Text.{Reads}
use Rattle.reader.specs.Lexing.{meant, Fine, LexemeRead}
use Rattle.reader.specs.Expecting.{Misfit, has_flaw, is_other, is_none, Refuses, Passes, Anything, Required, Takes, Picked, picked, not_picked, Expected, RegisterExpected, NumberExpected, SignExpected, IsRegister, is_register, IsNumber, is_number, Sign, sign_plus, sign_minus, IsSign}
use Rattle.reader.proofs.Tokens.{some_reading}
use Rattle.reader.proofs.Counts.{small_number, small_register}

-- a lexeme is told by its symbol
unmeant : Symbol → Lexeme
unmeant LOOP = lexeme.Loop
unmeant WHILE = lexeme.While
unmeant DO = lexeme.Do
unmeant END = lexeme.End
unmeant (number c) = lexeme.Number c
unmeant (register i) = lexeme.Register i
unmeant assign = lexeme.Assign
unmeant unequal = lexeme.Unequal
unmeant plus_sign = lexeme.Plus
unmeant minus_sign = lexeme.Minus
unmeant semicolon = lexeme.Semicolon
unmeant stray = lexeme.Loop
unmeant strange = lexeme.Loop

unmeant_meant : (l : Lexeme) → unmeant (meant l) ≡ l
unfolding unmeant
unmeant_meant lexeme.Loop = refl
unmeant_meant lexeme.While = refl
unmeant_meant lexeme.Do = refl
unmeant_meant lexeme.End = refl
unmeant_meant (lexeme.Number c) = refl
unmeant_meant (lexeme.Register i) = refl
unmeant_meant lexeme.Assign = refl
unmeant_meant lexeme.Unequal = refl
unmeant_meant lexeme.Plus = refl
unmeant_meant lexeme.Minus = refl
unmeant_meant lexeme.Semicolon = refl

pub same_lexeme : (l k : Lexeme) → meant l ≡ meant k → l ≡ k
same_lexeme l k e = sym (unmeant_meant l) ∙ ap unmeant e ∙ unmeant_meant k

module _ (text : List ℕ) (from : ℕ) where
  pub ends_early : (e : Placed Refusal) (end : ℕ) → Reads from (drop from text) [] → e ≡ placed end OutOfOrder → end ≡ length text → Refuses Anything text from e
  ends_early e end r p q = ([], r, subst (Misfit Anything (length text) []) (sym (p ∙ ap (λ n. placed n OutOfOrder) q)) is_none)

  pub begins_flawed : (e : Placed Refusal) (to : ℕ) → LexemeRead text from (Err e) to → Refuses Anything text from e
  begins_flawed e to h = (placed e.place h.0 ∷ h.1, h.2, has_flaw h.3)

  pub refuses_all : (P : Symbol → Type 0) (e : Placed Refusal) → Refuses Anything text from e → Refuses P text from e
  refuses_all P e h = (h.0, h.1, go h.2)
    where
      go : {ys : List PlacedSymbol} {e : Placed Refusal} → Misfit Anything (length text) ys e → Misfit P (length text) ys e
      go (has_flaw f) = has_flaw f
      go (is_other f g) = absurd (g tt)
      go is_none = is_none

  module _ (to : ℕ) (x : Placed Lexeme) (r : Required text from (Ok x) to) where
    pub begins_other : (P : Symbol → Type 0) (e : Placed Refusal) → (P (meant x.item) → ⊥) → e ≡ placed x.place OutOfOrder → Refuses P text from e
    begins_other P e f p =
        let rest = some_reading to (drop to text) in (
          placed x.place (meant x.item) ∷ rest.0,
          r.0 rest.0 rest.1,
          subst (Misfit P (length text) (placed x.place (meant x.item) ∷ rest.0)) (sym p) (is_other r.1 f),
        )

  module _ (to : ℕ) where
    pub required : (found : Option (Placed Lexeme)) → LexemeRead text from (Ok found) to → (e : Placed Refusal) (end : ℕ) → e ≡ placed end OutOfOrder → end ≡ length text → (r : Result (Placed Lexeme) (Placed Refusal)) → r ≡ ok_or found e → Required text from r to
    required None h e end p q r k = subst (λ r. Required text from r to) (sym k) (ends_early e end h p q)
    required (Some x) h e end p q r k = subst (λ r. Required text from r to) (sym k) h

    pub found_picked : {X : Type 0} (takes : Lexeme → Option X → Type 0) (x : Placed Lexeme) → Required text from (Ok x) to → (o : Option X) → takes x.item o → (e : Placed Refusal) → e ≡ placed x.place OutOfOrder → (r : Result X (Placed Refusal)) → r ≡ ok_or o e → Picked takes text from r to
    found_picked takes x h None t e p r k =
        subst (λ r. Picked takes text from r to) (sym k)
        (not_picked (begins_other to x h (Takes takes) e (λ s. s.2 (subst (λ l. takes l None) (same_lexeme x.item s.0 s.1) t)) p))
    found_picked takes x h (Some v) t e p r k = subst (λ r. Picked takes text from r to) (sym k) (picked t (x.place, h.0) h.1)

    -- what refuses more symbols refuses these
    refuses_fewer : (P Q : Symbol → Type 0) (e : Placed Refusal) → ((s : Symbol) → Q s → P s) → Refuses P text from e → Refuses Q text from e
    refuses_fewer P Q e f h = (h.0, h.1, go h.2)
      where
        go : {ys : List PlacedSymbol} {e : Placed Refusal} → Misfit P (length text) ys e → Misfit Q (length text) ys e
        go (has_flaw k) = has_flaw k
        go (is_other k g) = is_other k (λ q. g (f _ q))
        go is_none = is_none

    passed : (l : Lexeme) (s : Symbol) → meant l ≡ s → Passes text from to (meant l) → Fine (meant l) → Passes text from to s × Fine s
    passed l s e p f = (subst (λ s. Passes text from to s) e p, subst Fine e f)

    pub wanted_picked : {X : Type 0} {takes : Lexeme → Option X → Type 0} {r : Result X (Placed Refusal)} (wanted : Lexeme) → Picked takes text from r to → ((l : Lexeme) (o : Option X) → takes l o → MatchOption o (l ≡ wanted → ⊥) (λ u. l ≡ wanted)) → Expected wanted text from r to
    wanted_picked wanted (picked {x} {l} t p h) f = passed l (meant wanted) (ap meant (f l (Some x) t)) p h
    wanted_picked {takes = takes} wanted (not_picked {e} h) f = refuses_fewer (Takes takes) (λ s. s ≡ meant wanted) e (λ s q. (wanted, q, λ t. f wanted None t refl)) h

    pub register_picked : {takes : Lexeme → Option ℕ → Type 0} {r : Result ℕ (Placed Refusal)} → Picked takes text from r to → ((l : Lexeme) (o : Option ℕ) → takes l o → MatchOption o (IsRegister (meant l) → ⊥) (λ i. meant l ≡ register i)) → RegisterExpected text from r to
    register_picked (picked {x = i} {l} t p h) f = let q = passed l (register i) (f l (Some i) t) p h in (q.0, small_register i q.1)
    register_picked {takes} (not_picked {e} h) f = refuses_fewer (Takes takes) IsRegister e (λ s q. go q) h
      where
        go : {s : Symbol} → IsRegister s → Takes takes s
        go (is_register {i}) = (lexeme.Register i, refl, λ t. f (lexeme.Register i) None t is_register)

    pub number_picked : {takes : Lexeme → Option ℕ → Type 0} {r : Result ℕ (Placed Refusal)} → Picked takes text from r to → ((l : Lexeme) (o : Option ℕ) → takes l o → MatchOption o (IsNumber (meant l) → ⊥) (λ c. meant l ≡ number c)) → NumberExpected text from r to
    number_picked (picked {x = c} {l} t p h) f = let q = passed l (number c) (f l (Some c) t) p h in (q.0, small_number c q.1)
    number_picked {takes} (not_picked {e} h) f = refuses_fewer (Takes takes) IsNumber e (λ s q. go q) h
      where
        go : {s : Symbol} → IsNumber s → Takes takes s
        go (is_number {c}) = (lexeme.Number c, refl, λ t. f (lexeme.Number c) None t is_number)

    pub sign_picked : {takes : Lexeme → Option Kind → Type 0} {r : Result Kind (Placed Refusal)} → Picked takes text from r to → ((l : Lexeme) (o : Option Kind) → takes l o → MatchOption o (IsSign (meant l) → ⊥) (λ k. Sign k (meant l))) → SignExpected text from r to
    sign_picked (picked {x = k} {l} t p h) f = (meant l, f l (Some k) t, p)
    sign_picked {takes} (not_picked {e} h) f = refuses_fewer (Takes takes) IsSign e (λ s q. go q.1) h
      where
        go : {k : Kind} {s : Symbol} → Sign k s → Takes takes s
        go sign_plus = (lexeme.Plus, refl, λ t. f lexeme.Plus None t (_, sign_plus))
        go sign_minus = (lexeme.Minus, refl, λ t. f lexeme.Minus None t (_, sign_minus))
