-- Where the parser refuses, the machine refuses so.
use Rattle.std.proofs.Common.{◌≡◌, ℕ, suc, ◌<◌, ◌≤◌, List, [], ◌∷◌, ◌++◌, length, drop, Some, None, Ok, Err, Option, sym, refl, ap, ◌∙◌, subst, arith}
use Rattle.reader.specs.declared.types.Placed.{Placed}
use Rattle.reader.specs.declared.types.Refusal.{Refusal}
use Rattle.reader.specs.declared.types.Refusal.TheVariants.{OutOfOrder, TooMany}
use Rattle.reader.specs.declared.types.Kind.{Kind}
use Rattle.reader.specs.declared.types.Lexeme.{Lexeme}
use Rattle.reader.specs.declared.types.Lexeme.TheVariants as lexeme
use Rattle.reader.specs.declared.types.Statement.{Statement}
use Rattle.reader.specs.Symbols.{Symbol, LOOP, WHILE, END, register, semicolon, PlacedSymbol, placed, opens_loop, opens_while, is_loop}
use Rattle.reader.specs.Text.{Reads}
use Rattle.reader.specs.Machine.{Expect, statement, becomes, more, Step, to_target, to_loop, to_while, to_next, to_end, begun, refused, judge}
use Rattle.reader.specs.Refusals.{refusal_number}
use Rattle.reader.specs.Lexing.{meant, Fine, Between, LexemeRead}
use Rattle.reader.specs.Expecting.{Refuses, Anything, Required, Closed, Halts}
use Rattle.reader.specs.Parsing.{Parsed, RefusedBehind, Follows, Opening, opening_loop, opening_while, Admitted, too_deep, too_many, too_many_loops, Head}
use Rattle.reader.proofs.Tokens.{some_reading}
use Rattle.reader.proofs.Counts.{fine_register}
use Rattle.reader.proofs.Driving.{judge_flaw, judge_stuck, judge_deep, judge-many, judge-loops}
use Rattle.reader.proofs.Parts.{judge_begins}
use Rattle.reader.proofs.Expecting.{same_lexeme, begins_other}
use Rattle.reader.proofs.Halting.{refuses_halts}
use Rattle.reader.proofs.Parsing.{opened_word, opened, Joined}

-- the symbols that begin a statement
data Starter : Symbol → Type 0 where
  starts_register : {i : ℕ} → Starter (register i)
  starts_loop : Starter LOOP
  starts_while : Starter WHILE

not_starter : (l : Lexeme) → ((i : ℕ) → l ≡ lexeme.Register i → ⊥) → (l ≡ lexeme.Loop → ⊥) → (l ≡ lexeme.While → ⊥) → Starter (meant l) → ⊥
not_starter l f g h k = go k refl
  where
    go : {s : Symbol} → Starter s → meant l ≡ s → ⊥
    go (starts_register {i}) e = f i (same_lexeme l (lexeme.Register i) e)
    go starts_loop e = g (same_lexeme l lexeme.Loop e)
    go starts_while e = h (same_lexeme l lexeme.While e)

step_starts : {s : Symbol} {d d' : ℕ} {x' : Expect} → Step statement s d x' d' → Starter s
step_starts to_target = starts_register
step_starts to_loop = starts_loop
step_starts to_while = starts_while

module _ (text : List ℕ) (from level n m : ℕ) where
  -- no statement begins
  pub none_begins : (e : Placed Refusal) → Refuses Anything text from e → RefusedBehind [] text from level n m e
  none_begins e r = let h = refuses_halts Anything text from statement e (λ s d d' x' t. tt) (λ end d. refl) r in (h.0, h.1, h.2 level n m)

  pub other_begins : (to : ℕ) (x : Placed Lexeme) (e : Placed Refusal) → Required text from (Ok x) to → ((i : ℕ) → x.item ≡ lexeme.Register i → ⊥) → (x.item ≡ lexeme.Loop → ⊥) → (x.item ≡ lexeme.While → ⊥) → e ≡ placed x.place OutOfOrder → RefusedBehind [] text from level n m e
  other_begins to x e r f g h p =
      let k = refuses_halts Starter text from statement e (λ s d d' x' t. step_starts t) (λ end d. refl) (begins_other text from to x r Starter e (not_starter x.item f g h) p) in
      (k.0, k.1, k.2 level n m)

  pub behind-first : (mid : ℕ) (y : PlacedSymbol) (e : Placed Refusal) → Between text from mid (y ∷ []) → RefusedBehind (y ∷ []) text mid level n m e → RefusedBehind [] text from level n m e
  behind-first mid y e b r = (y ∷ r.0, b r.0 r.1, r.2)

  -- an assignment
  module _ (place i : ℕ) (hi : i ≤ 31) where
    pub assignment_many : n ≡ 256 → RefusedBehind (placed place (register i) ∷ []) text from level n m (placed place TooMany)
    assignment_many e =
        let r = some_reading from (drop from text) in
        (r.0, r.1, judge-many (length text) statement level n m (placed place (register i)) r.0 (fine_register i hi) to_target (λ h. elim h.0 [ ]) begun e)

    pub assignment_bad : (e : Placed Refusal) → n < 256 → Halts text from becomes e → RefusedBehind (placed place (register i) ∷ []) text from level n m e
    assignment_bad e hn h =
        (h.0, h.1, judge_begins (length text) n m (placed place (register i)) h.0 to_target (fine_register i hi) (λ o. elim o [ ]) hn m (λ l. elim l [ ]) (omega arith) (omega arith) ∙ h.2 level n m)

  -- a LOOP or WHILE
  module _ (place : ℕ) where
    block_limit : {k : Kind} {s : Symbol} {x : Expect} {m' : ℕ} (f : Refusal) → Opening k s x → Admitted level n m k (Some f) m' → RefusedBehind (placed place s ∷ []) text from level n m (placed place f)
    block_limit f o a = let r = some_reading from (drop from text) in (r.0, r.1, go r.0 o a)
      where
        go : {k : Kind} {s : Symbol} {x : Expect} {m' : ℕ} {f : Refusal} (ys : List PlacedSymbol) → Opening k s x → Admitted level n m k (Some f) m' → judge (length text) statement level n m (placed place s ∷ ys) ≡ refused (refusal_number f) place
        go ys opening_loop (too_deep e) = judge_deep (length text) statement level n m (placed place LOOP) ys (λ k f. elim f [ ]) to_loop opens_loop e
        go ys opening_loop (too_many hl e) = judge-many (length text) statement level n m (placed place LOOP) ys (λ k f. elim f [ ]) to_loop (λ h. omega (arith, h.1)) begun e
        go ys opening_loop (too_many_loops hl hn e) = judge-loops (length text) statement level n m (placed place LOOP) ys (λ k f. elim f [ ]) to_loop (λ h. omega (arith, h.1)) is_loop e
        go ys opening_while (too_deep e) = judge_deep (length text) statement level n m (placed place WHILE) ys (λ k f. elim f [ ]) to_while opens_while e
        go ys opening_while (too_many hl e) = judge-many (length text) statement level n m (placed place WHILE) ys (λ k f. elim f [ ]) to_while (λ h. omega (arith, h.1)) begun e

    pub block_refused : {k : Kind} {s : Symbol} {x : Expect} {m' : ℕ} (e : Placed Refusal) → Opening k s x → Admitted level n m k (Some e.item) m' → e.place ≡ place → RefusedBehind (placed place s ∷ []) text from level n m e
    block_refused {s = s} e o a p = subst (λ q. RefusedBehind (placed place s ∷ []) text from level n m (placed q e.item)) (sym p) (block_limit e.item o a)

    module _ {k : Kind} {s : Symbol} {x : Expect} {m₁ : ℕ} (o : Opening k s x) (a : Admitted level n m k None m₁) (e : Placed Refusal) where
      pub head_bad : Halts text from x e → RefusedBehind (placed place s ∷ []) text from level n m e
      head_bad h = (h.0, h.1, opened_word (length text) level n m place o a h.0 ∙ h.2 (suc level) n m₁)

      module _ {i : ℕ} (hs : List PlacedSymbol) (mid : ℕ) (h : Head k i hs) (hi : i ≤ 31) (b : Between text from mid hs) where
        pub body_bad : RefusedBehind [] text mid (suc level) (suc n) m₁ e → RefusedBehind (placed place s ∷ []) text from level n m e
        body_bad r = (hs ++ r.0, b r.0 r.1, opened (length text) level n m place o a h hi r.0 ∙ r.2)

-- behind the statements of a body
module _ {level n m n₁ m₁ : ℕ} {before after : List (Placed Statement)} (text : List ℕ) (from mid : ℕ) (us : List PlacedSymbol) (b : Between text from mid us) (p : Parsed (length text) level n m before us n₁ m₁ after) (e : Placed Refusal) where
  pub follows_bad : (ys : List PlacedSymbol) → Reads mid (drop mid text) ys → judge (length text) more level p.last m₁ ys ≡ refused (refusal_number e.item) e.place → RefusedBehind [] text from level n m e
  follows_bad ys r h = (us ++ ys, b ys r, p.judged ys ∙ h)

  pub follows_flawed : (to : ℕ) → LexemeRead text mid (Err e) to → RefusedBehind [] text from level n m e
  follows_flawed to h =
      let ys = placed e.place h.0 ∷ h.1 in
      follows_bad ys h.2 (judge_flaw (length text) more level p.last m₁ (placed e.place h.0) h.1 (refusal_number e.item) h.3)

  -- a symbol that is out of order
  follows_other : (x : Placed Lexeme) (to : ℕ) → Between text mid to (placed x.place (meant x.item) ∷ []) → Fine (meant x.item) → ((x' : Expect) (d' : ℕ) → Step more (meant x.item) level x' d' → ⊥) → e ≡ placed x.place OutOfOrder → RefusedBehind [] text from level n m e
  follows_other x to c f g q =
      let rest = some_reading to (drop to text) in
      let y = placed x.place (meant x.item) in
      follows_bad (y ∷ rest.0) (c rest.0 rest.1) (judge_stuck (length text) more level p.last m₁ y rest.0 f g ∙ ap (λ (r : Placed Refusal). refused (refusal_number r.item) r.place) (sym q))

closing-step : {s : Symbol} {d d' : ℕ} {x' : Expect} → Step more s d x' d' → (s ≡ semicolon → ⊥) → (s ≡ END → ⊥) → ⊥
closing-step to_next f g = f refl
closing-step to_end f g = g refl

outer_step : {s : Symbol} {d' : ℕ} {x' : Expect} → Step more s 0 x' d' → (s ≡ semicolon → ⊥) → ⊥
outer_step to_next f = f refl

-- no END closes a block's body
pub block_open : (X : Type 0) {level n m n₁ m₁ : ℕ} {before after : List (Placed Statement)} (text : List ℕ) (from mid to : ℕ) (us : List PlacedSymbol) → Between text from mid us → Parsed (length text) (suc level) n m before us n₁ m₁ after
    → (e : Placed Refusal) (x : Option (Placed Lexeme)) → Follows text mid x to → Closed {X = X} (length text) x (Err e) → RefusedBehind [] text from (suc level) n m e
unfolding judge
block_open X text from mid to us b p e None f c = follows_bad text from mid us b p e [] f (ap (λ (r : Placed Refusal). refused (refusal_number r.item) r.place) (sym c))
block_open X text from mid to us b p e (Some x) f c =
    follows_other text from mid us b p e x to f.0 f.1
    (λ x' d' t. closing-step t (λ q. f.2 (same_lexeme x.item lexeme.Semicolon q)) (λ q. c.0 (same_lexeme x.item lexeme.End q))) c.1

-- a symbol stands behind the whole sheet
pub sheet_open : {n m n₁ m₁ : ℕ} {before after : List (Placed Statement)} (text : List ℕ) (from mid to : ℕ) (us : List PlacedSymbol) → Between text from mid us → Parsed (length text) 0 n m before us n₁ m₁ after
    → (e : Placed Refusal) (x : Placed Lexeme) → Follows text mid (Some x) to → e ≡ placed x.place OutOfOrder → RefusedBehind [] text from 0 n m e
sheet_open text from mid to us b p e x f q =
    follows_other text from mid us b p e x to f.0 f.1 (λ x' d' t. outer_step t (λ q. f.2 (same_lexeme x.item lexeme.Semicolon q))) q

-- what is refused behind the statements so far
pub joined_refused : {level n₀ m₀ n m : ℕ} {before now : List (Placed Statement)} (text : List ℕ) (from mid : ℕ) (us : List PlacedSymbol) (e : Placed Refusal) → Joined (length text) level n₀ m₀ before us n m now → Between text from mid us → RefusedBehind [] text mid level n m e → RefusedBehind [] text from level n₀ m₀ e
joined_refused text from mid us e j b r = (us ++ r.0, b r.0 r.1, j.judged r.0 ∙ r.2)
