-- A body, statement by statement, and a LOOP or WHILE with its body, as the parser goes from one state to the next.
use Rattle.std.proofs.Common.{◌≡◌, ℕ, suc, ◌+◌, ◌-◌, ◌<◌, ◌≤◌, List, [], ◌∷◌, ◌++◌, length, drop, set, Some, None, Ok, Err, Option, Result, sym, ap, ◌∙◌, subst, append_assoc, add-one, arith}
use Rattle.reader.specs.declared.types.Placed.{Placed}
use Rattle.reader.specs.declared.types.Refusal.{Refusal}
use Rattle.reader.specs.declared.types.Kind.{Kind}
use Rattle.reader.specs.declared.types.Lexeme.{Lexeme}
use Rattle.reader.specs.declared.types.Lexeme.TheVariants as lexeme
use Rattle.reader.specs.declared.types.Statement.{Statement}
use Rattle.reader.specs.declared.cursor.Cursor.{Cursor}
use Rattle.reader.specs.declared.parser.Parser.{Parser}
use Rattle.reader.specs.declared.level.Level.{Level}
use Rattle.reader.specs.Symbols.{Symbol, END, semicolon, PlacedSymbol, placed}
use Rattle.reader.specs.Text.{Reads}
use Rattle.reader.specs.Machine.{Expect}
use Rattle.reader.specs.Records.{statement_of}
use Rattle.reader.specs.Lexing.{meant, Fine, Between, LexemeRead}
use Rattle.reader.specs.Expecting.{Required, Closed, Halts}
use Rattle.reader.specs.Parsing.{text_of, pos_of, memory_of, Kept, Parsed, RefusedBehind, StatementRead, Follows, Opening, Admitted, Head, BlockAdmitted, BlockHeadRead, RecordFiled}
use Rattle.reader.proofs.Counts.{small_register, size_spelled}
use Rattle.reader.proofs.Parsing.{Joined, joined_more, parsed_block}
use Rattle.reader.proofs.Refusing.{behind-first, follows_flawed, block_open, body_bad}

pub kept_then : (a s z : Parser) → Kept a s → Kept s z → Kept a z
kept_then a s z k l = record { text = l.text ∙ k.text; room = l.room ∙ k.room; loan = l.loan ∙ k.loan }

-- symbols behind symbols
pub between-then : (text : List ℕ) (a b c : ℕ) (us vs : List PlacedSymbol) → Between text a b us → Between text b c vs → Between text a c (us ++ vs)
between-then text a b c us vs f g zs r = subst (λ (l : List PlacedSymbol). Reads a (drop a text) l) (sym (append_assoc us vs zs)) (f (vs ++ zs) (g zs r))

-- some statements, from the state a to the state z
abbrev pub Statements : ℕ → Parser → Parser → Type 0
Statements level a z =
    (vs : List PlacedSymbol) × Between (text_of a) (pos_of a) (pos_of z) vs
    × Parsed (length (text_of a)) level a.counts.statements a.counts.loops (memory_of a) vs z.counts.statements z.counts.loops (memory_of z)

-- the statements so far of a body that began in the state a
abbrev pub SoFar : ℕ → Parser → Parser → Type 0
SoFar level a s =
    (us : List PlacedSymbol) × Between (text_of a) (pos_of a) (pos_of s) us
    × Joined (length (text_of a)) level a.counts.statements a.counts.loops (memory_of a) us s.counts.statements s.counts.loops (memory_of s)
    × Kept a s

module _ (level : ℕ) (a s z : Parser) (far : SoFar level a s) where
  module _ (one : Statements level s z) where
    moved : Between (text_of a) (pos_of s) (pos_of z) one.0 × Parsed (length (text_of a)) level s.counts.statements s.counts.loops (memory_of s) one.0 z.counts.statements z.counts.loops (memory_of z)
    moved =
        subst (λ t. Between t (pos_of s) (pos_of z) one.0 × Parsed (length t) level s.counts.statements s.counts.loops (memory_of s) one.0 z.counts.statements z.counts.loops (memory_of z)) far.3.text (one.1, one.2)

    -- with one more
    pub all_so_far : Statements level a z
    all_so_far = (
      far.0 ++ one.0,
      between-then (text_of a) (pos_of a) (pos_of s) (pos_of z) far.0 one.0 far.1 moved.0,
      far.2.join one.0 z.counts.statements z.counts.loops (memory_of z) moved.1,
    )

    pub fewer : 256 - z.counts.statements < 256 - s.counts.statements
    fewer = omega (arith, one.2.grown, size_spelled one.2.spells, z.counts.few)

    -- and its semicolon
    module _ (x : Placed Lexeme) (to : ℕ) (b : Between (text_of z) (pos_of z) to (placed x.place (meant x.item) ∷ [])) (t : text_of z ≡ text_of a) (e : x.item ≡ lexeme.Semicolon) where
      semicolon_here : Between (text_of a) (pos_of z) to (placed x.place semicolon ∷ [])
      semicolon_here =
          subst (λ l. Between l (pos_of z) to (placed x.place semicolon ∷ [])) t
          (subst (λ l. Between (text_of z) (pos_of z) to (placed x.place (meant l) ∷ [])) e b)

      pub more_so_far : (us : List PlacedSymbol) × Between (text_of a) (pos_of a) to us × Joined (length (text_of a)) level a.counts.statements a.counts.loops (memory_of a) us z.counts.statements z.counts.loops (memory_of z)
      more_so_far =
          let w = placed x.place semicolon ∷ [] in (
            far.0 ++ (one.0 ++ w),
            between-then (text_of a) (pos_of a) (pos_of s) to far.0 (one.0 ++ w) far.1 (between-then (text_of a) (pos_of s) (pos_of z) to one.0 w moved.0 semicolon_here),
            joined_more far.0 one.0 x.place far.2 moved.1,
          )

-- what follows a body
module _ (level : ℕ) (a z : Parser) (all : Statements level a z) (t : text_of z ≡ text_of a) (to : ℕ) where
  pub body_flawed : (e : Placed Refusal) → LexemeRead (text_of z) (pos_of z) (Err e) to → RefusedBehind [] (text_of a) (pos_of a) level a.counts.statements a.counts.loops e
  body_flawed e r = follows_flawed (text_of a) (pos_of a) (pos_of z) all.0 all.1 all.2 e to (subst (λ l. LexemeRead l (pos_of z) (Err e) to) t r)

  pub body_ends : (x : Option (Placed Lexeme)) → x ≡ None → LexemeRead (text_of z) (pos_of z) (Ok x) to → Follows (text_of a) (pos_of z) None to
  body_ends x e r = subst (λ l. LexemeRead l (pos_of z) (Ok None) to) t (subst (λ y. LexemeRead (text_of z) (pos_of z) (Ok y) to) e r)

  pub body_follows : (x : Option (Placed Lexeme)) (y : Placed Lexeme) → x ≡ Some y → LexemeRead (text_of z) (pos_of z) (Ok x) to → (y.item ≡ lexeme.Semicolon → ⊥) → Follows (text_of a) (pos_of z) (Some y) to
  body_follows x y e r f =
      let g = subst (λ l. LexemeRead l (pos_of z) (Ok (Some y)) to) t (subst (λ w. LexemeRead (text_of z) (pos_of z) (Ok w) to) e r) in
      (g.0, g.1, f)

pub some_read : (text : List ℕ) (from to : ℕ) (x : Option (Placed Lexeme)) (y : Placed Lexeme) → x ≡ Some y → LexemeRead text from (Ok x) to → LexemeRead text from (Ok (Some y)) to
some_read text from to x y e r = subst (λ w. LexemeRead text from (Ok w) to) e r

-- one statement, of which the first symbol y was read in the state a
pub first_read : {X : Type 0} (level : ℕ) (a s z : Parser) (y : PlacedSymbol) (r : Result X (Placed Refusal)) → Between (text_of a) (pos_of a) (pos_of s) (y ∷ []) → text_of s ≡ text_of a → s.counts.statements ≡ a.counts.statements → s.counts.loops ≡ a.counts.loops → memory_of s ≡ memory_of a
    → StatementRead (y ∷ []) level s r z → StatementRead [] level a r z
first_read level a s z y (Ok u) b t en em ek h =
    let p = subst (λ k. Parsed (length (text_of s)) level s.counts.statements s.counts.loops k (y ∷ h.0) z.counts.statements z.counts.loops (memory_of z)) ek h.2 in
    let q = subst (λ m. Parsed (length (text_of s)) level s.counts.statements m (memory_of a) (y ∷ h.0) z.counts.statements z.counts.loops (memory_of z)) em p in
    let r = subst (λ n. Parsed (length (text_of s)) level n a.counts.loops (memory_of a) (y ∷ h.0) z.counts.statements z.counts.loops (memory_of z)) en q in (
      y ∷ h.0,
      between-then (text_of a) (pos_of a) (pos_of s) (pos_of z) (y ∷ []) h.0 b (subst (λ l. Between l (pos_of s) (pos_of z) h.0) t h.1),
      subst (λ l. Parsed (length l) level a.counts.statements a.counts.loops (memory_of a) (y ∷ h.0) z.counts.statements z.counts.loops (memory_of z)) t r,
    )
first_read level a s z y (Err e) b t en em ek h =
    let p = subst (λ m. RefusedBehind (y ∷ []) (text_of s) (pos_of s) level s.counts.statements m e) em h in
    let q = subst (λ n. RefusedBehind (y ∷ []) (text_of s) (pos_of s) level n a.counts.loops e) en p in
    behind-first (text_of a) (pos_of a) level a.counts.statements a.counts.loops (pos_of s) y e b (subst (λ l. RefusedBehind (y ∷ []) l (pos_of s) level a.counts.statements a.counts.loops e) t q)

-- the first symbol, told by its lexeme
pub first-between : (text : List ℕ) (from to : ℕ) (x : Placed Lexeme) (l : Lexeme) → x.item ≡ l → Required text from (Ok x) to → Between text from to (placed x.place (meant l) ∷ [])
first-between text from to x l e r = subst (λ k. Between text from to (placed x.place (meant k) ∷ [])) e r.0

pub first_small : (text : List ℕ) (from to : ℕ) (x : Placed Lexeme) (i : ℕ) → x.item ≡ lexeme.Register i → Required text from (Ok x) to → i ≤ 31
first_small text from to x i e r = small_register i (subst (λ k. Fine (meant k)) e r.1)

-- a LOOP or WHILE that began in the state a, whose body is read next, in the state b
pub record Inside (level i : ℕ) (k : Kind) (a b : Parser) : Type 0 where
  pub admitted : Admitted level a.counts.statements a.counts.loops k None b.counts.loops
  pub hs : List PlacedSymbol
  pub head : Head k i hs
  pub small : i ≤ 31
  pub between : Between (text_of a) (pos_of a) (pos_of b) hs
  pub begun : b.counts.statements ≡ suc a.counts.statements
  pub zero : Placed Statement
  pub first : memory_of b ≡ set (memory_of a) a.counts.statements zero
  pub kept : Kept a b

pub inside : {level place i j : ℕ} {k : Kind} {a a₁ a₂ b : Parser} {s : Symbol} {x : Expect} {inner : Level} {z : Placed Statement} → Opening k s x
    → BlockAdmitted level k place a (Ok inner) a₁ → BlockHeadRead k a₁ (Ok i) a₂ → RecordFiled z a₂ j b → Inside level i k a b
inside {level} {k = k} {a} {a₁} {a₂} {b} {s} {x} {z = z} o m h f =
    let r = h.read s x o in
    let begun : a₂.counts.statements ≡ a.counts.statements = h.begun.0 ∙ m.begun in
    record {
      admitted = subst (λ n. Admitted level a.counts.statements a.counts.loops k None n) (sym (f.loops ∙ h.begun.1)) m.admitted.0;
      hs = r.0;
      head = r.2;
      small = r.3;
      between = subst (λ t. Between t (pos_of a) (pos_of b) r.0) m.kept.text (subst (λ n. Between (text_of a₁) n (pos_of b) r.0) m.pos (subst (λ n. Between (text_of a₁) (pos_of a₁) n r.0) (sym f.pos) r.1));
      begun = f.begun ∙ ap suc begun;
      zero = z;
      first = f.filed ∙ (ap (λ n. set (memory_of a₂) n z) begun ∙ ap (λ l. set l a.counts.statements z) (h.memory ∙ m.memory));
      kept = kept_then a a₂ b (kept_then a a₁ a₂ m.kept h.kept) f.kept;
    }

module _ (level place i : ℕ) (k : Kind) (a b : Parser) (w : Inside level i k a b) where
  at_body : (e : Placed Refusal) → RefusedBehind [] (text_of b) (pos_of b) (level + 1) b.counts.statements b.counts.loops e → RefusedBehind [] (text_of a) (pos_of b) (suc level) (suc a.counts.statements) b.counts.loops e
  at_body e r =
      let q = subst (λ n. RefusedBehind [] (text_of b) (pos_of b) (level + 1) n b.counts.loops e) w.begun r in
      let p = subst (λ l. RefusedBehind [] (text_of b) (pos_of b) l (suc a.counts.statements) b.counts.loops e) (add-one level) q in
      subst (λ t. RefusedBehind [] t (pos_of b) (suc level) (suc a.counts.statements) b.counts.loops e) w.kept.text p

  pub inside_refused : (e : Placed Refusal) → RefusedBehind [] (text_of b) (pos_of b) (level + 1) b.counts.statements b.counts.loops e → (s : Symbol) (x : Expect) → Opening k s x → RefusedBehind (placed place s ∷ []) (text_of a) (pos_of a) level a.counts.statements a.counts.loops e
  inside_refused e r s x o = body_bad (text_of a) (pos_of a) level a.counts.statements a.counts.loops place o w.admitted e w.hs (pos_of b) w.head w.small w.between (at_body e r)

  module _ (d : Parser) where
    -- the body's statements, from b to d
    abbrev BodyDone : Option (Placed Lexeme) → Type 0
    BodyDone x =
        (us : List PlacedSymbol) × (mid : ℕ) × Between (text_of b) (pos_of b) mid us
        × Parsed (length (text_of b)) (level + 1) b.counts.statements b.counts.loops (memory_of b) us d.counts.statements d.counts.loops (memory_of d) × Follows (text_of b) mid x (pos_of d)

    at_level : (x : Option (Placed Lexeme)) (h : BodyDone x) → Parsed (length (text_of b)) (suc level) b.counts.statements b.counts.loops (memory_of b) h.0 d.counts.statements d.counts.loops (memory_of d)
    at_level x h = subst (λ l. Parsed (length (text_of b)) l b.counts.statements b.counts.loops (memory_of b) h.0 d.counts.statements d.counts.loops (memory_of d)) (add-one level) h.3

    pub inside_open : (X : Type 0) (x : Option (Placed Lexeme)) (e : Placed Refusal) → BodyDone x → Kept b d → Closed {X = X} (length (text_of d)) x (Err e) → (s : Symbol) (y : Expect) → Opening k s y → RefusedBehind (placed place s ∷ []) (text_of a) (pos_of a) level a.counts.statements a.counts.loops e
    inside_open X x e h kept c s y o =
        let r = block_open X (text_of b) (pos_of b) h.1 (pos_of d) h.0 h.2 (at_level x h) e x h.4 (subst (λ t. Closed {X = X} (length t) x (Err e)) kept.text c) in
        inside_refused e (subst (λ l. RefusedBehind [] (text_of b) (pos_of b) l b.counts.statements b.counts.loops e) (sym (add-one level)) r) s y o

    module _ (X : Type 0) (u : X) (after : List (Placed Statement)) (n m to : ℕ) (n-same : n ≡ d.counts.statements) (m-same : m ≡ d.counts.loops) (to_same : to ≡ pos_of d) (filed : after ≡ set (memory_of d) a.counts.statements (placed place (statement_of k 0 i 0 d.counts.statements))) where
      block_some : (x : Placed Lexeme) → BodyDone (Some x) → x.item ≡ lexeme.End → (s : Symbol) (y : Expect) → Opening k s y
          → (vs : List PlacedSymbol) × Between (text_of a) (pos_of a) to vs × Parsed (length (text_of a)) level a.counts.statements a.counts.loops (memory_of a) (placed place s ∷ vs) n m after
      block_some x h e s y o =
          let w₁ = placed x.place END ∷ [] in
          let closing = subst (λ l. Between (text_of b) h.1 (pos_of d) (placed x.place (meant l) ∷ [])) e h.4.0 in
          let inner = between-then (text_of b) (pos_of b) h.1 (pos_of d) h.0 w₁ h.2 closing in
          let inner' = subst (λ t. Between t (pos_of b) (pos_of d) (h.0 ++ w₁)) w.kept.text inner in
          let body = subst (λ c. Parsed (length (text_of b)) (suc level) c b.counts.loops (memory_of b) h.0 d.counts.statements d.counts.loops (memory_of d)) w.begun (at_level (Some x) h) in
          let body' = subst (λ t. Parsed (length t) (suc level) (suc a.counts.statements) b.counts.loops (memory_of b) h.0 d.counts.statements d.counts.loops (memory_of d)) w.kept.text body in
          let whole = parsed_block (memory_of a) after place x.place w.zero w.hs h.0 o w.admitted w.head w.small body' w.first filed in
          let vs = w.hs ++ (h.0 ++ w₁) in (
            vs,
            subst (λ f. Between (text_of a) (pos_of a) f vs) (sym to_same) (between-then (text_of a) (pos_of a) (pos_of b) (pos_of d) w.hs (h.0 ++ w₁) w.between inner'),
            subst (λ c. Parsed (length (text_of a)) level a.counts.statements a.counts.loops (memory_of a) (placed place s ∷ vs) c m after) (sym n-same)
                (subst (λ c. Parsed (length (text_of a)) level a.counts.statements a.counts.loops (memory_of a) (placed place s ∷ vs) d.counts.statements c after) (sym m-same) whole),
          )

      pub block_done : (x : Option (Placed Lexeme)) → BodyDone x → Closed {X = X} (length (text_of d)) x (Ok u) → (s : Symbol) (y : Expect) → Opening k s y
          → (vs : List PlacedSymbol) × Between (text_of a) (pos_of a) to vs × Parsed (length (text_of a)) level a.counts.statements a.counts.loops (memory_of a) (placed place s ∷ vs) n m after
      block_done None h c s y o = absurd c
      block_done (Some x) h c s y o = block_some x h c s y o

-- the state a with another cursor
abbrev pub moved_to : Parser → Cursor → Parser
moved_to a c = record { cursor = c; records = a.records; counts = a.counts }

pub halts_moved : (t u : List ℕ) (p q : ℕ) (x : Expect) (e : Placed Refusal) → u ≡ t → q ≡ p → Halts u q x e → Halts t p x e
halts_moved t u p q x e a b h = subst (λ l. Halts l p x e) a (subst (λ f. Halts u f x e) b h)

pub amended_same : (after before : List (Placed Statement)) (i j place : ℕ) (x y : Statement) → i ≡ j → x ≡ y → after ≡ set before i (placed place x) → after ≡ set before j (placed place y)
amended_same after before i j place x y a b e = e ∙ (ap (λ k. set before k (placed place x)) a ∙ ap (λ s. set before j (placed place s)) b)
