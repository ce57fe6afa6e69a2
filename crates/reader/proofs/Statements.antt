-- The symbols of a body, statement by statement.
use Rattle.std.proofs.Common.{◌≡◌, ℕ, suc, ◌+◌, ◌<◌, ◌≤◌, List, [], ◌∷◌, ◌++◌, length, sym, refl, ap, ◌∙◌, subst, ⊎_elim, append_assoc, add-one, arith}
use Rattle.std.proofs.lemmas.Bool.{cases_lt, lt-ltb, le-ltb}
use Rattle.std.specs.declared.option.Option.TheVariants as option
use Rattle.reader.specs.declared.types.Kind.{Kind}
use Rattle.reader.specs.declared.types.Kind.TheVariants.{Zero, Plus, Minus, Loop, While}
use Rattle.reader.specs.declared.types.Statement.{Statement}
use Rattle.reader.specs.Sheet.{Sheet, done, plus, minus, loop, while, Some}
use Rattle.reader.specs.Symbols.{Symbol, LOOP, WHILE, DO, END, number, register, unequal, semicolon}
use Rattle.reader.specs.Checks.{at, sheet_of, span, sibling, Body, IsStatement}
use Rattle.reader.specs.Printed.{and_then, spelling}
use Rattle.reader.specs.Pages.{Page, put_symbols, first_statement, end_of}
use Rattle.reader.proofs.Spans.{Recs, begins, some_of, span_none, span_more, span_spans}
use Rattle.reader.proofs.Checking.{forward, body_less}
use Rattle.reader.proofs.Pages.{symbols_append}

-- a semicolon and the symbols of the rest, unless nothing rests
abbrev pub rest_of : Sheet → List Symbol
rest_of p = and_then p (spelling p)

and_then_some : (p : Sheet) (xs : List Symbol) → Some p → and_then p xs ≡ semicolon ∷ xs
and_then_some done xs o = absurd o
and_then_some (plus i j c p) xs o = refl
and_then_some (minus i j c p) xs o = refl
and_then_some (loop i b p) xs o = refl
and_then_some (while i b p) xs o = refl

-- The symbols of the first statement come first.
spelling_of : (k : Kind) (s : Statement) (q p : Sheet) → (k ≡ Zero → ⊥) → spelling (sheet_of k s q p) ≡ spelling (sheet_of k s q done) ++ rest_of p
spelling_of Zero s q p n = absurd (n refl)
spelling_of Plus s q p n = refl
spelling_of Minus s q p n = refl
spelling_of Loop s q p n = ap (λ (l : List Symbol). LOOP ∷ register s.source ∷ DO ∷ l) (sym (append_assoc (spelling q) (END ∷ []) (rest_of p)))
spelling_of While s q p n =
    ap (λ (l : List Symbol). WHILE ∷ register s.source ∷ unequal ∷ number 0 ∷ DO ∷ l) (sym (append_assoc (spelling q) (END ∷ []) (rest_of p)))

pub spelling-span : (rs : Recs) (a b : ℕ) → a < b → Body rs a b 0 → spelling (span rs a b) ≡ spelling (first_statement rs a) ++ rest_of (span rs (end_of rs a) b)
spelling-span rs a b lt h =
    ap spelling (span_more rs a b h.sheet lt h.spans)
    ∙ spelling_of (at rs a).kind (at rs a) (span rs (suc a) (end_of rs a)) (span rs (end_of rs a) b) (begins rs a b h.sheet (some_of rs a b h.sheet h.spans lt) h.spans).kind

-- A body and the statements behind its first.
pub put_first : (rs : Recs) (a b : ℕ) (f g : Page) → a < b → Body rs a b 0 → g ≡ put_symbols (spelling (first_statement rs a)) f
    → put_symbols (spelling (span rs a b)) f ≡ put_symbols (rest_of (span rs (end_of rs a) b)) g
put_first rs a b f g lt h e =
    ap (λ (xs : List Symbol). put_symbols xs f) (spelling-span rs a b lt h)
    ∙ symbols_append (spelling (first_statement rs a)) (rest_of (span rs (end_of rs a) b)) f
    ∙ ap (put_symbols (rest_of (span rs (end_of rs a) b))) (sym e)

pub put_next : (rs : Recs) (a b : ℕ) (f g h : Page) → a < b → Body rs a b 0 → g ≡ put_symbols (semicolon ∷ []) f → h ≡ put_symbols (spelling (first_statement rs a)) g
    → put_symbols (rest_of (span rs a b)) f ≡ put_symbols (rest_of (span rs (end_of rs a) b)) h
put_next rs a b f g h lt w e q =
    ap (λ (xs : List Symbol). put_symbols xs f)
    (and_then_some (span rs a b) (spelling (span rs a b)) (some_of rs a b (span rs a b) (span_spans rs a b w.sheet w.spans) lt))
    ∙ ap (put_symbols (spelling (span rs a b))) (sym e)
    ∙ put_first rs a b g h lt w q

pub put_last : (rs : Recs) (a b : ℕ) (f : Page) → b ≤ a → put_symbols (rest_of (span rs a b)) f ≡ f
put_last rs a b f le = ap (λ (p : Sheet). put_symbols (rest_of p) f) (span_none rs a b le)

-- What the next-sibling question tells of the end of a statement.
pub sibling-some : (rs : Recs) (i to n : ℕ) → option.Some n ≡ sibling rs i to → (n ≡ end_of rs i) × (n < to)
sibling-some rs i to n e =
    ⊎_elim
    (λ (a : i < length rs).
    ⊎_elim
    (λ (b : end_of rs i < to).
    let q : option.Some n ≡ option.Some (end_of rs i) = e ∙ rw (lt-ltb i (length rs) a, lt-ltb (end_of rs i) to b) refl in
    let m : n ≡ end_of rs i = cc in
    (m, omega arith))
    (λ (b : to ≤ end_of rs i).
    let q : option.Some n ≡ option.None = e ∙ rw (lt-ltb i (length rs) a, le-ltb (end_of rs i) to b) refl in
    let z : ◌≡◌ {A = ℕ} 0 1 = cc in let y : ⊥ = omega arith in absurd y)
    (cases_lt (end_of rs i) to))
    (λ (a : length rs ≤ i).
    let q : option.Some n ≡ option.None = e ∙ rw (le-ltb i (length rs) a) refl in
    let z : ◌≡◌ {A = ℕ} 0 1 = cc in let y : ⊥ = omega arith in absurd y)
    (cases_lt i (length rs))

pub sibling-none : (rs : Recs) (i to : ℕ) → i < length rs → option.None ≡ sibling rs i to → to ≤ end_of rs i
sibling-none rs i to a e =
    ⊎_elim
    (λ (b : end_of rs i < to).
    let q : option.None ≡ option.Some (end_of rs i) = e ∙ rw (lt-ltb i (length rs) a, lt-ltb (end_of rs i) to b) refl in
    let z : ◌≡◌ {A = ℕ} 0 1 = cc in let y : ⊥ = omega arith in absurd y)
    (λ (b : to ≤ end_of rs i). b)
    (cases_lt (end_of rs i) to)

-- The statement of one record.
pub put_plain : (rs : Recs) (i : ℕ) (k : Kind) (f g : Page) → (at rs i).kind ≡ k → g ≡ put_symbols (spelling (sheet_of k (at rs i) (span rs (suc i) (end_of rs i)) done)) f
    → g ≡ put_symbols (spelling (first_statement rs i)) f
put_plain rs i k f g e q = q ∙ ap (λ (x : Kind). put_symbols (spelling (sheet_of x (at rs i) (span rs (suc i) (end_of rs i)) done)) f) (sym e)

put_block : (xs : List Symbol) (rs : Recs) (i : ℕ) (f g h k : Page) → g ≡ put_symbols xs f → h ≡ put_symbols (spelling (span rs (i + 1) (end_of rs i))) g → k ≡ put_symbols (END ∷ []) h
    → k ≡ put_symbols (xs ++ (spelling (span rs (suc i) (end_of rs i)) ++ (END ∷ []))) f
put_block xs rs i f g h k p q r =
    let b = spelling (span rs (suc i) (end_of rs i)) in
    let q' : h ≡ put_symbols b g = q ∙ ap (λ (n : ℕ). put_symbols (spelling (span rs n (end_of rs i))) g) (add-one i) in
    r ∙ ap (put_symbols (END ∷ [])) q' ∙ sym (symbols_append b (END ∷ []) g)
    ∙ ap (put_symbols (b ++ (END ∷ []))) p ∙ sym (symbols_append xs (b ++ (END ∷ [])) f)

pub put_loop : (rs : Recs) (i : ℕ) (f g h k : Page) → (at rs i).kind ≡ Loop → g ≡ put_symbols (LOOP ∷ register (at rs i).source ∷ DO ∷ []) f
    → h ≡ put_symbols (spelling (span rs (i + 1) (end_of rs i))) g → k ≡ put_symbols (END ∷ []) h → k ≡ put_symbols (spelling (first_statement rs i)) f
put_loop rs i f g h k e p q r = put_plain rs i Loop f k e (put_block (LOOP ∷ register (at rs i).source ∷ DO ∷ []) rs i f g h k p q r)

pub put_while : (rs : Recs) (i : ℕ) (f g h k : Page) → (at rs i).kind ≡ While → g ≡ put_symbols (WHILE ∷ register (at rs i).source ∷ unequal ∷ number 0 ∷ DO ∷ []) f
    → h ≡ put_symbols (spelling (span rs (i + 1) (end_of rs i))) g → k ≡ put_symbols (END ∷ []) h → k ≡ put_symbols (spelling (first_statement rs i)) f
put_while rs i f g h k e p q r =
    put_plain rs i While f k e (put_block (WHILE ∷ register (at rs i).source ∷ unequal ∷ number 0 ∷ DO ∷ []) rs i f g h k p q r)

-- The first statement of a body, and the body behind it.
pub record First (rs : Recs) (a b : ℕ) : Type 0 where
  pub statement : IsStatement rs a b 0
  pub forward : a < end_of rs a
  pub nested : end_of rs a ≤ b
  pub rest : Body rs (end_of rs a) b 0

pub first_of : (rs : Recs) (a b : ℕ) → a < b → Body rs a b 0 → First rs a b
first_of rs a b lt h =
    let s = body_less rs a b 0 lt h in
    let f = forward rs a b 0 lt s.0 in
    record { statement = s.0; forward = f.0; nested = f.1; rest = s.1 }

-- The next sibling n of the statement at i.
pub record Turn (rs : Recs) (i to n : ℕ) : Type 0 where
  pub is : n ≡ end_of rs i
  pub before : n < to
  pub body : Body rs n to 0
  pub first : First rs n to

pub turn : (rs : Recs) (i to n : ℕ) → option.Some n ≡ sibling rs i to → Body rs (end_of rs i) to 0 → Turn rs i to n
turn rs i to n e h =
    let s = sibling-some rs i to n e in
    let b : Body rs n to 0 = subst (λ (x : ℕ). Body rs x to 0) (sym s.0) h in
    record { is = s.0; before = s.1; body = b; first = first_of rs n to s.1 b }

pub put_turn : (rs : Recs) (i to n : ℕ) (f g h : Page) → Turn rs i to n → g ≡ put_symbols (semicolon ∷ []) f → h ≡ put_symbols (spelling (first_statement rs n)) g
    → put_symbols (rest_of (span rs (end_of rs n) to)) h ≡ put_symbols (rest_of (span rs (end_of rs i) to)) f
put_turn rs i to n f g h t e q =
    sym (ap (λ (x : ℕ). put_symbols (rest_of (span rs x to)) f) (sym t.is) ∙ put_next rs n to f g h t.before t.body e q)
