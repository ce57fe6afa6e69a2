-- Laying the code of flat statements.
use Rattle.std.proofs.Common.{◌≡◌, ℕ, zero, suc, ◌+◌, ◌-◌, ◌<◌, ◌≤◌, T, List, [], ◌∷◌, ◌++◌, map, length, get_or, take, set, replicate, sym, refl, ap, ◌∙◌, subst, add-zero, arith, length-append, length-set}
use mathlib.Core.Option.{some}
use lib.ListN.{get_elem?}
use Rattle.std.proofs.lemmas.List.{take_at}
use Rattle.reader.specs.Sheet.{Sheet}
use Rattle.filing.specs.Tables.{overwrite}
use Rattle.reader.specs.declared.types.Placed.{Placed}
use Rattle.reader.specs.declared.types.Kind.{Kind}
use Rattle.reader.specs.declared.types.Kind.TheVariants as kind
use Rattle.reader.specs.Symbols.{placed}
use Rattle.reader.specs.Records.{statement_of}
use Rattle.translator.specs.declared.draft.Draft.{Draft}
use Rattle.translator.specs.declared.types.Role.{Role}
use Rattle.translator.specs.declared.types.Role.TheVariants as role
use Rattle.translator.specs.declared.types.Operation.TheVariants.{If, Goto}
use Rattle.translator.specs.declared.types.Instruction.{Instruction}
use Rattle.translator.specs.declared.types.Flat.{Flat}
use Rattle.translator.specs.JumpCode.{instruction, halt}
use Rattle.translator.specs.Translation.{FlatSheet, flat_done, flat_plus, flat_minus, flat_while, flat, flat_size, code_size, lay, compiled, flat_records_from}
use Rattle.translator.specs.Drafts.{draft_memory, laid, laid_code, next_label, is_open, OpenAt, aimed, Appended, Replaced, Cleared, Full}
use Rattle.translator.specs.Laying.{Stands, FlatSpan, assigned, CodeLaid, CodeLeft, StatementLaid, RoundLaid, NoRoom, NoRoomForRound, Coded}
use Rattle.reader.proofs.Overwriting.{length-overwrite, overwrite_append}
use Rattle.translator.proofs.Overwriting.{patched, kept, take-overwrite}
use Rattle.translator.proofs.Filing.{length-filed, get_or-filed}
use Rattle.translator.proofs.Laid.{lay-length}
use Rattle.translator.proofs.Sizes.{records-length}

abbrev pub blank_flat : Placed Flat
blank_flat = placed 0 (record { statement = statement_of kind.Zero 0 0 0 0; role = role.Halt })

-- the flat statement at index a, and where it ends
abbrev pub flat_at : List (Placed Flat) → ℕ → Flat
flat_at rs a = (get_or rs a blank_flat).item

abbrev pub end_at : List (Placed Flat) → ℕ → ℕ
end_at rs a = (flat_at rs a).statement.end

abbrev pub operation_at : List (Placed Flat) → ℕ → Instruction
operation_at rs a =
    instruction (flat_at rs a).role (assigned (flat_at rs a).statement.kind (flat_at rs a).statement.target (flat_at rs a).statement.source (flat_at rs a).statement.constant)

-- spans

pub stands_split : {A : Type 0} (ys : List A) (a : ℕ) (xs zs : List A) → Stands ys a (xs ++ zs) → Stands ys a xs × Stands ys (a + length xs) zs
stands_split ys a [] zs h = (tt, subst (λ (k : ℕ). Stands ys k zs) (sym (add-zero a)) h)
stands_split ys a (x ∷ xs) zs h =
    let r = stands_split ys (suc a) xs zs h.1 in
    let e : suc a + length xs ≡ a + suc (length xs) = omega arith in
    ((h.0, r.0), subst (λ (k : ℕ). Stands ys k zs) e r.1)

item_below : (rs : List (Placed Flat)) (a : ℕ) (x : Flat) → get_elem? (map (λ r. r.item) rs) a ≡ some x → a < length rs
item_below [] a x e = let z : ◌≡◌ {A = ℕ} 0 1 = cc in absurd (omega arith)
item_below (r ∷ rs) zero x e = omega arith
item_below (r ∷ rs) (suc a) x e = let h = item_below rs a x e in omega arith

item_at : (rs : List (Placed Flat)) (a : ℕ) (x : Flat) → get_elem? (map (λ r. r.item) rs) a ≡ some x → flat_at rs a ≡ x
item_at [] a x e = let z : ◌≡◌ {A = ℕ} 0 1 = cc in absurd (omega arith)
item_at (r ∷ rs) zero x e = cc
item_at (r ∷ rs) (suc a) x e = item_at rs a x e

pub span_below : (rs : List (Placed Flat)) (a b : ℕ) (f : FlatSheet) → FlatSpan rs a b f → a < b → a < length rs
span_below rs a b flat_done s l = let e = s.ends in absurd (omega arith)
span_below rs a b (flat_plus r i j c f) s l = item_below rs a (record { statement = statement_of kind.Plus i j c (suc a); role = r }) s.stand.0
span_below rs a b (flat_minus r i j c f) s l = item_below rs a (record { statement = statement_of kind.Minus i j c (suc a); role = r }) s.stand.0
span_below rs a b (flat_while r i p f) s l = item_below rs a (record { statement = statement_of kind.While 0 i 0 (suc a + flat_size p); role = r }) s.stand.0

-- an assignment stands at a
pub record Single (rs : List (Placed Flat)) (a b : ℕ) (f : FlatSheet) : Type 0 where
  pub rest : FlatSheet
  pub more : a < end_at rs a
  pub span : FlatSpan rs (end_at rs a) b rest
  pub size : code_size f ≡ suc (code_size rest)
  pub code : (l : ℕ) → lay l f ≡ operation_at rs a ∷ lay (suc l) rest

-- a WHILE stands at a
pub record Looped (rs : List (Placed Flat)) (a b : ℕ) (f : FlatSheet) : Type 0 where
  pub body : FlatSheet
  pub rest : FlatSheet
  pub more : a < end_at rs a
  pub inner : FlatSpan rs (a + 1) (end_at rs a) body
  pub span : FlatSpan rs (end_at rs a) b rest
  pub size : code_size f ≡ suc (code_size body + suc (code_size rest))
  pub code : (l : ℕ)
      → lay l f ≡ instruction (flat_at rs a).role (If (flat_at rs a).statement.source (suc (suc l + code_size body)))
      ∷ (lay (suc l) body ++ instruction role.Jump (Goto l) ∷ lay (suc (suc l + code_size body)) rest)

single_at : (rs : List (Placed Flat)) (a b : ℕ) (x : Flat) (f rest : FlatSheet) → x.statement.end ≡ suc a → get_elem? (map (λ r. r.item) rs) a ≡ some x
    → Stands (map (λ r. r.item) rs) (suc a) (flat_records_from (suc a) rest) → b ≡ a + suc (flat_size rest) → code_size f ≡ suc (code_size rest)
    → ((l : ℕ) → lay l f ≡ instruction x.role (assigned x.statement.kind x.statement.target x.statement.source x.statement.constant) ∷ lay (suc l) rest) → Single rs a b f
single_at rs a b x f rest q g h t w k =
    let e = item_at rs a x g in
    let n : end_at rs a ≡ suc a = ap (λ (y : Flat). y.statement.end) e ∙ q in
    record {
      rest = rest;
      more = omega arith;
      span = subst (λ (z : ℕ). FlatSpan rs z b rest) (sym n) (record { ends = omega arith; stand = h });
      size = w;
      code = λ l.
          k l
          ∙ ap (λ (y : Flat). instruction y.role (assigned y.statement.kind y.statement.target y.statement.source y.statement.constant) ∷ lay (suc l) rest) (sym e);
    }

pub single : (rs : List (Placed Flat)) (a b : ℕ) (f : FlatSheet) → ((flat_at rs a).statement.kind ≡ kind.While → ⊥) → FlatSpan rs a b f → a < b → Single rs a b f
single rs a b flat_done k s l = let e = s.ends in absurd (omega arith)
single rs a b (flat_plus r i j c f) k s l =
    single_at rs a b (record { statement = statement_of kind.Plus i j c (suc a); role = r }) (flat_plus r i j c f) f refl s.stand.0 s.stand.1 s.ends refl (λ l. refl)
single rs a b (flat_minus r i j c f) k s l =
    single_at rs a b (record { statement = statement_of kind.Minus i j c (suc a); role = r }) (flat_minus r i j c f) f refl s.stand.0 s.stand.1 s.ends refl (λ l. refl)
single rs a b (flat_while r i p f) k s l =
    absurd (k (ap (λ (x : Flat). x.statement.kind) (item_at rs a (record { statement = statement_of kind.While 0 i 0 (suc a + flat_size p); role = r }) s.stand.0)))

not_plus : (k : Kind) → k ≡ kind.While → k ≡ kind.Plus → ⊥
not_plus k e q = let z : ◌≡◌ {A = ℕ} 0 1 = cc in omega arith

not_minus : (k : Kind) → k ≡ kind.While → k ≡ kind.Minus → ⊥
not_minus k e q = let z : ◌≡◌ {A = ℕ} 0 1 = cc in omega arith

pub looped : (rs : List (Placed Flat)) (a b : ℕ) (f : FlatSheet) → (flat_at rs a).statement.kind ≡ kind.While → FlatSpan rs a b f → a < b → Looped rs a b f
looped rs a b flat_done k s l = let e = s.ends in absurd (omega arith)
looped rs a b (flat_plus r i j c f) k s l =
    absurd (not_plus (flat_at rs a).statement.kind k (ap (λ (x : Flat). x.statement.kind) (item_at rs a (record { statement = statement_of kind.Plus i j c (suc a); role = r }) s.stand.0)))
looped rs a b (flat_minus r i j c f) k s l =
    absurd (not_minus (flat_at rs a).statement.kind k (ap (λ (x : Flat). x.statement.kind) (item_at rs a (record { statement = statement_of kind.Minus i j c (suc a); role = r }) s.stand.0)))
looped rs a b (flat_while r i p f) k s l =
    let e = item_at rs a (record { statement = statement_of kind.While 0 i 0 (suc a + flat_size p); role = r }) s.stand.0 in
    let n : end_at rs a ≡ suc a + flat_size p = ap (λ (x : Flat). x.statement.end) e in
    let h = s.ends in
    let long = records-length p (suc a) in
    let cut = stands_split (map (λ x. x.item) rs) (suc a) (flat_records_from (suc a) p) (flat_records_from (suc a + flat_size p) f) s.stand.1 in
    let from : suc a ≡ a + 1 = omega arith in
    let within : FlatSpan rs (suc a) (end_at rs a) p = record { ends = n; stand = cut.0 } in
    let out : FlatSpan rs (suc a + flat_size p) b f = record {
      ends = omega arith;
      stand = subst (λ (z : ℕ). Stands (map (λ x. x.item) rs) (suc a + z) (flat_records_from (suc a + flat_size p) f)) long cut.1;
    } in
    record {
      body = p;
      rest = f;
      more = omega arith;
      inner = subst (λ (z : ℕ). FlatSpan rs z (end_at rs a) p) from within;
      span = subst (λ (z : ℕ). FlatSpan rs z b f) (sym n) out;
      size = refl;
      code = λ l.
          ap (λ (x : Flat). instruction x.role (If x.statement.source (suc (suc l + code_size p))) ∷ (lay (suc l) p ++ instruction role.Jump (Goto l) ∷ lay (suc (suc l + code_size p)) f))
          (sym e);
    }

-- memory

pub appended_room : (x : Instruction) (d e : Draft) → Appended x d e → length (draft_memory e) ≡ length (draft_memory d)
appended_room x d e h = ap length h.filled ∙ simp length-set

pub replaced_room : (i : ℕ) (x : Instruction) (d e : Draft) → Replaced i x d e → length (draft_memory e) ≡ length (draft_memory d)
replaced_room i x d e h = ap length h.filled ∙ simp length-set

-- an assignment is laid
pub after_single : (rs : List (Placed Flat)) (a b : ℕ) (f : FlatSheet) (d e : Draft) (v : Single rs a b f) → Appended (operation_at rs a) d e → CodeLeft f d v.rest e
after_single rs a b f d e v h =
    let n = v.size in
    let c = h.counted in
    let m = h.filled in
    record {
      counted = omega arith;
      filled =
          ap (overwrite (draft_memory d) (laid d)) (v.code (suc (laid d)))
          ∙ (ap (λ (k : List Instruction). overwrite k (suc (laid d)) (lay (suc (suc (laid d))) v.rest)) (sym m)
          ∙ ap (λ (k : ℕ). overwrite (draft_memory e) k (lay (suc k) v.rest)) (sym c));
    }

-- a WHILE is laid: the test, the body, the jump back, and the test closed
pub record WhileLaid (s at label : ℕ) (r : Role) (p : FlatSheet) (d₀ d₁ d₃ : Draft) : Type 0 where
  pub here : at ≡ laid d₀
  pub top : label ≡ next_label d₀
  pub test : Appended (instruction r (If s 0)) d₀ d₁
  pub round : RoundLaid p label d₁ d₃

stands : (s at label : ℕ) (r : Role) (p : FlatSheet) (d₀ d₁ d₃ : Draft) → WhileLaid s at label r p d₀ d₁ d₃ → get_or (draft_memory d₃) at halt ≡ instruction r (If s 0)
stands s at label r p d₀ d₁ d₃ w =
    let e₁ = w.test.counted in
    let f₁ = w.test.filled in
    let d₂ = w.round.between in
    let e₂ = w.round.body.counted in
    let f₂ = w.round.body.filled in
    let e₃ = w.round.back.counted in
    let f₃ = w.round.back.filled in
    let here = w.here in
    let o = instruction r (If s 0) in
    let g = instruction role.Jump (Goto label) in
    let c = lay (suc (laid d₁)) p in
    let m : draft_memory d₃ ≡ set (overwrite (set (draft_memory d₀) (laid d₀) o) (suc (laid d₀)) c) (laid d₂) g =
    f₃ ∙ ap (λ (k : List Instruction). set k (laid d₂) g) (f₂ ∙ (ap (λ (k : List Instruction). overwrite k (laid d₁) c) f₁ ∙ ap (λ (k : ℕ). overwrite (set (draft_memory d₀) (laid d₀) o) k c) e₁)) in
    ap (λ (k : ℕ). get_or (draft_memory d₃) k halt) here
    ∙ (ap (λ (k : List Instruction). get_or k (laid d₀) halt) m ∙ kept (draft_memory d₀) (laid d₀) (laid d₂) o g halt c w.test.room (omega arith))

pub still_open : (s at label : ℕ) (r : Role) (p : FlatSheet) (d₀ d₁ d₃ : Draft) → WhileLaid s at label r p d₀ d₁ d₃ → OpenAt (laid_code d₃) at
still_open s at label r p d₀ d₁ d₃ w =
    let e₁ = w.test.counted in
    let d₂ = w.round.between in
    let e₂ = w.round.body.counted in
    let e₃ = w.round.back.counted in
    let here = w.here in
    let long = length-filed d₃.table in
    let below : at < length (laid_code d₃) = omega arith in
    let is : get_or (laid_code d₃) at halt ≡ instruction r (If s 0) = get_or-filed d₃.table at halt below ∙ stands s at label r p d₀ d₁ d₃ w in
    (below, subst (λ (y : Instruction). T (is_open y.operation)) (sym is) tt)

pub past_while : (rs : List (Placed Flat)) (a b at label : ℕ) (f : FlatSheet) (d₀ d₁ d₃ d₄ : Draft) (v : Looped rs a b f)
    → WhileLaid (flat_at rs a).statement.source at label (flat_at rs a).role v.body d₀ d₁ d₃
    → Replaced at (aimed (next_label d₃) (get_or (draft_memory d₃) at halt)) d₃ d₄ → CodeLeft f d₀ v.rest d₄
past_while rs a b at label f d₀ d₁ d₃ d₄ v w z =
    let s = (flat_at rs a).statement.source in
    let r = (flat_at rs a).role in
    let n = v.size in
    let e₁ = w.test.counted in
    let f₁ = w.test.filled in
    let d₂ = w.round.between in
    let e₂ = w.round.body.counted in
    let f₂ = w.round.body.filled in
    let e₃ = w.round.back.counted in
    let f₃ = w.round.back.filled in
    let e₄ = z.counted in
    let f₄ = z.filled in
    let here = w.here in
    let r₁ = appended_room (instruction r (If s 0)) d₀ d₁ w.test in
    let r₂ : length (draft_memory d₂) ≡ length (draft_memory d₁) = ap length f₂ ∙ length-overwrite (draft_memory d₁) (laid d₁) (lay (suc (laid d₁)) v.body) in
    let r₃ = appended_room (instruction role.Jump (Goto label)) d₂ d₃ w.round.back in
    let L = suc (suc (suc (laid d₀)) + code_size v.body) in
    let o = instruction r (If s 0) in
    let p = instruction r (If s L) in
    let g = instruction role.Jump (Goto (suc (laid d₀))) in
    let c = lay (suc (suc (laid d₀))) v.body in
    let top : label ≡ suc (laid d₀) = w.top in
    let next : next_label d₃ ≡ L = omega arith in
    let q : aimed (next_label d₃) (get_or (draft_memory d₃) at halt) ≡ p =
    ap (aimed (next_label d₃)) (stands s at label r v.body d₀ d₁ d₃ w) ∙ ap (λ (k : ℕ). instruction r (If s k)) next in
    let m₂ : draft_memory d₂ ≡ overwrite (set (draft_memory d₀) (laid d₀) o) (suc (laid d₀)) c =
    f₂ ∙ (ap (λ (k : List Instruction). overwrite k (laid d₁) (lay (suc (laid d₁)) v.body)) f₁
    ∙ ap (λ (k : ℕ). overwrite (set (draft_memory d₀) (laid d₀) o) k (lay (suc k) v.body)) e₁) in
    let m₃ : draft_memory d₃ ≡ set (overwrite (set (draft_memory d₀) (laid d₀) o) (suc (laid d₀)) c) (laid d₂) g =
    f₃ ∙ (ap (λ (k : List Instruction). set k (laid d₂) (instruction role.Jump (Goto label))) m₂
    ∙ ap (λ (k : ℕ). set (overwrite (set (draft_memory d₀) (laid d₀) o) (suc (laid d₀)) c) (laid d₂) (instruction role.Jump (Goto k))) top) in
    let m₄ : draft_memory d₄ ≡ set (set (overwrite (set (draft_memory d₀) (laid d₀) o) (suc (laid d₀)) c) (laid d₂) g) (laid d₀) p =
    f₄ ∙ (ap (λ (k : Instruction). set (draft_memory d₃) at k) q
    ∙ (ap (λ (k : ℕ). set (draft_memory d₃) k p) here ∙ ap (λ (k : List Instruction). set k (laid d₀) p) m₃)) in
    let len = lay-length v.body (suc (suc (laid d₀))) in
    let n₄ : laid d₄ ≡ suc (laid d₂) = omega arith in
    let nL : L ≡ suc (laid d₄) = omega arith in
    record {
      counted = omega arith;
      filled =
          ap (overwrite (draft_memory d₀) (laid d₀)) (v.code (suc (laid d₀)))
          ∙ (sym (patched (draft_memory d₀) (laid d₀) (laid d₂) o p g c (lay L v.rest) (omega arith))
          ∙ (ap (λ (k : List Instruction). overwrite k (suc (laid d₂)) (lay L v.rest)) (sym m₄)
          ∙ (ap (λ (k : ℕ). overwrite (draft_memory d₄) k (lay L v.rest)) (sym n₄)
          ∙ ap (λ (k : ℕ). overwrite (draft_memory d₄) (laid d₄) (lay k v.rest)) nL)));
    }

-- nothing is left
none_left : (rs : List (Placed Flat)) (n b : ℕ) (f g : FlatSheet) (d e : Draft) → b ≤ n → FlatSpan rs n b g → CodeLeft f d g e → CodeLaid f d e
none_left rs n b f flat_done d e h s w = let c = w.counted in record { counted = omega arith; filled = sym w.filled }
none_left rs n b f (flat_plus r i j k g) d e h s w = let c = s.ends in absurd (omega arith)
none_left rs n b f (flat_minus r i j k g) d e h s w = let c = s.ends in absurd (omega arith)
none_left rs n b f (flat_while r i p g) d e h s w = let c = s.ends in absurd (omega arith)

pub all_laid : (rs : List (Placed Flat)) (n b : ℕ) (f : FlatSheet) (d e : Draft) → b ≤ n → StatementLaid rs b f d n e → CodeLaid f d e
all_laid rs n b f d e h w = none_left rs n b f w.rest d e h w.spans w.left

-- one statement more
pub more_laid : (rs : List (Placed Flat)) (n m b : ℕ) (f : FlatSheet) (d e k : Draft) (w : StatementLaid rs b f d n e) → StatementLaid rs b w.rest e m k → StatementLaid rs b f d m k
more_laid rs n m b f d e k w v =
    let a = w.left.counted in
    let c = v.left.counted in
    record { rest = v.rest; spans = v.spans; left = record { counted = omega arith; filled = w.left.filled ∙ v.left.filled } }

pub no_room_later : (rs : List (Placed Flat)) (n b : ℕ) (f : FlatSheet) (d e : Draft) (w : StatementLaid rs b f d n e) → length (draft_memory e) ≡ length (draft_memory d)
    → NoRoom w.rest e → NoRoom f d
no_room_later rs n b f d e w r h = let a = w.left.counted in omega arith

pub end_within : (rs : List (Placed Flat)) (a b : ℕ) (f : FlatSheet) → FlatSpan rs a b f → a < b → end_at rs a ≤ b
end_within rs a b flat_done s l = let e = s.ends in absurd (omega arith)
end_within rs a b (flat_plus r i j c f) s l =
    let n = ap (λ (x : Flat). x.statement.end) (item_at rs a (record { statement = statement_of kind.Plus i j c (suc a); role = r }) s.stand.0) in
    let e = s.ends in
    omega arith
end_within rs a b (flat_minus r i j c f) s l =
    let n = ap (λ (x : Flat). x.statement.end) (item_at rs a (record { statement = statement_of kind.Minus i j c (suc a); role = r }) s.stand.0) in
    let e = s.ends in
    omega arith
end_within rs a b (flat_while r i p f) s l =
    let n = ap (λ (x : Flat). x.statement.end) (item_at rs a (record { statement = statement_of kind.While 0 i 0 (suc a + flat_size p); role = r }) s.stand.0) in
    let e = s.ends in
    omega arith

-- there is no room

pub single_no_room : (rs : List (Placed Flat)) (a b : ℕ) (f : FlatSheet) (d : Draft) → Single rs a b f → Full d → NoRoom f d
single_no_room rs a b f d v h = let n = v.size in omega arith

pub test_no_room : (rs : List (Placed Flat)) (a b : ℕ) (f : FlatSheet) (d : Draft) → Looped rs a b f → Full d → NoRoom f d
test_no_room rs a b f d v h = let n = v.size in omega arith

pub round_no_room : (rs : List (Placed Flat)) (a b : ℕ) (f : FlatSheet) (x : Instruction) (d e : Draft) (v : Looped rs a b f) → Appended x d e → NoRoomForRound v.body e → NoRoom f d
round_no_room rs a b f x d e v h w =
    let n = v.size in
    let c = h.counted in
    let r = appended_room x d e h in
    omega arith

-- the jump back finds no room behind the body
pub jump_no_room : (f : FlatSheet) (d e : Draft) → CodeLaid f d e → length (draft_memory e) ≡ length (draft_memory d) → Full e → NoRoomForRound f d
jump_no_room f d e w r h = let c = w.counted in omega arith

-- the whole code

code_length : (p : Sheet) → length (compiled p) ≡ suc (code_size (flat p))
code_length p = let e = length-append (lay 1 (flat p)) (halt ∷ []) in let f = lay-length (flat p) 1 in omega arith

pub coded : (p : Sheet) (d d₁ d₂ d₃ : Draft) → laid d ≡ 0 → CodeLaid (flat p) d d₁ → length (draft_memory d₁) ≡ length (draft_memory d) → Appended halt d₁ d₂ → Cleared d₂ d₃ → Coded p d d₃
coded p d d₁ d₂ d₃ none w r h z =
    let X = lay 1 (flat p) in
    let c = compiled p in
    let m = draft_memory d in
    let n₁ = w.counted in
    let n₂ = h.counted in
    let n₃ = z.counted in
    let room = h.room in
    let r₂ = appended_room halt d₁ d₂ h in
    let lc = code_length p in
    let lX = lay-length (flat p) 1 in
    let m₁ : draft_memory d₁ ≡ overwrite m 0 X = w.filled ∙ ap (λ (k : ℕ). overwrite m k (lay (suc k) (flat p))) none in
    let at : laid d₁ ≡ 0 + length X = omega arith in
    let m₂ : draft_memory d₂ ≡ overwrite m 0 c =
    h.filled ∙ (ap (λ (k : List Instruction). set k (laid d₁) halt) m₁ ∙ (ap (λ (k : ℕ). set (overwrite m 0 X) k halt) at ∙ sym (overwrite_append m 0 X (halt ∷ [])))) in
    let full : laid d₂ ≡ 0 + length c = omega arith in
    let front : laid_code d₂ ≡ c =
    ap (λ (k : ℕ). take k (draft_memory d₂)) full ∙ (ap (take (0 + length c)) m₂ ∙ take-overwrite m 0 c (omega arith)) in
    let rest : length (draft_memory d₂) - laid d₂ ≡ length m - length c = omega arith in
    let m₃ : draft_memory d₃ ≡ c ++ replicate (length m - length c) halt =
    z.filled ∙ (ap (λ (k : List Instruction). k ++ replicate (length (draft_memory d₂) - laid d₂) halt) front ∙ ap (λ (k : ℕ). c ++ replicate k halt) rest) in
    record {
      code = ap (λ (k : List Instruction). take (laid d₃) k) m₃ ∙ take_at c (replicate (length m - length c) halt) (laid d₃) (omega arith);
      filled = m₃;
    }

pub flats_no_room : (p : Sheet) (d : Draft) → laid d ≡ 0 → NoRoom (flat p) d → length (draft_memory d) < length (compiled p)
flats_no_room p d none h = let e = code_length p in omega arith

pub halt_no_room : (p : Sheet) (d e : Draft) → laid d ≡ 0 → CodeLaid (flat p) d e → length (draft_memory e) ≡ length (draft_memory d) → Full e → length (draft_memory d) < length (compiled p)
halt_no_room p d e none w r h = let l = code_length p in let c = w.counted in omega arith
