-- How the parts of a sheet join as they are parsed.
use Rattle.std.proofs.Common.{◌≡◌, ℕ, suc, ◌+◌, ◌<◌, ◌≤◌, List, [], ◌∷◌, ◌++◌, set, None, Ok, Err, Result, sym, refl, ap, ◌∙◌, subst, ap₂, append_assoc, append-nil, arith, Some, Option}
use Rattle.reader.specs.declared.types.Placed.{Placed}
use Rattle.reader.specs.declared.types.Refusal.{Refusal}
use Rattle.reader.specs.declared.types.Kind.{Kind}
use Rattle.reader.specs.declared.types.Kind.TheVariants as kind
use Rattle.reader.specs.declared.types.Statement.{Statement}
use Rattle.reader.specs.Sheet.{Sheet, done, plus, minus, loop, while, then, size}
use Rattle.reader.specs.Symbols.{Symbol, LOOP, WHILE, DO, END, register, assign, unequal, number, semicolon, PlacedSymbol, placed, symbols, heads}
use Rattle.reader.specs.Grammar.{Spells, adds, subtracts, sequence, loops, whiles}
use Rattle.reader.specs.Machine.{Expect, statement, loop_register, while_register, to_next, to_end, to_loop, to_while, to_loop_register, to_loop_do, to_while_register, to_unequal, to_zero, to_while_do, judge}
use Rattle.reader.specs.Records.{statement_of, records_from, with_places}
use Rattle.filing.specs.Tables.{overwrite}
use Rattle.reader.specs.Expecting.{Sign, sign_plus, sign_minus, Assigned, assigned, LoopHeadRead, WhileHeadRead}
use Rattle.std.specs.Prelude.{MatchOption}
use Rattle.std.specs.Option.{ok_or}
use Rattle.reader.specs.declared.level.Level.{Level}
use Rattle.reader.specs.declared.parser.BlockKind.{BlockKind}
use Rattle.reader.specs.declared.parser.BlockKind.TheVariants as block
use Rattle.reader.specs.Lexing.{Between}
use Rattle.reader.specs.Parsing.{Parsed, Opening, opening_loop, opening_while, kind_of, Admitted, admits_loop, admits_while, Head, head_loop, head_while, HeadRead}
use Rattle.reader.proofs.Counts.{fine_number, fine_register, size-then}
use Rattle.reader.proofs.Parts.{judge_plain, judge_begins, went_plus, went_minus}
use Rattle.reader.proofs.Overwriting.{overwrite_append, amended}
use Rattle.reader.proofs.Placing.{symbols_append, heads_end, placed_records, length-placed, placed-then}

-- each block has an opening
pub opens : (b : BlockKind) → (s : Symbol) × (x : Expect) × Opening (kind_of b) s x
opens block.Loop = (LOOP, loop_register, opening_loop)
opens block.While = (WHILE, while_register, opening_while)

-- the level inside a block
module _ (d : ℕ) (o : Option Level) (e : Placed Refusal) (m : MatchOption o (d ≡ 8) (λ l. (d < 8) × (l.depth ≡ d + 1))) where
  pub entered : (l : Level) → Ok l ≡ ok_or o e → (d < 8) × (l.depth ≡ d + 1)
  entered l k = go o m k
    where
      go : (o : Option Level) → MatchOption o (d ≡ 8) (λ l. (d < 8) × (l.depth ≡ d + 1)) → Ok l ≡ ok_or o e → (d < 8) × (l.depth ≡ d + 1)
      go None m k = let z : ◌≡◌ {A = ℕ} 0 1 = cc in absurd (omega arith)
      go (Some i) m k = let same : i ≡ l = cc in subst (λ (l : Level). (d < 8) × (l.depth ≡ d + 1)) same m

  pub not_entered : (f : Placed Refusal) → ◌≡◌ {A = Result Level (Placed Refusal)} (Err f) (ok_or o e) → (d ≡ 8) × (f ≡ e)
  not_entered f k = go o m k
    where
      go : (o : Option Level) → MatchOption o (d ≡ 8) (λ l. (d < 8) × (l.depth ≡ d + 1)) → ◌≡◌ {A = Result Level (Placed Refusal)} (Err f) (ok_or o e) → (d ≡ 8) × (f ≡ e)
      go None m k = (m, cc)
      go (Some i) m k = let z : ◌≡◌ {A = ℕ} 0 1 = cc in absurd (omega arith)

loop_expects : {k : Kind} {s : Symbol} {x : Expect} → k ≡ kind.Loop → Opening k s x → x ≡ loop_register
loop_expects e opening_loop = refl
loop_expects e opening_while = absurd (let z : ◌≡◌ {A = ℕ} 0 1 = cc in omega arith)

while_expects : {k : Kind} {s : Symbol} {x : Expect} → k ≡ kind.While → Opening k s x → x ≡ while_register
while_expects e opening_loop = absurd (let z : ◌≡◌ {A = ℕ} 0 1 = cc in omega arith)
while_expects e opening_while = refl

module _ (k : Kind) where
  pub loop_head : k ≡ kind.Loop → (text : List ℕ) (from : ℕ) (r : Result ℕ (Placed Refusal)) (to : ℕ) (s : Symbol) (x : Expect) → Opening k s x → LoopHeadRead text from r to → HeadRead x k text from r to
  loop_head e text from (Ok i) to s x o h =
      let hs : List PlacedSymbol = placed h.0 (register i) ∷ placed h.1 DO ∷ [] in
      (hs, h.2, subst (λ (k : Kind). Head k i hs) (sym e) head_loop, h.3)
  loop_head e text from (Err f) to s x o h = rw (loop_expects e o) h

  pub while_head : k ≡ kind.While → (text : List ℕ) (from : ℕ) (r : Result ℕ (Placed Refusal)) (to : ℕ) (s : Symbol) (x : Expect) → Opening k s x → WhileHeadRead text from r to → HeadRead x k text from r to
  while_head e text from (Ok i) to s x o h =
      let hs : List PlacedSymbol = placed h.0 (register i) ∷ placed h.1 unequal ∷ placed h.2 (number 0) ∷ placed h.3 DO ∷ [] in
      (hs, h.4, subst (λ (k : Kind). Head k i hs) (sym e) head_while, h.5)
  while_head e text from (Err f) to s x o h = rw (while_expects e o) h

-- an assignment
pub parsed_assignment : {p₂ p₃ p₄ p₅ j c : ℕ} {k : Kind} {s : Symbol} (end level n m p₁ i : ℕ) (before after : List (Placed Statement)) → n < 256 → i ≤ 31 → Sign k s → j ≤ 31 → c ≤ 999999
    → after ≡ set before n (placed p₁ (statement_of k i j c (suc n))) → Parsed end level n m before (placed p₁ (register i) ∷ placed p₂ assign ∷ placed p₃ (register j) ∷ placed p₄ s ∷ placed p₅ (number c) ∷ []) (suc n) m after
parsed_assignment {p₂} {p₃} {p₄} {p₅} {j} {c} end level n m p₁ i before after hn hi sign_plus hj hc e = record {
  sheet = plus i j c done;
  last = n;
  spells = adds;
  began = refl;
  grown = omega arith;
  judged = λ zs. (went_plus end level n m p₁ p₂ p₃ p₄ p₅ i j c zs hn hi hj hc).judged;
  filed = e;
}
parsed_assignment {p₂} {p₃} {p₄} {p₅} {j} {c} end level n m p₁ i before after hn hi sign_minus hj hc e = record {
  sheet = minus i j c done;
  last = n;
  spells = subtracts;
  began = refl;
  grown = omega arith;
  judged = λ zs. (went_minus end level n m p₁ p₂ p₃ p₄ p₅ i j c zs hn hi hj hc).judged;
  filed = e;
}

-- p; q
pub parsed_then : {end level n m n₁ m₁ n₂ m₂ : ℕ} {before mid after : List (Placed Statement)} (us vs : List PlacedSymbol) (q : ℕ) → Parsed end level n m before us n₁ m₁ mid → Parsed end level n₁ m₁ mid vs n₂ m₂ after
    → Parsed end level n m before (us ++ (placed q semicolon ∷ vs)) n₂ m₂ after
parsed_then {end} {level} {n} {m} {n₁} {m₁} {n₂} {m₂} {before} {mid} {after} us vs q a b = record {
  sheet = then a.sheet b.sheet;
  last = b.last;
  spells = subst (λ (l : List Symbol). Spells l (then a.sheet b.sheet)) (sym (symbols_append us (placed q semicolon ∷ vs))) (sequence a.spells b.spells);
  began = b.began;
  grown = omega (arith, b.grown, a.grown, size-then a.sheet b.sheet);
  judged = λ zs. ap (judge end statement level n m) (append_assoc us (placed q semicolon ∷ vs) zs)
      ∙ (a.judged (placed q semicolon ∷ (vs ++ zs))
      ∙ (judge_plain end a.last m₁ (placed q semicolon) (vs ++ zs) to_next (λ k f. elim f [ ]) (λ o. elim o [ ]) (λ h. elim h [ ]) n₁ (omega (arith, a.began)) (omega arith)
      ∙ b.judged zs));
  filed =
      b.filed
      ∙ (ap (λ l. overwrite l n₁ (placed_records n₁ vs b.sheet)) a.filed
      ∙ (at_index (overwrite before n (placed_records n us a.sheet)) vs b.sheet n₁ (n + size a.sheet) a.grown
      ∙ (ap (λ k. overwrite (overwrite before n (placed_records n us a.sheet)) (n + k) (placed_records (n + size a.sheet) vs b.sheet)) (sym (length-placed n us a.sheet a.spells))
      ∙ (sym (overwrite_append before n (placed_records n us a.sheet) (placed_records (n + size a.sheet) vs b.sheet))
      ∙ ap (overwrite before n) (sym (placed-then n us a.sheet a.spells q vs b.sheet))))));
}
  where
    at_index : (l : List (Placed Statement)) (vs : List PlacedSymbol) (p : Sheet) (i j : ℕ) → i ≡ j → overwrite l i (placed_records i vs p) ≡ overwrite l j (placed_records j vs p)
    at_index l vs p i j e = ap (λ k. overwrite l k (placed_records k vs p)) e

-- the word of a LOOP or WHILE, and its head
module _ (end level n m place : ℕ) where
  pub opened_word : {k : Kind} {s : Symbol} {x : Expect} {m' : ℕ} → Opening k s x → Admitted level n m k None m' → (zs : List PlacedSymbol) → judge end statement level n m (placed place s ∷ zs) ≡ judge end x (suc level) n m' zs
  opened_word opening_loop (admits_loop hl hn hm) zs = judge_begins end n m (placed place LOOP) zs to_loop (λ k f. elim f [ ]) (λ o. hl) hn (suc m) (λ l. hm) (omega arith) (omega arith)
  opened_word opening_while (admits_while hl hn) zs = judge_begins end n m (placed place WHILE) zs to_while (λ k f. elim f [ ]) (λ o. hl) hn m (λ l. elim l [ ]) (omega arith) (omega arith)

  heads_on : {k : Kind} {s : Symbol} {x : Expect} {i : ℕ} {hs : List PlacedSymbol} (d m : ℕ) → Opening k s x → Head k i hs → i ≤ 31 → (zs : List PlacedSymbol) → judge end x d n m (hs ++ zs) ≡ judge end statement d (suc n) m zs
  heads_on {i = i} d m opening_loop (head_loop {p₂} {p₃}) hi zs =
      judge_plain end n m (placed p₂ (register i)) _ to_loop_register (fine_register i hi) (λ o. elim o [ ]) (λ h. elim h [ ]) n (omega arith) (omega arith)
      ∙ judge_plain end n m (placed p₃ DO) zs to_loop_do (λ k f. elim f [ ]) (λ o. elim o [ ]) (λ h. elim h [ ]) (suc n) (omega arith) (omega arith)
  heads_on {i = i} d m opening_while (head_while {p₂} {p₃} {p₄} {p₅}) hi zs =
      judge_plain end n m (placed p₂ (register i)) _ to_while_register (fine_register i hi) (λ o. elim o [ ]) (λ h. elim h [ ]) n (omega arith) (omega arith)
      ∙ judge_plain end n m (placed p₃ unequal) _ to_unequal (λ k f. elim f [ ]) (λ o. elim o [ ]) (λ h. elim h [ ]) n (omega arith) (omega arith)
      ∙ judge_plain end n m (placed p₄ (number 0)) _ to_zero (fine_number 0 (omega arith)) (λ o. elim o [ ]) (λ h. elim h [ ]) n (omega arith) (omega arith)
      ∙ judge_plain end n m (placed p₅ DO) zs to_while_do (λ k f. elim f [ ]) (λ o. elim o [ ]) (λ h. elim h [ ]) (suc n) (omega arith) (omega arith)

  pub opened : {k : Kind} {s : Symbol} {x : Expect} {m' i : ℕ} {hs : List PlacedSymbol} → Opening k s x → Admitted level n m k None m' → Head k i hs → i ≤ 31 → (zs : List PlacedSymbol)
      → judge end statement level n m (placed place s ∷ (hs ++ zs)) ≡ judge end statement (suc level) (suc n) m' zs
  opened {m' = m'} {hs = hs} o a h hi zs = opened_word o a (hs ++ zs) ∙ heads_on (suc level) m' o h hi zs

abbrev block_of : {k : Kind} {s : Symbol} {x : Expect} → Opening k s x → ℕ → Sheet → Sheet
block_of opening_loop i b = loop i b done
block_of opening_while i b = while i b done

block_spelled : {k : Kind} {s : Symbol} {x : Expect} {i : ℕ} {hs : List PlacedSymbol} {xs : List Symbol} {b : Sheet} (o : Opening k s x) → Head k i hs → Spells xs b → Spells (s ∷ (symbols hs ++ (xs ++ (END ∷ [])))) (block_of o i b)
block_spelled opening_loop head_loop h = loops h
block_spelled opening_while head_while h = whiles h

block_size : {k : Kind} {s : Symbol} {x : Expect} (o : Opening k s x) (i : ℕ) (b : Sheet) → size (block_of o i b) ≡ suc (size b)
block_size opening_loop i b = omega arith
block_size opening_while i b = omega arith

block_records : {k : Kind} {s : Symbol} {x : Expect} (o : Opening k s x) (n i : ℕ) (b : Sheet) → records_from n (block_of o i b) ≡ statement_of k 0 i 0 (suc n + size b) ∷ records_from (suc n) b
block_records opening_loop n i b = ap (λ l. statement_of kind.Loop 0 i 0 (suc n + size b) ∷ l) (append-nil (records_from (suc n) b))
block_records opening_while n i b = ap (λ l. statement_of kind.While 0 i 0 (suc n + size b) ∷ l) (append-nil (records_from (suc n) b))

block_heads : {k : Kind} {s : Symbol} {x : Expect} {i : ℕ} {hs : List PlacedSymbol} → Opening k s x → Head k i hs → (place : ℕ) (vs : List PlacedSymbol) → heads (placed place s ∷ (hs ++ vs)) ≡ place ∷ heads vs
block_heads opening_loop head_loop place vs = refl
block_heads opening_while head_while place vs = refl

-- LOOP xi DO b END, or WHILE xi != 0 DO b END
module _ {end level n m m₁ n₂ m₂ i : ℕ} {k : Kind} {s : Symbol} {x : Expect} {first mid : List (Placed Statement)} (before after : List (Placed Statement)) (place q : ℕ) (z : Placed Statement) (hs us : List PlacedSymbol)
    (o : Opening k s x) (a : Admitted level n m k None m₁) (h : Head k i hs) (hi : i ≤ 31) (b : Parsed end (suc level) (suc n) m₁ first us n₂ m₂ mid) where
  block_symbols : symbols (placed place s ∷ (hs ++ (us ++ (placed q END ∷ [])))) ≡ s ∷ (symbols hs ++ (symbols us ++ (END ∷ [])))
  block_symbols = ap (λ l. s ∷ l) (symbols_append hs (us ++ (placed q END ∷ [])) ∙ ap (λ l. symbols hs ++ l) (symbols_append us (placed q END ∷ [])))

  block_filed : first ≡ set before n z → after ≡ set mid n (placed place (statement_of k 0 i 0 n₂)) → after ≡ overwrite before n (with_places (heads (placed place s ∷ (hs ++ (us ++ (placed q END ∷ []))))) (records_from n (block_of o i b.sheet)))
  block_filed e f =
      let y = placed place (statement_of k 0 i 0 n₂) in
      let rs = placed_records (suc n) us b.sheet in
      f
      ∙ (ap (λ l. set l n y) (b.filed ∙ ap (λ l. overwrite l (suc n) rs) e)
      ∙ (amended before n z y rs
      ∙ ap (overwrite before n) (sym (ap₂ with_places (block_heads o h place (us ++ (placed q END ∷ [])) ∙ ap (λ l. place ∷ l) (heads_end us b.sheet b.spells q)) (block_records o n i b.sheet)
      ∙ ap (λ e. placed place (statement_of k 0 i 0 e) ∷ rs) (sym b.grown)))))

  pub parsed_block : first ≡ set before n z → after ≡ set mid n (placed place (statement_of k 0 i 0 n₂)) → Parsed end level n m before (placed place s ∷ (hs ++ (us ++ (placed q END ∷ [])))) n₂ m₂ after
  parsed_block e f = record {
    sheet = block_of o i b.sheet;
    last = b.last;
    spells = subst (λ (l : List Symbol). Spells l (block_of o i b.sheet)) (sym block_symbols) (block_spelled o h b.spells);
    began = b.began;
    grown = omega (arith, b.grown, block_size o i b.sheet);
    judged = λ zs. ap (λ l. judge end statement level n m (placed place s ∷ l)) (append_assoc hs (us ++ (placed q END ∷ [])) zs ∙ ap (λ l. hs ++ l) (append_assoc us (placed q END ∷ []) zs))
        ∙ (opened end level n m place o a h hi (us ++ (placed q END ∷ zs))
        ∙ (b.judged (placed q END ∷ zs)
        ∙ judge_plain end b.last m₂ (placed q END) zs to_end (λ k f. elim f [ ]) (λ o. elim o [ ]) (λ h. elim h [ ]) b.last (omega arith) (omega arith)));
    filed = block_filed e f;
  }

-- the statements of a body that were parsed so far, each with its semicolon
pub record Joined (end level n₀ m₀ : ℕ) (before : List (Placed Statement)) (us : List PlacedSymbol) (n m : ℕ) (now : List (Placed Statement)) : Type 0 where
  pub judged : (zs : List PlacedSymbol) → judge end statement level n₀ m₀ (us ++ zs) ≡ judge end statement level n m zs
  pub join : (vs : List PlacedSymbol) (n' m' : ℕ) (after : List (Placed Statement)) → Parsed end level n m now vs n' m' after → Parsed end level n₀ m₀ before (us ++ vs) n' m' after

pub joined_more : {end level n₀ m₀ n m n₁ m₁ : ℕ} {before now after : List (Placed Statement)} (us vs : List PlacedSymbol) (q : ℕ) → Joined end level n₀ m₀ before us n m now → Parsed end level n m now vs n₁ m₁ after
    → Joined end level n₀ m₀ before (us ++ (vs ++ (placed q semicolon ∷ []))) n₁ m₁ after
joined_more {end} {level} {n₀} {m₀} {n} {m} {n₁} {m₁} {before} us vs q j p = record {
  judged = λ zs. ap (judge end statement level n₀ m₀) (regroup zs)
      ∙ (j.judged (vs ++ (placed q semicolon ∷ zs))
      ∙ (p.judged (placed q semicolon ∷ zs)
      ∙ judge_plain end p.last m₁ (placed q semicolon) zs to_next (λ k f. elim f [ ]) (λ o. elim o [ ]) (λ h. elim h [ ]) n₁ (omega (arith, p.began)) (omega arith)));
  join = λ ws n' m' after r. subst (λ l. Parsed end level n₀ m₀ before l n' m' after) (sym (regroup ws)) (j.join (vs ++ (placed q semicolon ∷ ws)) n' m' after (parsed_then vs ws q p r));
}
  where
    regroup : (zs : List PlacedSymbol) → (us ++ (vs ++ (placed q semicolon ∷ []))) ++ zs ≡ us ++ (vs ++ (placed q semicolon ∷ zs))
    regroup zs = append_assoc us (vs ++ (placed q semicolon ∷ [])) zs ∙ ap (λ l. us ++ l) (append_assoc vs (placed q semicolon ∷ []) zs)

pub assignment_read : {text : List ℕ} {from to i stop : ℕ} {item : Statement} (end level n m p₁ n₁ m₁ to' : ℕ) (before after : List (Placed Statement)) → n < 256 → i ≤ 31 → stop ≡ suc n → Assigned text from to i stop item
    → after ≡ set before n (placed p₁ item) → n₁ ≡ suc n → m₁ ≡ m → to' ≡ to → (vs : List PlacedSymbol) × Between text from to' vs × Parsed end level n m before (placed p₁ (register i) ∷ vs) n₁ m₁ after
assignment_read {text} {from} {i = i} end level n m p₁ n₁ m₁ to' before after hn hi es (assigned {p₂} {p₃} {p₄} {p₅} {j} {c} {k} {s} g hj hc b) e a d t =
    let vs : List PlacedSymbol = placed p₂ assign ∷ placed p₃ (register j) ∷ placed p₄ s ∷ placed p₅ (number c) ∷ [] in
    let e' : after ≡ set before n (placed p₁ (statement_of k i j c (suc n))) = e ∙ ap (λ x. set before n (placed p₁ (statement_of k i j c x))) es in (
      vs,
      subst (λ q. Between text from q vs) (sym t) b,
      subst (λ q. Parsed end level n m before (placed p₁ (register i) ∷ vs) q m₁ after) (sym a)
          (subst (λ q. Parsed end level n m before (placed p₁ (register i) ∷ vs) (suc n) q after) (sym d) (parsed_assignment end level n m p₁ i before after hn hi g hj hc e')),
    )
