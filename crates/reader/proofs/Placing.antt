-- The records of parts that stand one behind the other, with their places.
use Rattle.std.proofs.Common.{◌≡◌, ℕ, zero, suc, ◌+◌, List, [], ◌∷◌, ◌++◌, length, sym, refl, ap, ◌∙◌, ap₂, append_assoc, append-nil, add-zero, arith}
use Rattle.reader.specs.declared.types.Placed.{Placed}
use Rattle.reader.specs.declared.types.Kind.TheVariants as kind
use Rattle.reader.specs.declared.types.Statement.{Statement}
use Rattle.reader.specs.Sheet.{Sheet, done, plus, minus, loop, while, then, size}
use Rattle.reader.specs.Symbols.{END, semicolon, PlacedSymbol, placed, symbols, separating, heads_after, heads}
use Rattle.reader.specs.Grammar.{Spells}
use Rattle.reader.specs.Records.{statement_of, records_from, with_places}
use Rattle.reader.proofs.Reaches.{starting}
use Rattle.reader.proofs.Records.{starting_spelled, counted, length-records}

pub symbols_append : (us vs : List PlacedSymbol) → symbols (us ++ vs) ≡ symbols us ++ symbols vs
symbols_append [] vs = refl
symbols_append (u ∷ us) vs = ap (λ l. u.item ∷ l) (symbols_append us vs)

heads_append : (b : ℕ) (us vs : List PlacedSymbol) → heads_after b (us ++ vs) ≡ heads_after b us ++ heads_after (starting b (symbols us)) vs
unfolding starting
heads_append b [] vs = refl
heads_append zero (u ∷ us) vs = heads_append (separating u.item) us vs
heads_append (suc b) (u ∷ us) vs = ap (λ l. u.place ∷ l) (heads_append (separating u.item) us vs)

module _ (us : List PlacedSymbol) (p : Sheet) (s : Spells (symbols us) p) (q : ℕ) where
  pub heads_semicolon : (vs : List PlacedSymbol) → heads (us ++ (placed q semicolon ∷ vs)) ≡ heads us ++ heads vs
  heads_semicolon vs = heads_append 1 us (placed q semicolon ∷ vs) ∙ ap (λ b. heads us ++ heads_after b (placed q semicolon ∷ vs)) (starting_spelled 1 s)

  pub heads_end : heads (us ++ (placed q END ∷ [])) ≡ heads us
  heads_end = heads_append 1 us (placed q END ∷ []) ∙ ap (λ b. heads us ++ heads_after b (placed q END ∷ [])) (starting_spelled 1 s) ∙ append-nil (heads us)

-- the same list behind another, at an index that is the same
further : (xs : List Statement) (m k : ℕ) (q : Sheet) → m ≡ k → xs ++ records_from m q ≡ xs ++ records_from k q
further xs m k q e = ap (λ j. xs ++ records_from j q) e

body_then : (n : ℕ) (b p q : Sheet) → records_from (suc n + size b) (then p q) ≡ records_from (suc n + size b) p ++ records_from (suc n + size b + size p) q
    → records_from (suc n) b ++ records_from (suc n + size b) (then p q) ≡ (records_from (suc n) b ++ records_from (suc n + size b) p) ++ records_from (n + suc (size b + size p)) q
body_then n b p q e =
    ap (λ l. records_from (suc n) b ++ l) (e ∙ further (records_from (suc n + size b) p) (suc n + size b + size p) (n + suc (size b + size p)) q (omega arith))
    ∙ sym (append_assoc (records_from (suc n) b) (records_from (suc n + size b) p) (records_from (n + suc (size b + size p)) q))

pub records-then : (n : ℕ) (p q : Sheet) → records_from n (then p q) ≡ records_from n p ++ records_from (n + size p) q
records-then n done q = ap (λ k. records_from k q) (sym (add-zero n))
records-then n (plus i j c p) q = ap (λ l. statement_of kind.Plus i j c (suc n) ∷ l) (records-then (suc n) p q ∙ further (records_from (suc n) p) (suc n + size p) (n + suc (size p)) q (omega arith))
records-then n (minus i j c p) q = ap (λ l. statement_of kind.Minus i j c (suc n) ∷ l) (records-then (suc n) p q ∙ further (records_from (suc n) p) (suc n + size p) (n + suc (size p)) q (omega arith))
records-then n (loop i b p) q = ap (λ l. statement_of kind.Loop 0 i 0 (suc n + size b) ∷ l) (body_then n b p q (records-then (suc n + size b) p q))
records-then n (while i b p) q = ap (λ l. statement_of kind.While 0 i 0 (suc n + size b) ∷ l) (body_then n b p q (records-then (suc n + size b) p q))

with_places_append : (ps qs : List ℕ) (ss ts : List Statement) → length ps ≡ length ss → with_places (ps ++ qs) (ss ++ ts) ≡ with_places ps ss ++ with_places qs ts
with_places_append [] qs [] ts e = refl
with_places_append [] qs (s ∷ ss) ts e = absurd (omega arith)
with_places_append (p ∷ ps) qs [] ts e = absurd (omega arith)
with_places_append (p ∷ ps) qs (s ∷ ss) ts e = ap (λ l. placed p s ∷ l) (with_places_append ps qs ss ts (omega arith))

length-with_places : (ps : List ℕ) (ss : List Statement) → length ps ≡ length ss → length (with_places ps ss) ≡ length ss
length-with_places [] [] e = refl
length-with_places [] (s ∷ ss) e = absurd (omega arith)
length-with_places (p ∷ ps) [] e = absurd (omega arith)
length-with_places (p ∷ ps) (s ∷ ss) e = ap suc (length-with_places ps ss (omega arith))

-- the records of the symbols us, which spell p, from the index n on
abbrev pub placed_records : ℕ → List PlacedSymbol → Sheet → List (Placed Statement)
placed_records n us p = with_places (heads us) (records_from n p)

module _ (n : ℕ) (us : List PlacedSymbol) (p : Sheet) (s : Spells (symbols us) p) where
  one_each : length (heads us) ≡ length (records_from n p)
  one_each = (counted us p s).0 ∙ sym (length-records n p)

  pub length-placed : length (placed_records n us p) ≡ size p
  length-placed = length-with_places (heads us) (records_from n p) one_each ∙ length-records n p

  pub placed-then : (q : ℕ) (vs : List PlacedSymbol) (r : Sheet) → placed_records n (us ++ (placed q semicolon ∷ vs)) (then p r) ≡ placed_records n us p ++ placed_records (n + size p) vs r
  placed-then q vs r = ap₂ with_places (heads_semicolon us p s q vs) (records-then n p r) ∙ with_places_append (heads us) (heads vs) (records_from n p) (records_from (n + size p) r) one_each
