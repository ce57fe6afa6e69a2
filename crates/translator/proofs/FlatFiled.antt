-- Filing the flat statements of a sheet.
use Rattle.std.proofs.Common.{◌≡◌, ℕ, zero, suc, ◌+◌, ◌-◌, ◌<◌, ◌≤◌, List, [], ◌∷◌, ◌++◌, length, get_or, take, drop, set, replicate, sym, refl, ap, ◌∙◌, subst, arith, length-drop, length-set, length-take}
use mathlib.Core.Option.{some}
use lib.ListN.{get_elem?}
use Rattle.reader.specs.Sheet.{Sheet, done, plus, minus, loop, while, size, loops}
use Rattle.filing.specs.declared.table.Table.{Table}
use Rattle.reader.specs.declared.types.Placed.{Placed}
use Rattle.reader.specs.declared.types.Kind.{Kind}
use Rattle.reader.specs.declared.types.Kind.TheVariants as kind
use Rattle.reader.specs.declared.types.Statement.{Statement}
use Rattle.reader.specs.Symbols.{placed}
use Rattle.reader.specs.Records.{statement_of, records_from, with_places, zero_record}
use Rattle.filing.specs.Tables.{memory, count, overwrite}
use Rattle.translator.specs.declared.types.Role.TheVariants as role
use Rattle.translator.specs.declared.types.Flat.{Flat}
use Rattle.translator.specs.Counters.{counters_end}
use Rattle.translator.specs.Translation.{flat_from, flat, flat_size, placed_flats, flat_records_from, flat_places, flats_with_places}
use Rattle.translator.specs.Laying.{Stands}
use Rattle.translator.specs.Flattening.{RecordSpan, flatted, flat_of, OneFiled, FlatsFiled, FlatsLeft, StatementFlat, FlatsOver, LoopOpened, Flattened, zero_placed_flat}
use Rattle.reader.proofs.Overwriting.{overwrite_append}
use Rattle.reader.proofs.Records.{length-records}
use Rattle.translator.proofs.Overwriting.{replaced, take-overwrite}
use Rattle.translator.proofs.Filing.{elem_below, elem_is}
use Rattle.translator.proofs.CodeLaid.{stands_split}
use Rattle.translator.proofs.Sizes.{flat_size-flat_from, records-length, places_length}

-- the record at index a, and where it ends
abbrev pub record_at : List (Placed Statement) → ℕ → Placed Statement
record_at rs a = get_or rs a zero_record

abbrev pub end_at : List (Placed Statement) → ℕ → ℕ
end_at rs a = (record_at rs a).item.end

-- lists with places

pub places_length_more : (xs : List ℕ) (ss : List Statement) → length xs ≡ length ss → length (with_places xs ss) ≡ length ss
places_length_more [] [] h = refl
places_length_more [] (s ∷ ss) h = absurd (omega arith)
places_length_more (x ∷ xs) [] h = refl
places_length_more (x ∷ xs) (s ∷ ss) h = ap suc (places_length_more xs ss (omega arith))

places_split : (xs : List ℕ) (n : ℕ) (ss us : List Statement) → length ss ≡ n → n ≤ length xs → with_places xs (ss ++ us) ≡ with_places (take n xs) ss ++ with_places (drop n xs) us
places_split xs zero [] us e h = refl
places_split xs zero (s ∷ ss) us e h = absurd (omega arith)
places_split xs (suc n) [] us e h = absurd (omega arith)
places_split [] (suc n) (s ∷ ss) us e h = absurd (omega arith)
places_split (x ∷ xs) (suc n) (s ∷ ss) us e h = ap (λ (r : List (Placed Statement)). placed x s ∷ r) (places_split xs n ss us (omega arith) (omega arith))

flats_append : (xs ys : List ℕ) (fs gs : List Flat) → length xs ≡ length fs → flats_with_places (xs ++ ys) (fs ++ gs) ≡ flats_with_places xs fs ++ flats_with_places ys gs
flats_append [] ys [] gs h = refl
flats_append [] ys (f ∷ fs) gs h = absurd (omega arith)
flats_append (x ∷ xs) ys [] gs h = absurd (omega arith)
flats_append (x ∷ xs) ys (f ∷ fs) gs h = ap (λ (r : List (Placed Flat)). placed x f ∷ r) (flats_append xs ys fs gs (omega arith))

flats_long : (xs : List ℕ) (fs : List Flat) → length xs ≡ length fs → length (flats_with_places xs fs) ≡ length fs
flats_long [] [] h = refl
flats_long [] (f ∷ fs) h = absurd (omega arith)
flats_long (x ∷ xs) [] h = refl
flats_long (x ∷ xs) (f ∷ fs) h = ap suc (flats_long xs fs (omega arith))

pub same_long : (n c : ℕ) (p : Sheet) (xs : List ℕ) → length xs ≡ size p → length (flat_places p xs) ≡ length (flat_records_from n (flat_from c p))
same_long n c p xs h =
    let a = places_length p xs h in
    let b = records-length (flat_from c p) n in
    let d = flat_size-flat_from p c in
    omega arith

pub flatted_long : (n c : ℕ) (p : Sheet) (xs : List ℕ) → length xs ≡ size p → length (flatted n c p xs) ≡ flat_size (flat_from c p)
flatted_long n c p xs h = flats_long (flat_places p xs) (flat_records_from n (flat_from c p)) (same_long n c p xs h) ∙ records-length (flat_from c p) n

-- spans

pub record_at_found : (rs : List (Placed Statement)) (a : ℕ) (x : Placed Statement) → get_elem? rs a ≡ some x → record_at rs a ≡ x
record_at_found rs a x e = elem_is rs a x zero_record e

-- an assignment stands at a
pub record Assigns (rs : List (Placed Statement)) (a b : ℕ) (p : Sheet) (xs : List ℕ) : Type 0 where
  pub rest : Sheet
  pub places : List ℕ
  pub more : a < end_at rs a
  pub span : RecordSpan rs (end_at rs a) b rest places
  pub counters : loops p ≡ loops rest
  pub count : (c : ℕ) → flat_size (flat_from c p) ≡ suc (flat_size (flat_from c rest))
  pub flats : (n c : ℕ)
      → flatted n c p xs
      ≡ placed (record_at rs a).place
      (flat_of (statement_of (record_at rs a).item.kind (record_at rs a).item.target (record_at rs a).item.source (record_at rs a).item.constant (suc n)) role.Written)
      ∷ flatted (suc n) c rest places

-- a LOOP or a WHILE stands at a: its body and the rest
pub record Nested (rs : List (Placed Statement)) (a b : ℕ) (body : Sheet) (ys : List ℕ) (rest : Sheet) (zs : List ℕ) : Type 0 where
  pub more : a < end_at rs a
  pub inner : RecordSpan rs (a + 1) (end_at rs a) body ys
  pub span : RecordSpan rs (end_at rs a) b rest zs

pub record Loops (rs : List (Placed Statement)) (a b : ℕ) (p : Sheet) (xs : List ℕ) : Type 0 where
  pub body : Sheet
  pub inside : List ℕ
  pub rest : Sheet
  pub places : List ℕ
  pub nested : Nested rs a b body inside rest places
  pub counters : loops p ≡ suc (loops body + loops rest)
  pub count : (c : ℕ) → flat_size (flat_from c p) ≡ suc (suc (suc (flat_size (flat_from (suc c) body)) + flat_size (flat_from (suc c + loops body) rest)))
  pub flats : (n c : ℕ)
      → flatted n c p xs
      ≡ placed (record_at rs a).place (flat_of (statement_of kind.Plus c (record_at rs a).item.source 0 (suc n)) role.Entry)
      ∷ placed (record_at rs a).place (flat_of (statement_of kind.While 0 c 0 (suc (suc n) + suc (flat_size (flat_from (suc c) body)))) role.Test)
      ∷ placed (record_at rs a).place (flat_of (statement_of kind.Minus c c 1 (suc (suc (suc n)))) role.Down)
      ∷ (flatted (suc (suc (suc n))) (suc c) body inside ++ flatted (suc (suc n) + suc (flat_size (flat_from (suc c) body))) (suc c + loops body) rest places)

pub record Whiles (rs : List (Placed Statement)) (a b : ℕ) (p : Sheet) (xs : List ℕ) : Type 0 where
  pub body : Sheet
  pub inside : List ℕ
  pub rest : Sheet
  pub places : List ℕ
  pub nested : Nested rs a b body inside rest places
  pub counters : loops p ≡ loops body + loops rest
  pub count : (c : ℕ) → flat_size (flat_from c p) ≡ suc (flat_size (flat_from c body) + flat_size (flat_from (c + loops body) rest))
  pub flats : (n c : ℕ)
      → flatted n c p xs
      ≡ placed (record_at rs a).place (flat_of (statement_of kind.While 0 (record_at rs a).item.source 0 (suc n + flat_size (flat_from c body))) role.Written)
      ∷ (flatted (suc n) c body inside ++ flatted (suc n + flat_size (flat_from c body)) (c + loops body) rest places)

nested : (rs : List (Placed Statement)) (a b x : ℕ) (s : Statement) (body rest : Sheet) (xs : List ℕ) → s.end ≡ suc a + size body → b ≡ suc a + size body + size rest
    → length xs ≡ size body + size rest → get_elem? rs a ≡ some (placed x s) → Stands rs (suc a) (with_places xs (records_from (suc a) body ++ records_from (suc a + size body) rest))
    → Nested rs a b body (take (size body) xs) rest (drop (size body) xs)
nested rs a b x s body rest xs e hb hx g h =
    let n : end_at rs a ≡ suc a + size body = ap (λ (y : Placed Statement). y.item.end) (record_at_found rs a (placed x s) g) ∙ e in
    let lt = length-take (size body) xs in
    let ld = length-drop (size body) xs in
    let lr = length-records (suc a) body in
    let split = places_split xs (size body) (records_from (suc a) body) (records_from (suc a + size body) rest) lr (omega arith) in
    let long = places_length_more (take (size body) xs) (records_from (suc a) body) (omega arith) in
    let cut = stands_split rs (suc a) (with_places (take (size body) xs) (records_from (suc a) body)) (with_places (drop (size body) xs) (records_from (suc a + size body) rest))
    (subst (Stands rs (suc a)) split h) in
    let from : suc a ≡ a + 1 = omega arith in
    let at : suc a + length (with_places (take (size body) xs) (records_from (suc a) body)) ≡ suc a + size body = omega arith in
    let out : RecordSpan rs (suc a + size body) b rest (drop (size body) xs) = record {
      ends = omega arith;
      listed = omega arith;
      stand = subst (λ (z : ℕ). Stands rs z (with_places (drop (size body) xs) (records_from (suc a + size body) rest))) at cut.1;
    } in
    let within : RecordSpan rs (suc a) (end_at rs a) body (take (size body) xs) = record { ends = n; listed = omega arith; stand = cut.0 } in
    record {
      more = omega arith;
      inner = subst (λ (z : ℕ). RecordSpan rs z (end_at rs a) body (take (size body) xs)) from within;
      span = subst (λ (z : ℕ). RecordSpan rs z b rest (drop (size body) xs)) (sym n) out;
    }

-- what stands at a, by the first statement of the sheet
unfoldable head : ℕ → Sheet → Statement
head a done = statement_of kind.Zero 0 0 0 0
head a (plus i j c p) = statement_of kind.Plus i j c (suc a)
head a (minus i j c p) = statement_of kind.Minus i j c (suc a)
head a (loop i b p) = statement_of kind.Loop 0 i 0 (suc a + size b)
head a (while i b p) = statement_of kind.While 0 i 0 (suc a + size b)

head_at : (rs : List (Placed Statement)) (a b : ℕ) (p : Sheet) (xs : List ℕ) → RecordSpan rs a b p xs → a < b → (x : ℕ) × (get_elem? rs a ≡ some (placed x (head a p)))
unfolding head
head_at rs a b done xs s l = let e = s.ends in absurd (omega arith)
head_at rs a b (plus i j c p) [] s l = let e = s.listed in absurd (omega arith)
head_at rs a b (plus i j c p) (x ∷ xs) s l = (x, s.stand.0)
head_at rs a b (minus i j c p) [] s l = let e = s.listed in absurd (omega arith)
head_at rs a b (minus i j c p) (x ∷ xs) s l = (x, s.stand.0)
head_at rs a b (loop i q p) [] s l = let e = s.listed in absurd (omega arith)
head_at rs a b (loop i q p) (x ∷ xs) s l = (x, s.stand.0)
head_at rs a b (while i q p) [] s l = let e = s.listed in absurd (omega arith)
head_at rs a b (while i q p) (x ∷ xs) s l = (x, s.stand.0)

pub span_below : (rs : List (Placed Statement)) (a b : ℕ) (p : Sheet) (xs : List ℕ) → RecordSpan rs a b p xs → a < b → a < length rs
span_below rs a b p xs s l = let h = head_at rs a b p xs s l in elem_below rs a (placed h.0 (head a p)) h.1

kind_at : (rs : List (Placed Statement)) (a b : ℕ) (p : Sheet) (xs : List ℕ) → RecordSpan rs a b p xs → a < b → (record_at rs a).item.kind ≡ (head a p).kind
kind_at rs a b p xs s l = let h = head_at rs a b p xs s l in ap (λ (y : Placed Statement). y.item.kind) (record_at_found rs a (placed h.0 (head a p)) h.1)

end_is : (rs : List (Placed Statement)) (a b : ℕ) (p : Sheet) (xs : List ℕ) → RecordSpan rs a b p xs → a < b → end_at rs a ≡ (head a p).end
end_is rs a b p xs s l = let h = head_at rs a b p xs s l in ap (λ (y : Placed Statement). y.item.end) (record_at_found rs a (placed h.0 (head a p)) h.1)

end_low : (a b : ℕ) (p : Sheet) → b ≡ a + size p → a < b → (head a p).end ≤ b
unfolding head
end_low a b done e l = absurd (omega arith)
end_low a b (plus i j c p) e l = omega arith
end_low a b (minus i j c p) e l = omega arith
end_low a b (loop i q p) e l = omega arith
end_low a b (while i q p) e l = omega arith

pub end_within : (rs : List (Placed Statement)) (a b : ℕ) (p : Sheet) (xs : List ℕ) → RecordSpan rs a b p xs → a < b → end_at rs a ≤ b
end_within rs a b p xs s l = let e = end_is rs a b p xs s l in let h = end_low a b p s.ends l in omega arith

apart : (k h g : Kind) → k ≡ h → k ≡ g → h ≡ g
apart k h g a b = cc

loop_while : kind.Loop ≡ kind.While → ⊥
loop_while e = let z : ◌≡◌ {A = ℕ} 0 1 = cc in omega arith

loop_plus : kind.Loop ≡ kind.Plus → ⊥
loop_plus e = let z : ◌≡◌ {A = ℕ} 0 1 = cc in omega arith

loop_minus : kind.Loop ≡ kind.Minus → ⊥
loop_minus e = let z : ◌≡◌ {A = ℕ} 0 1 = cc in omega arith

while_plus : kind.While ≡ kind.Plus → ⊥
while_plus e = let z : ◌≡◌ {A = ℕ} 0 1 = cc in omega arith

while_minus : kind.While ≡ kind.Minus → ⊥
while_minus e = let z : ◌≡◌ {A = ℕ} 0 1 = cc in omega arith

assigned-at : (rs : List (Placed Statement)) (a b x : ℕ) (k : Kind) (i j c : ℕ) (q p : Sheet) (xs : List ℕ)
    → get_elem? rs a ≡ some (placed x (statement_of k i j c (suc a))) → Stands rs (suc a) (with_places xs (records_from (suc a) p)) → b ≡ a + suc (size p) → length xs ≡ size p → loops q ≡ loops p
    → ((m : ℕ) → flat_size (flat_from m q) ≡ suc (flat_size (flat_from m p)))
    → ((n m : ℕ) → flatted n m q (x ∷ xs) ≡ placed x (flat_of (statement_of k i j c (suc n)) role.Written) ∷ flatted (suc n) m p xs) → Assigns rs a b q (x ∷ xs)
assigned-at rs a b x k i j c q p xs g h e l o w f =
    let y = placed x (statement_of k i j c (suc a)) in
    let r = record_at_found rs a y g in
    let n : end_at rs a ≡ suc a = ap (λ (z : Placed Statement). z.item.end) r in
    record {
      rest = p;
      places = xs;
      more = omega arith;
      span = subst (λ (z : ℕ). RecordSpan rs z b p xs) (sym n) (record { ends = omega arith; listed = l; stand = h });
      counters = o;
      count = w;
      flats = λ n m.
          f n m
          ∙ ap (λ (z : Placed Statement).
          placed z.place (flat_of (statement_of z.item.kind z.item.target z.item.source z.item.constant (suc n)) role.Written) ∷ flatted (suc n) m p xs) (sym r);
    }

pub assigns : (rs : List (Placed Statement)) (a b : ℕ) (p : Sheet) (xs : List ℕ) → ((record_at rs a).item.kind ≡ kind.Loop → ⊥) → ((record_at rs a).item.kind ≡ kind.While → ⊥)
    → RecordSpan rs a b p xs → a < b → Assigns rs a b p xs
unfolding head
assigns rs a b done xs nl nw s l = let e = s.ends in absurd (omega arith)
assigns rs a b (plus i j c p) [] nl nw s l = let e = s.listed in absurd (omega arith)
assigns rs a b (plus i j c p) (x ∷ xs) nl nw s l =
    let e = s.listed in
    assigned-at rs a b x kind.Plus i j c (plus i j c p) p xs s.stand.0 s.stand.1 s.ends (omega arith) refl (λ m. refl) (λ n m. refl)
assigns rs a b (minus i j c p) [] nl nw s l = let e = s.listed in absurd (omega arith)
assigns rs a b (minus i j c p) (x ∷ xs) nl nw s l =
    let e = s.listed in
    assigned-at rs a b x kind.Minus i j c (minus i j c p) p xs s.stand.0 s.stand.1 s.ends (omega arith) refl (λ m. refl) (λ n m. refl)
assigns rs a b (loop i q p) xs nl nw s l = absurd (nl (kind_at rs a b (loop i q p) xs s l))
assigns rs a b (while i q p) xs nl nw s l = absurd (nw (kind_at rs a b (while i q p) xs s l))

pub loops-at : (rs : List (Placed Statement)) (a b : ℕ) (p : Sheet) (xs : List ℕ) → (record_at rs a).item.kind ≡ kind.Loop → RecordSpan rs a b p xs → a < b → Loops rs a b p xs
unfolding head
loops-at rs a b done xs k s l = let e = s.ends in absurd (omega arith)
loops-at rs a b (plus i j c p) xs k s l = absurd (loop_plus (apart (record_at rs a).item.kind kind.Loop kind.Plus k (kind_at rs a b (plus i j c p) xs s l)))
loops-at rs a b (minus i j c p) xs k s l = absurd (loop_minus (apart (record_at rs a).item.kind kind.Loop kind.Minus k (kind_at rs a b (minus i j c p) xs s l)))
loops-at rs a b (loop i q p) [] k s l = let e = s.listed in absurd (omega arith)
loops-at rs a b (loop i q p) (x ∷ xs) k s l =
    let e = s.listed in
    let h = s.ends in
    let lt = length-take (size q) xs in
    let y = placed x (statement_of kind.Loop 0 i 0 (suc a + size q)) in
    let r = record_at_found rs a y s.stand.0 in
    record {
      body = q;
      inside = take (size q) xs;
      rest = p;
      places = drop (size q) xs;
      nested = nested rs a b x (statement_of kind.Loop 0 i 0 (suc a + size q)) q p xs refl (omega arith) (omega arith) s.stand.0 s.stand.1;
      counters = refl;
      count = λ c. refl;
      flats = λ n c.
          let B = flat_from (suc c) q in
          let P = flat_from (suc c + loops q) p in
          ap (λ (z : List (Placed Flat)).
          placed x (flat_of (statement_of kind.Plus c i 0 (suc n)) role.Entry)
          ∷ placed x (flat_of (statement_of kind.While 0 c 0 (suc (suc n) + suc (flat_size B))) role.Test)
          ∷ placed x (flat_of (statement_of kind.Minus c c 1 (suc (suc (suc n)))) role.Down)
          ∷ z)
          (flats_append (flat_places q (take (size q) xs)) (flat_places p (drop (size q) xs)) (flat_records_from (suc (suc (suc n))) B) (flat_records_from (suc (suc n) + suc (flat_size B)) P)
          (same_long (suc (suc (suc n))) (suc c) q (take (size q) xs) (omega arith)))
          ∙ ap (λ (z : Placed Statement).
          placed z.place (flat_of (statement_of kind.Plus c z.item.source 0 (suc n)) role.Entry)
          ∷ placed z.place (flat_of (statement_of kind.While 0 c 0 (suc (suc n) + suc (flat_size B))) role.Test)
          ∷ placed z.place (flat_of (statement_of kind.Minus c c 1 (suc (suc (suc n)))) role.Down)
          ∷ (flatted (suc (suc (suc n))) (suc c) q (take (size q) xs) ++ flatted (suc (suc n) + suc (flat_size B)) (suc c + loops q) p (drop (size q) xs))) (sym r);
    }
loops-at rs a b (while i q p) xs k s l = absurd (loop_while (apart (record_at rs a).item.kind kind.Loop kind.While k (kind_at rs a b (while i q p) xs s l)))

pub whiles-at : (rs : List (Placed Statement)) (a b : ℕ) (p : Sheet) (xs : List ℕ) → (record_at rs a).item.kind ≡ kind.While → RecordSpan rs a b p xs → a < b → Whiles rs a b p xs
unfolding head
whiles-at rs a b done xs k s l = let e = s.ends in absurd (omega arith)
whiles-at rs a b (plus i j c p) xs k s l = absurd (while_plus (apart (record_at rs a).item.kind kind.While kind.Plus k (kind_at rs a b (plus i j c p) xs s l)))
whiles-at rs a b (minus i j c p) xs k s l = absurd (while_minus (apart (record_at rs a).item.kind kind.While kind.Minus k (kind_at rs a b (minus i j c p) xs s l)))
whiles-at rs a b (loop i q p) xs k s l = absurd (loop_while (apart (record_at rs a).item.kind kind.Loop kind.While (kind_at rs a b (loop i q p) xs s l) k))
whiles-at rs a b (while i q p) [] k s l = let e = s.listed in absurd (omega arith)
whiles-at rs a b (while i q p) (x ∷ xs) k s l =
    let e = s.listed in
    let h = s.ends in
    let lt = length-take (size q) xs in
    let y = placed x (statement_of kind.While 0 i 0 (suc a + size q)) in
    let r = record_at_found rs a y s.stand.0 in
    record {
      body = q;
      inside = take (size q) xs;
      rest = p;
      places = drop (size q) xs;
      nested = nested rs a b x (statement_of kind.While 0 i 0 (suc a + size q)) q p xs refl (omega arith) (omega arith) s.stand.0 s.stand.1;
      counters = refl;
      count = λ c. refl;
      flats = λ n c.
          let B = flat_from c q in
          let P = flat_from (c + loops q) p in
          ap (λ (z : List (Placed Flat)). placed x (flat_of (statement_of kind.While 0 i 0 (suc n + flat_size B)) role.Written) ∷ z)
          (flats_append (flat_places q (take (size q) xs)) (flat_places p (drop (size q) xs)) (flat_records_from (suc n) B) (flat_records_from (suc n + flat_size B) P)
          (same_long (suc n) c q (take (size q) xs) (omega arith)))
          ∙ ap (λ (z : Placed Statement).
          placed z.place (flat_of (statement_of kind.While 0 z.item.source 0 (suc n + flat_size B)) role.Written)
          ∷ (flatted (suc n) c q (take (size q) xs) ++ flatted (suc n + flat_size B) (c + loops q) p (drop (size q) xs))) (sym r);
    }

-- memory

-- the flat statement of an assignment
abbrev pub moved_at : List (Placed Statement) → ℕ → ℕ → Placed Flat
moved_at rs a n =
    placed (record_at rs a).place
    (flat_of (statement_of (record_at rs a).item.kind (record_at rs a).item.target (record_at rs a).item.source (record_at rs a).item.constant n) role.Written)

pub after_assignment : (rs : List (Placed Statement)) (a b n : ℕ) (p : Sheet) (xs : List ℕ) (c : ℕ) (t u : Table (Placed Flat)) (v : Assigns rs a b p xs)
    → n ≡ count t + 1 → OneFiled (moved_at rs a n) t u → FlatsLeft p xs c t v.rest v.places c u
after_assignment rs a b n p xs c t u v e h =
    let o = v.counters in
    let w = v.count c in
    let k = h.counted in
    let next : n ≡ suc (count t) = omega arith in
    let m : memory u ≡ set (memory t) (count t) (moved_at rs a (suc (count t))) = h.filled ∙ ap (λ (z : ℕ). set (memory t) (count t) (moved_at rs a z)) next in
    record {
      counters = omega arith;
      counted = omega arith;
      filled =
          ap (overwrite (memory t) (count t)) (v.flats (count t) c)
          ∙ (ap (λ (z : List (Placed Flat)). overwrite z (suc (count t)) (flatted (suc (count t)) c v.rest v.places)) (sym m)
          ∙ ap (λ (z : ℕ). overwrite (memory u) z (flatted z c v.rest v.places)) (sym k));
    }

-- a head is filed at n, the body behind it, and then the head gets its end
joined : (m m₁ m₂ m₃ : List (Placed Flat)) (n n₂ e : ℕ) (o h : Placed Flat) (B R : List (Placed Flat)) → m₁ ≡ set m n o → m₂ ≡ overwrite m₁ (suc n) B → m₃ ≡ set m₂ n h → n₂ ≡ suc n + length B
    → overwrite m n (h ∷ (B ++ R)) ≡ overwrite m₃ n₂ R
joined m m₁ m₂ m₃ n n₂ e o h B R f₁ f₂ f₃ q =
    let m₃' : m₃ ≡ overwrite (set m n h) (suc n) B =
    f₃ ∙ (ap (λ (z : List (Placed Flat)). set z n h) (f₂ ∙ ap (λ (z : List (Placed Flat)). overwrite z (suc n) B) f₁) ∙ replaced m n o h B) in
    overwrite_append (set m n h) (suc n) B R
    ∙ (ap (λ (z : List (Placed Flat)). overwrite z (suc n + length B) R) (sym m₃') ∙ ap (λ (z : ℕ). overwrite m₃ z R) (sym q))

pub past_while : (rs : List (Placed Statement)) (a b : ℕ) (p : Sheet) (xs : List ℕ) (c i k : ℕ) (t₀ t₁ t₂ t₃ : Table (Placed Flat)) (v : Whiles rs a b p xs)
    → i ≡ count t₀ → OneFiled (placed (record_at rs a).place (flat_of (statement_of kind.While 0 (record_at rs a).item.source 0 0) role.Written)) t₀ t₁
    → FlatsFiled v.body v.inside c t₁ k t₂ → count t₃ ≡ count t₂
    → memory t₃ ≡ set (memory t₂) i (placed (record_at rs a).place (flat_of (statement_of kind.While 0 (record_at rs a).item.source 0 (count t₂)) role.Written))
    → FlatsLeft p xs c t₀ v.rest v.places k t₃
past_while rs a b p xs c i k t₀ t₁ t₂ t₃ v here h w e₃ f₃ =
    let o = v.counters in
    let n = v.count c in
    let e₁ = h.counted in
    let e₂ = w.counted in
    let ks = w.counters in
    let n₀ = count t₀ in
    let B = flatted (suc n₀) c v.body v.inside in
    let size = flat_size (flat_from c v.body) in
    let lB : length B ≡ size = flatted_long (suc n₀) c v.body v.inside v.nested.inner.listed in
    let R : ℕ → ℕ → List (Placed Flat) = λ z q. flatted z q v.rest v.places in
    let W : ℕ → Placed Flat = λ z. placed (record_at rs a).place (flat_of (statement_of kind.While 0 (record_at rs a).item.source 0 z) role.Written) in
    let n₂ : count t₂ ≡ suc n₀ + size = omega arith in
    let n₃ : count t₃ ≡ suc n₀ + length B = omega arith in
    let n₃' : count t₃ ≡ suc n₀ + size = omega arith in
    let m₂ : memory t₂ ≡ overwrite (memory t₁) (suc n₀) B = w.filled ∙ ap (λ (z : ℕ). overwrite (memory t₁) z (flatted z c v.body v.inside)) e₁ in
    let m₃ : memory t₃ ≡ set (memory t₂) n₀ (W (suc n₀ + size)) = f₃ ∙ (ap (λ (z : ℕ). set (memory t₂) z (W (count t₂))) here ∙ ap (λ (z : ℕ). set (memory t₂) n₀ (W z)) n₂) in
    let kr : k ≡ c + loops v.body = ks in
    let cr : flat_size (flat_from k v.rest) ≡ flat_size (flat_from (c + loops v.body) v.rest) = ap (λ (z : ℕ). flat_size (flat_from z v.rest)) kr in
    record {
      counters = omega arith;
      counted = omega arith;
      filled =
          ap (overwrite (memory t₀) n₀) (v.flats n₀ c)
          ∙ (joined (memory t₀) (memory t₁) (memory t₂) (memory t₃) n₀ (count t₃) 0 (W 0) (W (suc n₀ + size)) B (R (suc n₀ + size) (c + loops v.body)) h.filled m₂ m₃ n₃
          ∙ (ap (λ (z : ℕ). overwrite (memory t₃) (count t₃) (R z (c + loops v.body))) (sym n₃') ∙ ap (λ (z : ℕ). overwrite (memory t₃) (count t₃) (R (count t₃) z)) (sym kr)));
    }

pub after_loop : (rs : List (Placed Statement)) (a b : ℕ) (p : Sheet) (xs : List ℕ) (c i k : ℕ) (t₀ t₁ t₂ t₃ : Table (Placed Flat)) (v : Loops rs a b p xs)
    → LoopOpened (record_at rs a).place (record_at rs a).item.source c t₀ i t₁ → FlatsFiled v.body v.inside (c + 1) t₁ k t₂ → count t₃ ≡ count t₂
    → memory t₃ ≡ set (memory t₂) i (placed (record_at rs a).place (flat_of (statement_of kind.While 0 c 0 (count t₂)) role.Test))
    → FlatsLeft p xs c t₀ v.rest v.places k t₃
after_loop rs a b p xs c i k t₀ t₁ t₂ t₃ v h w₁ e₃ f₃ =
    let one : c + 1 ≡ suc c = omega arith in
    let w : FlatsFiled v.body v.inside (suc c) t₁ k t₂ = subst (λ (z : ℕ). FlatsFiled v.body v.inside z t₁ k t₂) one w₁ in
    let o = v.counters in
    let n = v.count c in
    let here = h.test in
    let e₁ = h.counted in
    let e₂ = w.counted in
    let n₀ = count t₀ in
    let x = (record_at rs a).place in
    let s = (record_at rs a).item.source in
    let E = placed x (flat_of (statement_of kind.Plus c s 0 (suc n₀)) role.Entry) in
    let D = placed x (flat_of (statement_of kind.Minus c c 1 (suc (suc (suc n₀)))) role.Down) in
    let W : ℕ → Placed Flat = λ z. placed x (flat_of (statement_of kind.While 0 c 0 z) role.Test) in
    let B = flatted (suc (suc (suc n₀))) (suc c) v.body v.inside in
    let size = flat_size (flat_from (suc c) v.body) in
    let lB : length B ≡ size = flatted_long (suc (suc (suc n₀))) (suc c) v.body v.inside v.nested.inner.listed in
    let R : ℕ → ℕ → List (Placed Flat) = λ z q. flatted z q v.rest v.places in
    let n₁ : count t₁ ≡ suc (suc (suc n₀)) = omega arith in
    let n₂ : count t₂ ≡ suc (suc n₀) + suc size = omega arith in
    let n₃ : count t₃ ≡ suc (suc n₀) + length (D ∷ B) = omega arith in
    let n₃' : count t₃ ≡ suc (suc n₀) + suc size = omega arith in
    let m₂ : memory t₂ ≡ overwrite (set (set (memory t₀) n₀ E) (suc n₀) (W 0)) (suc (suc n₀)) (D ∷ B) =
    w.filled ∙ (ap (λ (z : ℕ). overwrite (memory t₁) z (flatted z (suc c) v.body v.inside)) n₁ ∙ ap (λ (z : List (Placed Flat)). overwrite z (suc (suc (suc n₀))) B) h.filled) in
    let m₃ : memory t₃ ≡ set (memory t₂) (suc n₀) (W (suc (suc n₀) + suc size)) =
    f₃ ∙ (ap (λ (z : ℕ). set (memory t₂) z (W (count t₂))) here ∙ ap (λ (z : ℕ). set (memory t₂) (suc n₀) (W z)) n₂) in
    let kr : k ≡ suc c + loops v.body = w.counters in
    let cr : flat_size (flat_from k v.rest) ≡ flat_size (flat_from (suc c + loops v.body) v.rest) = ap (λ (z : ℕ). flat_size (flat_from z v.rest)) kr in
    record {
      counters = omega arith;
      counted = omega arith;
      filled =
          ap (overwrite (memory t₀) n₀) (v.flats n₀ c)
          ∙ (joined (set (memory t₀) n₀ E) (set (set (memory t₀) n₀ E) (suc n₀) (W 0)) (memory t₂) (memory t₃) (suc n₀) (count t₃) 0 (W 0) (W (suc (suc n₀) + suc size)) (D ∷ B)
          (R (suc (suc n₀) + suc size) (suc c + loops v.body)) refl m₂ m₃ n₃
          ∙ (ap (λ (z : ℕ). overwrite (memory t₃) (count t₃) (R z (suc c + loops v.body))) (sym n₃') ∙ ap (λ (z : ℕ). overwrite (memory t₃) (count t₃) (R (count t₃) z)) (sym kr)));
    }

-- nothing is left
none_left : (rs : List (Placed Statement)) (n b : ℕ) (p q : Sheet) (xs ys : List ℕ) (c k : ℕ) (t u : Table (Placed Flat)) → b ≤ n → RecordSpan rs n b q ys → FlatsLeft p xs c t q ys k u
    → FlatsFiled p xs c t k u
none_left rs n b p done xs [] c k t u h s w = let e = w.counters in let d = w.counted in record { counters = omega arith; counted = omega arith; filled = sym w.filled }
none_left rs n b p done xs (y ∷ ys) c k t u h s w = let e = s.listed in absurd (omega arith)
none_left rs n b p (plus i j m q) xs ys c k t u h s w = let e = s.ends in absurd (omega arith)
none_left rs n b p (minus i j m q) xs ys c k t u h s w = let e = s.ends in absurd (omega arith)
none_left rs n b p (loop i r q) xs ys c k t u h s w = let e = s.ends in absurd (omega arith)
none_left rs n b p (while i r q) xs ys c k t u h s w = let e = s.ends in absurd (omega arith)

pub all_filed : (rs : List (Placed Statement)) (n b : ℕ) (p : Sheet) (xs : List ℕ) (c k : ℕ) (t u : Table (Placed Flat)) → b ≤ n → StatementFlat rs b p xs c t n k u → FlatsFiled p xs c t k u
all_filed rs n b p xs c k t u h w = none_left rs n b p w.rest xs w.places c k t u h w.spans w.left

pub more_filed : (rs : List (Placed Statement)) (n m b : ℕ) (p : Sheet) (xs : List ℕ) (c k l : ℕ) (t u v : Table (Placed Flat)) (w : StatementFlat rs b p xs c t n k u)
    → StatementFlat rs b w.rest w.places k u m l v → StatementFlat rs b p xs c t m l v
more_filed rs n m b p xs c k l t u v w z =
    record {
      rest = z.rest;
      places = z.places;
      spans = z.spans;
      left = record { counters = w.left.counters ∙ z.left.counters; counted = w.left.counted ∙ z.left.counted; filled = w.left.filled ∙ z.left.filled };
    }

pub over_later : (rs : List (Placed Statement)) (n b : ℕ) (p : Sheet) (xs : List ℕ) (c k : ℕ) (t u : Table (Placed Flat)) (w : StatementFlat rs b p xs c t n k u) → length (memory u) ≡ length (memory t)
    → FlatsOver w.rest k u → FlatsOver p c t
over_later rs n b p xs c k t u w r h = let e = w.left.counted in omega arith

pub counters_later : (rs : List (Placed Statement)) (n b : ℕ) (p : Sheet) (xs : List ℕ) (c k : ℕ) (t u : Table (Placed Flat)) (w : StatementFlat rs b p xs c t n k u)
    → counters_end c p ≤ 64 → counters_end k w.rest ≤ 64
counters_later rs n b p xs c k t u w h = let e = w.left.counters in omega arith

-- there is no room

pub assignment_over : (rs : List (Placed Statement)) (a b : ℕ) (p : Sheet) (xs : List ℕ) (c : ℕ) (t : Table (Placed Flat)) → Assigns rs a b p xs → length (memory t) ≤ count t → FlatsOver p c t
assignment_over rs a b p xs c t v h = let n = v.count c in omega arith

pub while_over : (rs : List (Placed Statement)) (a b : ℕ) (p : Sheet) (xs : List ℕ) (c : ℕ) (t : Table (Placed Flat)) → Whiles rs a b p xs → length (memory t) ≤ count t → FlatsOver p c t
while_over rs a b p xs c t v h = let n = v.count c in omega arith

pub loop_over : (rs : List (Placed Statement)) (a b : ℕ) (p : Sheet) (xs : List ℕ) (c : ℕ) (t : Table (Placed Flat)) → Loops rs a b p xs → length (memory t) < count t + 3 → FlatsOver p c t
loop_over rs a b p xs c t v h = let n = v.count c in omega arith

pub while_body_over : (rs : List (Placed Statement)) (a b : ℕ) (p : Sheet) (xs : List ℕ) (c : ℕ) (x : Placed Flat) (t u : Table (Placed Flat)) (v : Whiles rs a b p xs) → OneFiled x t u
    → FlatsOver v.body c u → FlatsOver p c t
while_body_over rs a b p xs c x t u v h w =
    let n = v.count c in
    let e = h.counted in
    let same : length (memory u) ≡ length (memory t) = ap length h.filled ∙ simp length-set in
    omega arith

pub loop_body_over : (rs : List (Placed Statement)) (a b : ℕ) (p : Sheet) (xs : List ℕ) (c i : ℕ) (x s : ℕ) (t u : Table (Placed Flat)) (v : Loops rs a b p xs) → LoopOpened x s c t i u → length (memory u) ≡ length (memory t)
    → FlatsOver v.body (c + 1) u → FlatsOver p c t
loop_body_over rs a b p xs c i x s t u v h r w =
    let one : c + 1 ≡ suc c = omega arith in
    let w' : FlatsOver v.body (suc c) u = subst (λ (k : ℕ). FlatsOver v.body k u) one w in
    let n = v.count c in
    let e = h.counted in
    omega arith

-- the whole sheet

pub flattened : (rs : List (Placed Statement)) (k : ℕ) (p : Sheet) (xs : List ℕ) (c : ℕ) (t u v : Table (Placed Flat)) → count t ≡ 0 → RecordSpan rs 0 k p xs → FlatsFiled p xs 32 t c u → length (memory u) ≡ length (memory t)
    → count v ≡ count u → memory v ≡ take (count u) (memory u) ++ replicate (length (memory u) - count u) zero_placed_flat → Flattened p xs (memory t) (count v) (memory v)
flattened rs k p xs c t u v none s w room e m =
    let n = w.counted in
    let in₁ = u.within in
    let F = placed_flats p xs in
    let long : length F ≡ flat_size (flat p) = flatted_long 0 32 p xs s.listed in
    let m₁ : memory u ≡ overwrite (memory t) 0 F = w.filled ∙ ap (λ (q : ℕ). overwrite (memory t) q (flatted q 32 p xs)) none in
    let at : count u ≡ 0 + length F = omega arith in
    let front : take (count u) (memory u) ≡ F =
    ap (λ (q : ℕ). take q (memory u)) at ∙ (ap (take (0 + length F)) m₁ ∙ take-overwrite (memory t) 0 F (omega arith)) in
    let rest : length (memory u) - count u ≡ length (memory t) - flat_size (flat p) = omega arith in
    record {
      counted = omega arith;
      room = omega arith;
      filled = m ∙ (ap (λ (q : List (Placed Flat)). q ++ replicate (length (memory u) - count u) zero_placed_flat) front ∙ ap (λ (q : ℕ). F ++ replicate q zero_placed_flat) rest);
    }
