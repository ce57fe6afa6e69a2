-- What a load fills and refuses.
use Rattle.std.proofs.Common.{◌≡◌, ℕ, suc, ◌-◌, ◌<◌, ◌≤◌, List, [], ◌∷◌, ◌++◌, map, length, take, replicate, Ok, Err, Result, IsErrAnd, MatchResult, sym, refl, ap, ◌∙◌, subst, arith, length-append}
use lib.ListN.{length-replicate}
use Rattle.std.proofs.lemmas.List.{take_at}
use Rattle.reader.specs.declared.types.Placed.{Placed}
use Rattle.reader.specs.declared.types.Refusal.{Refusal}
use Rattle.reader.specs.declared.types.Refusal.TheVariants.{FlatFull, CodeFull}
use Rattle.reader.specs.declared.types.Statement.{Statement}
use Rattle.reader.specs.Sheet.{Sheet, size, Within}
use Rattle.reader.specs.Symbols.{placed, heads}
use Rattle.reader.specs.Records.{records, with_places, cleared}
use Rattle.reader.specs.Reading.{ReadAnswers, accepted, overlong, faulty, tree_full}
use Rattle.reader.proofs.Records.{counted, length-records}
use Rattle.translator.specs.declared.draft.Draft.{Draft}
use Rattle.translator.specs.declared.draft.SealedCode.{SealedCode}
use Rattle.translator.specs.declared.types.Flat.{Flat}
use Rattle.translator.specs.declared.types.Instruction.{Instruction}
use Rattle.translator.specs.declared.types.Stage.TheVariants.{Read, Flatten, Lay}
use Rattle.translator.specs.declared.types.Fault.{Fault}
use Rattle.translator.specs.JumpCode.{halt}
use Rattle.translator.specs.Translation.{flat, flat_size, compiled, flat_places, flat_records, flats_with_places, placed_flats}
use Rattle.translator.specs.Width.{width}
use Rattle.translator.specs.Drafts.{draft_memory, laid_code, filed, OpenAt}
use Rattle.translator.specs.Seals.{sealed_width, Sound, SealRefuses, jump_open, bad_draft}
use Rattle.translator.specs.Laying.{Stands, FlatSpan, Coded}
use Rattle.translator.specs.Flattening.{RecordSpan, Flattened}
use Rattle.translator.specs.Loading.{fault, cleared_flats, SpelledSheet, Prepared, Loaded, LoadRefuses, unread, unflattened, unlaid}
use Rattle.translator.proofs.Results.{mapped}
use Rattle.translator.proofs.FlatFiled.{places_length_more, same_long, flatted_long}
use Rattle.translator.proofs.SealedSheets.{sheet_sealed}
use Rattle.translator.proofs.Width.{code_width}

-- a read that was accepted, and one that was not

pub record ReadSheet (text : List ℕ) (r n : ℕ) (m : List (Placed Statement)) : Type 0 where
  pub sheet : Sheet
  pub places : List ℕ
  pub spelled : SpelledSheet text sheet places
  pub counted : n ≡ size sheet
  pub room : size sheet ≤ r
  pub filled : m ≡ with_places places (records sheet) ++ cleared (r - size sheet)

read_said : (text : List ℕ) (room : ℕ) (r : Result ℕ (Placed Refusal)) (m : List (Placed Statement)) → ReadAnswers text room r m
    → MatchResult r (λ n. ReadSheet text room n m) (λ e. ReadAnswers text room (Err e) (cleared room) × (m ≡ cleared room))
read_said text room r m (accepted {ys = ys} {p = p} l s h) =
    record {
      sheet = p;
      places = heads ys;
      spelled = record { symbols = ys; lexed = l; sheeted = s; places = refl };
      counted = refl;
      room = h;
      filled = refl;
    }
read_said text room r m (overlong h) = (overlong h, refl)
read_said text room r m (faulty l h) = (faulty l h, refl)
read_said text room r m (tree_full l s h) = (tree_full l s h, refl)

pub read_or_fault : (text : List ℕ) (room f : ℕ) (r : Result ℕ (Placed Refusal)) (m : List (Placed Statement)) (s : Result ℕ Fault) (F : Placed Refusal → Fault → Type 0) → ReadAnswers text room r m
    → MatchResult r (λ x. s ≡ Ok x) (λ e. IsErrAnd s (F e)) → ((e : Placed Refusal) (y : Fault) → F e y → y ≡ fault Read e)
    → MatchResult s (λ n. ReadSheet text room n m) (λ y. ((k : ℕ) → LoadRefuses text room f k y) × (y.stage ≡ Read → m ≡ cleared room))
read_or_fault text room f r m s F a h g =
    mapped _ _ _ _ r s F (read_said text room r m a) h (λ n x. x) (λ e y x k. ((λ c. subst (LoadRefuses text room f c) (sym (g e y k)) (unread x.0)), λ i. x.1))

-- records at the front

stands_shift : {A : Type 0} (y : A) (ys : List A) (a : ℕ) (xs : List A) → Stands ys a xs → Stands (y ∷ ys) (suc a) xs
stands_shift y ys a [] h = tt
stands_shift y ys a (x ∷ xs) h = (h.0, stands_shift y ys (suc a) xs h.1)

stands_whole : {A : Type 0} (xs : List A) → Stands xs 0 xs
stands_whole [] = tt
stands_whole (x ∷ xs) = (refl, stands_shift x xs 0 xs (stands_whole xs))

listed : (text : List ℕ) (p : Sheet) (xs : List ℕ) → SpelledSheet text p xs → length xs ≡ size p
listed text p xs s = ap length s.places ∙ (counted s.symbols p s.sheeted.spells).0

pub read_span : (text : List ℕ) (room n : ℕ) (m : List (Placed Statement)) (w : ReadSheet text room n m) → RecordSpan (take n m) 0 (length (take n m)) w.sheet w.places
read_span text room n m w =
    let F = with_places w.places (records w.sheet) in
    let many = listed text w.sheet w.places w.spelled in
    let all = length-records 0 w.sheet in
    let long : length F ≡ size w.sheet = places_length_more w.places (records w.sheet) (omega arith) ∙ all in
    let c = w.counted in
    let front : take n m ≡ F = ap (take n) w.filled ∙ take_at F (cleared (room - size w.sheet)) n (omega arith) in
    let e = ap length front in
    record { ends = omega arith; listed = many; stand = subst (λ (z : List (Placed Statement)). Stands z 0 F) (sym front) (stands_whole F) }

pub prepared : (text : List ℕ) (room n k : ℕ) (m : List (Placed Statement)) (f g : List (Placed Flat)) (w : ReadSheet text room n m) → Flattened w.sheet w.places f k g
    → Prepared text room (length f) k m g
prepared text room n k m f g w h =
    record { sheet = w.sheet; places = w.places; spelled = w.spelled; counted = h.counted; room = (w.room, h.room); statements = w.filled; flats = h.filled }

pub not_flattened : (text : List ℕ) (room n f c : ℕ) (x : Refusal) (m : List (Placed Statement)) (w : ReadSheet text room n m) → x ≡ FlatFull → f < flat_size (flat w.sheet)
    → LoadRefuses text room f c (fault Flatten (placed 0 x))
not_flattened text room n f c x m w e h = subst (λ (z : Refusal). LoadRefuses text room f c (fault Flatten (placed 0 z))) (sym e) (unflattened w.spelled w.room h)

items_all : (xs : List ℕ) (fs : List Flat) → length xs ≡ length fs → map (λ r. r.item) (flats_with_places xs fs) ≡ fs
items_all [] [] h = refl
items_all [] (f ∷ fs) h = absurd (omega arith)
items_all (x ∷ xs) [] h = absurd (omega arith)
items_all (x ∷ xs) (f ∷ fs) h = ap (λ (r : List Flat). f ∷ r) (items_all xs fs (omega arith))

pub flat-span : (text : List ℕ) (r f n : ℕ) (rs : List (Placed Statement)) (fs : List (Placed Flat)) (w : Prepared text r f n rs fs) → FlatSpan (take n fs) 0 (length (take n fs)) (flat w.sheet)
flat-span text r f n rs fs w =
    let p = w.sheet in
    let xs = w.places in
    let many = listed text p xs w.spelled in
    let F = placed_flats p xs in
    let long : length F ≡ flat_size (flat p) = flatted_long 0 32 p xs many in
    let c = w.counted in
    let front : take n fs ≡ F = ap (take n) w.flats ∙ take_at F (cleared_flats (f - flat_size (flat p))) n (omega arith) in
    let e = ap length front in
    let is : map (λ y. y.item) (take n fs) ≡ flat_records (flat p) =
    ap (map (λ y. y.item)) front ∙ items_all (flat_places p xs) (flat_records (flat p)) (same_long 0 32 p xs many) in
    record { ends = omega arith; stand = subst (λ (q : List Flat). Stands q 0 (flat_records (flat p))) (sym is) (stands_whole (flat_records (flat p))) }

pub not-laid : (text : List ℕ) (r f n c : ℕ) (x : Refusal) (rs : List (Placed Statement)) (fs : List (Placed Flat)) (w : Prepared text r f n rs fs) → x ≡ CodeFull → c < length (compiled w.sheet)
    → LoadRefuses text r f c (fault Lay (placed 0 x))
not-laid text r f n c x rs fs w e h = subst (λ (z : Refusal). LoadRefuses text r f c (fault Lay (placed 0 z))) (sym e) (unlaid w.spelled w.room.0 w.room.1 h)

pub loaded : (text : List ℕ) (r f n c : ℕ) (rs : List (Placed Statement)) (fs : List (Placed Flat)) (d e : Draft) (s : SealedCode) (w : Prepared text r f n rs fs) → length (draft_memory d) ≡ c
    → Coded w.sheet d e → length (draft_memory e) ≡ length (draft_memory d) → s.table ≡ e.table → sealed_width s ≡ width (laid_code e) → Loaded text r f c rs fs s
loaded text r f n c rs fs d e s w long h room same wide =
    let p = w.sheet in
    let full = ap length h.filled in
    let a = length-append (compiled p) (replicate (length (draft_memory d) - length (compiled p)) halt) in
    let b = length-replicate (length (draft_memory d) - length (compiled p)) halt in
    record {
      sheet = p;
      places = w.places;
      spelled = w.spelled;
      room = (w.room.0, w.room.1, omega arith);
      statements = w.statements;
      flats = w.flats;
      code = ap filed same ∙ h.code;
      memory = ap (λ t. t.cells.now) same ∙ (h.filled ∙ ap (λ (k : ℕ). compiled p ++ replicate (k - length (compiled p)) halt) long);
      registers = wide ∙ (ap width h.code ∙ (code_width p w.spelled.sheeted.within.fit).0);
    }

refuses_none : (c : List Instruction) (p : Sheet) (x : Refusal) → Within p → c ≡ compiled p → SealRefuses c x → ⊥
refuses_none c p x h e (jump_open o) = (sheet_sealed p h).0 (subst (λ k. (i : ℕ) × OpenAt k i) e o)
refuses_none c p x h e (bad_draft n s) = s (subst Sound (sym e) (sheet_sealed p h).1)

pub not_refused : (text : List ℕ) (r f n : ℕ) (rs : List (Placed Statement)) (fs : List (Placed Flat)) (d e : Draft) (x : Refusal) (w : Prepared text r f n rs fs) → Coded w.sheet d e
    → SealRefuses (laid_code e) x → ⊥
not_refused text r f n rs fs d e x w h z = refuses_none (laid_code e) w.sheet x w.spelled.sheeted.within h.code z
