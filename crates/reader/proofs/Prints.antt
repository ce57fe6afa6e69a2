-- What a print answers.
use Rattle.std.proofs.Common.{◌≡◌, ℕ, ◌-◌, ◌≤◌, List, [], ◌∷◌, ◌++◌, length, take, drop, Ok, Err, Result, sym, refl, ap, ◌∙◌, subst, arith, take_at}
use Rattle.std.specs.Fmt.{digits}
use Rattle.reader.specs.declared.types.Placed.{Placed}
use Rattle.reader.specs.declared.types.Refusal.{Refusal}
use Rattle.reader.specs.declared.types.Statement.{Statement}
use Rattle.reader.specs.Sheet.{Sheet, done, plus, minus, loop, while, then, Some, Whole, size}
use Rattle.reader.specs.Symbols.{Symbol, PlacedSymbol, heads, LOOP, WHILE, DO, END, register, number, assign, unequal, plus_sign, minus_sign}
use Rattle.reader.specs.Records.{records, with_places, cleared}
use Rattle.reader.specs.Grammar.{Spells, adds, subtracts, sequence, loops, whiles}
use Rattle.reader.specs.Reading.{Sheeted, ReadAnswers, accepted, overlong, faulty, tree_full}
use Rattle.reader.specs.Checks.{IsSheet, items, span}
use Rattle.reader.specs.Printed.{and_then, spelling, text_of, printed}
use Rattle.reader.specs.Printing.{PrintAnswers, wrote, no_sheet, page_full, ReadsBack, PrintReads}
use Rattle.reader.specs.PrintClaims.{PrintIsUnique, ReadSheetPrints, ExamplePrints}
use Rattle.reader.specs.Pages.{Page, page_of, put_bytes, put_symbols}
use Rattle.reader.proofs.Records.{counted}
use Rattle.reader.proofs.Spans.{Recs, length_same, sheet_length, sheet_span, sheet_one}
use Rattle.reader.proofs.Pages.{put_text, put_count, put_front, put-lent}
use Rattle.reader.proofs.Printing.{round_trip}

-- A sheet on an empty page.
put_some : (p : Sheet) (m : List ℕ) (l : ℕ) → Some p → put_symbols (spelling p) (page_of m 0 l) ≡ put_bytes (text_of (spelling p)) (page_of m 0 l)
put_some done m l o = absurd o
put_some (plus i j c p) m l o = put_text (register i) (assign ∷ register j ∷ plus_sign ∷ number c ∷ and_then p (spelling p)) m l (omega arith)
put_some (minus i j c p) m l o = put_text (register i) (assign ∷ register j ∷ minus_sign ∷ number c ∷ and_then p (spelling p)) m l (omega arith)
put_some (loop i b p) m l o = put_text LOOP (register i ∷ DO ∷ (spelling b ++ (END ∷ and_then p (spelling p)))) m l (omega arith)
put_some (while i b p) m l o = put_text WHILE (register i ∷ unequal ∷ number 0 ∷ DO ∷ (spelling b ++ (END ∷ and_then p (spelling p)))) m l (omega arith)

pub put_sheet : (rs : Recs) (h : IsSheet rs) (m : List ℕ) (l : ℕ) → put_symbols (spelling (span rs 0 (length rs))) (page_of m 0 l) ≡ put_bytes (printed h.sheet) (page_of m 0 l)
put_sheet rs h m l =
    ap (λ (p : Sheet). put_symbols (spelling p) (page_of m 0 l)) (sheet_span rs h) ∙ put_some h.sheet m l h.some

pub sheet_written : (rs : Recs) (h : IsSheet rs) (m : List ℕ) (l : ℕ) (g : Page) → g ≡ put_symbols (spelling (span rs 0 (length rs))) (page_of m 0 l) → g.written ≡ length (printed h.sheet)
sheet_written rs h m l g e = ap (λ (x : Page). x.written) (e ∙ put_sheet rs h m l) ∙ put_count (printed h.sheet) (page_of m 0 l) ∙ omega arith

pub sheet_memory : (rs : Recs) (h : IsSheet rs) (m : List ℕ) (l : ℕ) (g : Page) → length (printed h.sheet) ≤ length m → g ≡ put_symbols (spelling (span rs 0 (length rs))) (page_of m 0 l)
    → g.memory ≡ printed h.sheet ++ drop (length (printed h.sheet)) m
sheet_memory rs h m l g le e = ap (λ (x : Page). x.memory) (e ∙ put_sheet rs h m l) ∙ put_front (printed h.sheet) m l le

pub sheet_lent : (rs : Recs) (h : IsSheet rs) (m : List ℕ) (l : ℕ) (g : Page) → g ≡ put_symbols (spelling (span rs 0 (length rs))) (page_of m 0 l) → g.lent ≡ l
sheet_lent rs h m l g e = ap (λ (x : Page). x.lent) (e ∙ put_sheet rs h m l) ∙ put-lent (printed h.sheet) (page_of m 0 l)

-- The answer where it fits.
pub wrote_as : (rs : Recs) (page : List ℕ) (n : ℕ) (after : List ℕ) (h : IsSheet rs) → n ≡ length (printed h.sheet) → n ≤ length page
    → after ≡ printed h.sheet ++ drop (length (printed h.sheet)) page → PrintAnswers rs page (Ok n) after
wrote_as rs page n after h e le q =
    subst (λ (x : ℕ). PrintAnswers rs page (Ok x) after) (sym e)
    (subst (λ (x : List ℕ). PrintAnswers rs page (Ok (length (printed h.sheet))) x) (sym q) (wrote h (omega arith)))

reads_sheet : (rs : Recs) (h : IsSheet rs) → ReadsBack rs (printed h.sheet)
reads_sheet rs h =
    let t = round_trip h.sheet h.some h.whole h.within in
    let n = sheet_length rs h in
    let places = t.1.0 in
    let text = printed h.sheet in
    record {
      short = t.0;
      places = places;
      each = t.1.1 ∙ sym n;
      read = λ room k.
          subst (λ (m : ℕ). ReadAnswers text room (Ok m) (with_places places (items rs) ++ cleared (room - m))) (sym n)
          (subst (λ (l : List Statement). ReadAnswers text room (Ok (size h.sheet)) (with_places places l ++ cleared (room - size h.sheet))) (sym h.same)
          (t.1.2 room (omega arith)));
    }

pub reads_as : (rs : Recs) (page : List ℕ) (n : ℕ) (after : List ℕ) (h : IsSheet rs) → n ≡ length (printed h.sheet)
    → after ≡ printed h.sheet ++ drop (length (printed h.sheet)) page → PrintReads rs (Ok n) after
reads_as rs page n after h e q =
    let r = reads_sheet rs h in
    let f : take n after ≡ printed h.sheet = ap (take n) q ∙ take_at (printed h.sheet) (drop (length (printed h.sheet)) page) n (sym e) in
    (omega (arith, r.short), subst (λ (x : List ℕ). ReadsBack rs x) (sym f) r)

-- A print has at most one answer.
same_length : (rs : Recs) (h g : IsSheet rs) → length (printed h.sheet) ≡ length (printed g.sheet)
same_length rs h g = ap (λ (p : Sheet). length (printed p)) (sheet_one rs h g)

pub print_one : PrintIsUnique
print_one rs page a b k l (wrote h le) (wrote g le') =
    (ap (λ (p : Sheet). Ok (length (printed p))) (sheet_one rs h g), ap (λ (p : Sheet). printed p ++ drop (length (printed p)) page) (sheet_one rs h g))
print_one rs page a b k l (wrote h le) (no_sheet n) = absurd (n h)
print_one rs page a b k l (wrote h le) (page_full g lt) = absurd (omega (arith, same_length rs h g))
print_one rs page a b k l (no_sheet n) (wrote h le) = absurd (n h)
print_one rs page a b k l (no_sheet n) (no_sheet m) = (refl, refl)
print_one rs page a b k l (no_sheet n) (page_full h lt) = absurd (n h)
print_one rs page a b k l (page_full h lt) (wrote g le) = absurd (omega (arith, same_length rs h g))
print_one rs page a b k l (page_full h lt) (no_sheet n) = absurd (n h)
print_one rs page a b k l (page_full h lt) (page_full g lt') = (refl, refl)

-- A spelled sheet is not empty, nor is a body in it.
some_then : (p q : Sheet) → Some p → Some (then p q)
some_then done q h = absurd h
some_then (plus i j c p) q h = tt
some_then (minus i j c p) q h = tt
some_then (loop i b p) q h = tt
some_then (while i b p) q h = tt

some_spelled : {xs : List Symbol} {p : Sheet} → Spells xs p → Some p
some_spelled adds = tt
some_spelled subtracts = tt
some_spelled (sequence {p = p} {q = q} s t) = some_then p q (some_spelled s)
some_spelled (loops s) = tt
some_spelled (whiles s) = tt

whole_then : (p q : Sheet) → Whole p → Whole q → Whole (then p q)
whole_then done q h k = k
whole_then (plus i j c p) q h k = whole_then p q h k
whole_then (minus i j c p) q h k = whole_then p q h k
whole_then (loop i b p) q h k = (h.0, h.1, whole_then p q h.2 k)
whole_then (while i b p) q h k = (h.0, h.1, whole_then p q h.2 k)

whole_spelled : {xs : List Symbol} {p : Sheet} → Spells xs p → Whole p
whole_spelled adds = tt
whole_spelled subtracts = tt
whole_spelled (sequence {p = p} {q = q} s t) = whole_then p q (whole_spelled s) (whole_spelled t)
whole_spelled (loops s) = (some_spelled s, whole_spelled s, tt)
whole_spelled (whiles s) = (some_spelled s, whole_spelled s, tt)

-- Places change no item.
items_places : (ps : List ℕ) (ss : List Statement) → length ps ≡ length ss → items (with_places ps ss) ≡ ss
items_places [] [] e = refl
items_places [] (s ∷ ss) e = absurd (omega arith)
items_places (p ∷ ps) [] e = absurd (omega arith)
items_places (p ∷ ps) (s ∷ ss) e = ap (λ (l : List Statement). s ∷ l) (items_places ps ss (omega arith))

read_sheet : (ys : List PlacedSymbol) (p : Sheet) (rest : Recs) → Sheeted ys p → IsSheet (take (size p) (with_places (heads ys) (records p) ++ rest))
read_sheet ys p rest h =
    let c = counted ys p h.spells in
    let rs = with_places (heads ys) (records p) in
    let e : items (with_places (heads ys) (records p)) ≡ records p = items_places (heads ys) (records p) (c.0 ∙ sym c.1) in
    let n : length (with_places (heads ys) (records p)) ≡ size p = length_same rs p e in
    record {
      sheet = p;
      some = some_spelled h.spells;
      whole = whole_spelled h.spells;
      within = h.within;
      same = ap items (take_at rs rest (size p) n) ∙ e;
    }

abbrev Sound : Result ℕ (Placed Refusal) → Recs → Type 0
Sound (Ok n) memory = IsSheet (take n memory)
Sound (Err e) memory = Unit {0}

sound : {text : List ℕ} {room : ℕ} {a : Result ℕ (Placed Refusal)} {memory : Recs} → ReadAnswers text room a memory → Sound a memory
sound {room = room} (accepted {ys} {p} l s k) = read_sheet ys p (cleared (room - size p)) s
sound (overlong h) = tt
sound (faulty l f) = tt
sound (tree_full l s k) = tt

pub read_prints : ReadSheetPrints
read_prints text room n memory h = sound h

pub example : ExamplePrints
unfolding digits
example = refl
