-- A whole text: what the parser accepts and refuses is what the grammar and the table of refusals say.
use Rattle.std.proofs.Common.{◌≡◌, ℕ, suc, ◌+◌, ◌-◌, ◌<◌, ◌≤◌, List, [], ◌∷◌, ◌++◌, length, take, drop, set, Some, None, Ok, Err, Option, sym, ap, ◌∙◌, subst, append_assoc, append-nil, zero-add, arith, length-set, Result}
use Rattle.std.proofs.lemmas.List.{take_more_set}
use Rattle.std.specs.Result.{result_unwrap_or}
use Rattle.reader.specs.declared.types.Placed.{Placed}
use Rattle.reader.specs.declared.types.Refusal.{Refusal}
use Rattle.reader.specs.declared.types.Refusal.TheVariants.{TreeFull}
use Rattle.reader.specs.declared.types.Lexeme.{Lexeme}
use Rattle.reader.specs.declared.types.Statement.{Statement}
use Rattle.reader.specs.declared.parser.Parser.{Parser}
use Rattle.reader.specs.Sheet.{Within, size}
use Rattle.reader.specs.Symbols.{PlacedSymbol, placed, symbols, heads}
use Rattle.reader.specs.Text.{Reads}
use Rattle.reader.specs.Machine.{accepted, judge, verdict}
use Rattle.reader.specs.Claims.{Says}
use Rattle.reader.specs.Records.{records, with_places, cleared}
use Rattle.filing.specs.Tables.{overwrite}
use Rattle.reader.specs.Reading.{Sheeted, ReadAnswers, accepted as accepts, faulty, tree_full}
use Rattle.reader.specs.Lexing.{Between}
use Rattle.reader.specs.Expecting.{Over}
use Rattle.reader.specs.Parsing.{text_of, pos_of, memory_of, Parsed, RefusedBehind, Follows, Fresh, SheetRefused, sheet_faulty, sheet_large, SheetRead}
use Rattle.reader.proofs.Exactly.{exact}
use Rattle.reader.proofs.Uniquely.{unique}
use Rattle.reader.proofs.Overwriting.{length-overwrite}
use Rattle.reader.proofs.Placing.{length-placed}
use Rattle.reader.proofs.Refusing.{sheet_open}

module _ (room : ℕ) (a : Parser) (fresh : Fresh room a) where
  pub sheet_refused : (e : Placed Refusal) → RefusedBehind [] (text_of a) (pos_of a) 0 a.counts.statements a.counts.loops e → SheetRefused room (text_of a) e
  sheet_refused e r =
      let p = subst (λ f. RefusedBehind [] (text_of a) f 0 a.counts.statements a.counts.loops e) fresh.pos r in
      let q = subst (λ n. RefusedBehind [] (text_of a) 0 0 n a.counts.loops e) fresh.begun p in
      let s = subst (λ m. RefusedBehind [] (text_of a) 0 0 0 m e) fresh.looped q in
      sheet_faulty s.1 (subst (Says (length (text_of a)) s.0) s.2 (exact (length (text_of a)) s.0))

  -- the statements of the whole text
  abbrev pub Whole : Parser → Option (Placed Lexeme) → Type 0
  Whole z x =
      (us : List PlacedSymbol) × (mid : ℕ) × Between (text_of a) (pos_of a) mid us
      × Parsed (length (text_of a)) 0 a.counts.statements a.counts.loops (memory_of a) us z.counts.statements z.counts.loops (memory_of z) × Follows (text_of a) mid x (pos_of z)

  pub sheet_followed : (z : Parser) (x : Option (Placed Lexeme)) (e : Placed Refusal) → Whole z x → Over (length (text_of a)) x (Err e) → SheetRefused room (text_of a) e
  sheet_followed z None e h o = absurd o
  sheet_followed z (Some x) e h o = sheet_refused e (sheet_open (text_of a) (pos_of a) h.1 (pos_of z) h.0 h.2 h.3 e x h.4 o)

  module _ (z : Parser) (x : Option (Placed Lexeme)) (h : Whole z x) (end : ℕ) (o : Over (length (text_of a)) x (Ok end)) where
    parsed : Parsed (length (text_of a)) 0 0 0 (memory_of a) h.0 z.counts.statements z.counts.loops (memory_of z)
    parsed =
        subst (λ m. Parsed (length (text_of a)) 0 0 m (memory_of a) h.0 z.counts.statements z.counts.loops (memory_of z)) fresh.looped
        (subst (λ n. Parsed (length (text_of a)) 0 n a.counts.loops (memory_of a) h.0 z.counts.statements z.counts.loops (memory_of z)) fresh.begun h.3)

    at_end : (x : Option (Placed Lexeme)) → Follows (text_of a) h.1 x (pos_of z) → Over (length (text_of a)) x (Ok end) → Reads h.1 (drop h.1 (text_of a)) []
    at_end None f o = f
    at_end (Some y) f o = absurd o

    end_is : (x : Option (Placed Lexeme)) → Over (length (text_of a)) x (Ok end) → end ≡ length (text_of a)
    end_is None o = o
    end_is (Some y) o = absurd o

    whole_reads : Reads 0 (text_of a) h.0
    whole_reads =
        subst (Reads 0 (text_of a)) (append-nil h.0)
        (subst (λ f. Between (text_of a) f h.1 h.0) fresh.pos h.2 [] (at_end x h.4 o))

    passes : verdict (length (text_of a)) h.0 ≡ accepted
    unfolding judge
    passes = ap (verdict (length (text_of a))) (sym (append-nil h.0)) ∙ parsed.judged []

    whole_sheet : Sheeted h.0 parsed.sheet
    whole_sheet =
        let g = subst (Says (length (text_of a)) h.0) passes (exact (length (text_of a)) h.0) in
        record { spells = parsed.spells; within = subst Within (unique (symbols h.0) g.0 parsed.sheet g.1 parsed.spells) g.2 }

    counted : z.counts.statements ≡ size parsed.sheet
    counted = parsed.grown ∙ zero-add (size parsed.sheet)

    pub sheet_read : z.counts.statements ≤ room → SheetRead room (text_of a) (memory_of a) (Ok z.counts.statements) (memory_of z)
    sheet_read le = (h.0, parsed.sheet, whole_reads, whole_sheet, counted, le, parsed.filed)

    pub sheet_over : room < z.counts.statements → SheetRefused room (text_of a) (placed end TreeFull)
    sheet_over lt = subst (λ p. SheetRefused room (text_of a) (placed p TreeFull)) (sym (end_is x o)) (sheet_large whole_reads whole_sheet (omega (arith, counted)))

-- the answer of a read, from what the parser tells
take-overwrite : {A : Type 0} (m : List A) (n : ℕ) (xs : List A) → n + length xs ≤ length m → take (n + length xs) (overwrite m n xs) ≡ take n m ++ xs
take-overwrite m n [] h = ap (λ k. take k m) (omega arith) ∙ sym (append-nil (take n m))
take-overwrite m n (x ∷ xs) h =
    let l : n < length m = omega arith in
    let w : suc n + length xs ≤ length (set m n x) = simp length-set (omega arith) in
    front (n + suc (length xs)) (suc n + length xs) (overwrite (set m n x) (suc n) xs) (omega arith)
    ∙ (take-overwrite (set m n x) (suc n) xs w
    ∙ (ap (λ l. l ++ xs) (front (suc n) (n + 1) (set m n x) (omega arith) ∙ take_more_set m n x l) ∙ append_assoc (take n m) (x ∷ []) xs))
  where
    front : {A : Type 0} (i j : ℕ) (l : List A) → i ≡ j → take i l ≡ take j l
    front i j l e = ap (λ k. take k l) e

pub all_cleared : (l : List (Placed Statement)) (room : ℕ) → length l ≡ room → take 0 l ++ cleared (length l - 0) ≡ cleared room
all_cleared l room e = ap cleared (go (length l) room e)
  where
    go : (m n : ℕ) → m ≡ n → m - 0 ≡ n
    go m n e = omega arith

module _ (text : List ℕ) (room : ℕ) (short : length text ≤ 16384) where
  answer_refused : (e : Placed Refusal) (after : List (Placed Statement)) → after ≡ cleared room → SheetRefused room text e → ReadAnswers text room (Err e) after
  answer_refused e after q r = subst (ReadAnswers text room (Err e)) (sym q) (go r)
    where
      go : {e : Placed Refusal} → SheetRefused room text e → ReadAnswers text room (Err e) (cleared room)
      go (sheet_faulty r f) = faulty (record { short = short; reads = r }) f
      go (sheet_large r s l) = tree_full (record { short = short; reads = r }) s l

  -- the records stand from the front, and the rest is cleared
  answered_ok : (n : ℕ) (before now after : List (Placed Statement)) → length before ≡ room → SheetRead room text before (Ok n) now → after ≡ take n now ++ cleared (length now - n) → ReadAnswers text room (Ok n) after
  answered_ok n before now after er h f =
      let ys = h.0 in
      let p = h.1 in
      let rs = with_places (heads ys) (records p) in
      let en = h.4 in
      let size_is : length rs ≡ size p = length-placed 0 ys p h.3.spells in
      let fits : 0 + length rs ≤ length before = omega (arith, h.5) in
      let count-is : n ≡ 0 + length rs = omega arith in
      let length-is : length now ≡ room = ap length h.6 ∙ (length-overwrite before 0 rs ∙ er) in
      let rest_is : length now - n ≡ room - size p = omega arith in
      let memory : after ≡ rs ++ cleared (room - size p) =
      f ∙ (ap (λ k. take n now ++ cleared k) rest_is
      ∙ ap (λ l. l ++ cleared (room - size p)) (ap (λ k. take k now) count-is ∙ (ap (take (0 + length rs)) h.6 ∙ take-overwrite before 0 rs fits))) in
      subst (λ k. ReadAnswers text room (Ok k) after) (sym en)
      (subst (ReadAnswers text room (Ok (size p))) (sym memory) (accepts (record { short = short; reads = h.2 }) h.3 (omega (arith, h.5))))

  answered_err : (e : Placed Refusal) (before now after : List (Placed Statement)) → length before ≡ room → SheetRead room text before (Err e) now → after ≡ take 0 now ++ cleared (length now - 0) → ReadAnswers text room (Err e) after
  answered_err e before now after er h f = answer_refused e after (f ∙ all_cleared now room (h.1 ∙ er)) h.0

  pub answered : (r : Result ℕ (Placed Refusal)) (k : ℕ) (before now after : List (Placed Statement)) → length before ≡ room → SheetRead room text before r now → k ≡ result_unwrap_or r 0 → after ≡ take k now ++ cleared (length now - k) → ReadAnswers text room r after
  answered (Ok n) k before now after er h e f = answered_ok n before now after er h (subst (λ j. after ≡ take j now ++ cleared (length now - j)) e f)
  answered (Err x) k before now after er h e f = answered_err x before now after er h (subst (λ j. after ≡ take j now ++ cleared (length now - j)) e f)
