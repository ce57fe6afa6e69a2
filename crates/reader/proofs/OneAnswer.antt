-- A text and its memory have one answer.
use Rattle.std.proofs.Common.{◌≡◌, ℕ, ◌-◌, List, [], ◌∷◌, ◌++◌, length, get_or, Ok, Err, Result, sym, refl, ap, ◌∙◌, subst, ap₂, arith}
use Rattle.reader.specs.declared.types.Placed.{Placed}
use Rattle.reader.specs.declared.types.Refusal.{Refusal}
use Rattle.reader.specs.declared.types.Refusal.TheVariants.{Overlong, StrayByte, StrangeWord, TooBig, OutOfOrder, TooDeep, TooMany, TreeFull, NoSheet, FlatFull, CodeFull, JumpOpen, NotOpen, BadDraft, PageFull, NoRegister, OverTop, SmallStore, ManyInputs, LongTick, LongShow}
use Rattle.reader.specs.declared.types.Statement.{Statement}
use Rattle.reader.specs.Sheet.{Sheet, size}
use Rattle.reader.specs.Symbols.{PlacedSymbol, placed, symbols, heads}
use Rattle.reader.specs.Grammar.{Spells}
use Rattle.reader.specs.Faults.{FirstFault}
use Rattle.reader.specs.Machine.{Verdict, accepted, refused, verdict}
use Rattle.reader.specs.Refusals.{refusal_number}
use Rattle.reader.specs.Records.{records, with_places, cleared}
use Rattle.reader.specs.Reading.{Lexed, Sheeted, ReadAnswers, accepted as accepts, overlong, faulty, tree_full}
use Rattle.reader.specs.Claims.{AnswerIsUnique, Readable, AcceptedExactly}
use Rattle.reader.proofs.Exactly.{complete, told}
use Rattle.reader.proofs.Uniquely.{unique}
use Rattle.reader.proofs.Readings.{same_reading}

-- a refusal is told by its number
numbered : ℕ → Refusal
numbered n =
    get_or (Overlong ∷ Overlong ∷ StrayByte ∷ StrangeWord ∷ TooBig ∷ OutOfOrder ∷ TooDeep ∷ TooMany ∷ TreeFull ∷ NoSheet ∷ Overlong ∷ FlatFull ∷ CodeFull ∷ JumpOpen ∷ NotOpen ∷ BadDraft ∷ PageFull ∷ Overlong ∷ Overlong ∷ Overlong ∷ Overlong ∷ NoRegister ∷ OverTop ∷ Overlong ∷ Overlong ∷ Overlong ∷ Overlong ∷ Overlong ∷ Overlong ∷ Overlong ∷ Overlong ∷ SmallStore ∷ ManyInputs ∷ LongTick ∷ LongShow ∷ []) n Overlong

numbered_number : (r : Refusal) → numbered (refusal_number r) ≡ r
unfolding numbered
numbered_number Overlong = refl
numbered_number StrayByte = refl
numbered_number StrangeWord = refl
numbered_number TooBig = refl
numbered_number OutOfOrder = refl
numbered_number TooDeep = refl
numbered_number TooMany = refl
numbered_number TreeFull = refl
numbered_number NoSheet = refl
numbered_number FlatFull = refl
numbered_number CodeFull = refl
numbered_number JumpOpen = refl
numbered_number NotOpen = refl
numbered_number BadDraft = refl
numbered_number PageFull = refl
numbered_number NoRegister = refl
numbered_number OverTop = refl
numbered_number SmallStore = refl
numbered_number ManyInputs = refl
numbered_number LongTick = refl
numbered_number LongShow = refl

pub same_number : (r s : Refusal) → refusal_number r ≡ refusal_number s → r ≡ s
same_number r s e = sym (numbered_number r) ∙ ap numbered e ∙ numbered_number s

never : {n p : ℕ} {v : Verdict} → v ≡ accepted → v ≡ refused n p → ⊥
never a b = let z : ◌≡◌ {A = ℕ} 0 1 = cc in omega arith

module _ (text : List ℕ) {ys zs : List PlacedSymbol} (a : Lexed text ys) (b : Lexed text zs) where
  pub same_symbols : ys ≡ zs
  same_symbols = same_reading a.reads b.reads refl refl

  pub same_sheet : {p q : Sheet} → Sheeted ys p → Sheeted zs q → p ≡ q
  same_sheet {p} {q} s t = unique (symbols ys) p q s.spells (subst (λ (l : List PlacedSymbol). Spells (symbols l) q) (sym same_symbols) t.spells)

  no_fault : {p : Sheet} {place n : ℕ} → Sheeted ys p → FirstFault (length text) [] zs place n → ⊥
  no_fault {p} {place} {n} s f = never (complete (length text) ys (p, s.spells, s.within)) (ap (verdict (length text)) same_symbols ∙ told (length text) zs place n f)

  same_fault : {place place' : ℕ} {r s : Refusal} → FirstFault (length text) [] ys place (refusal_number r) → FirstFault (length text) [] zs place' (refusal_number s) → placed place r ≡ placed place' s
  same_fault {place} {place'} {r} {s} f g =
      let e = sym (told (length text) ys place (refusal_number r) f) ∙ ap (verdict (length text)) same_symbols ∙ told (length text) zs place' (refusal_number s) g in
      ap₂ placed (same_place e) (same_number r s (same_refusal e))
    where
      same_place : {m n p q : ℕ} → refused m p ≡ refused n q → p ≡ q
      same_place e = cc

      same_refusal : {m n p q : ℕ} → refused m p ≡ refused n q → m ≡ n
      same_refusal e = cc

pub one_answer : AnswerIsUnique
one_answer text room a b k l (accepts x s h) (accepts y t g) =
    let ys = same_symbols text x y in
    let p = same_sheet text x y s t in
    (ap (λ q. Ok (size q)) p, ap₂ (λ us q. with_places (heads us) (records q) ++ cleared (room - size q)) ys p)
one_answer text room a b k l (accepts x s h) (overlong g) = absurd (omega (arith, x.short))
one_answer text room a b k l (accepts x s h) (faulty y f) = absurd (no_fault text x y s f)
one_answer text room a b k l (accepts x s h) (tree_full y t g) = absurd (omega (arith, ap size (same_sheet text x y s t)))
one_answer text room a b k l (overlong h) (accepts y t g) = absurd (omega (arith, y.short))
one_answer text room a b k l (overlong h) (overlong g) = (refl, refl)
one_answer text room a b k l (overlong h) (faulty y f) = absurd (omega (arith, y.short))
one_answer text room a b k l (overlong h) (tree_full y t g) = absurd (omega (arith, y.short))
one_answer text room a b k l (faulty x f) (accepts y t g) = absurd (no_fault text y x t f)
one_answer text room a b k l (faulty x f) (overlong g) = absurd (omega (arith, x.short))
one_answer text room a b k l (faulty x f) (faulty y g) = (ap (λ e. Err e) (same_fault text x y f g), refl)
one_answer text room a b k l (faulty x f) (tree_full y t g) = absurd (no_fault text y x t f)
one_answer text room a b k l (tree_full x s h) (accepts y t g) = absurd (omega (arith, ap size (same_sheet text x y s t)))
one_answer text room a b k l (tree_full x s h) (overlong g) = absurd (omega (arith, x.short))
one_answer text room a b k l (tree_full x s h) (faulty y f) = absurd (no_fault text x y s f)
one_answer text room a b k l (tree_full x s h) (tree_full y t g) = (refl, refl)

pub exactly_accepted : AcceptedExactly
exactly_accepted text room r k a = ((λ h. (one_answer text room r (Ok (size h.sheet)) k _ a (accepts h.lexed h.sheeted h.fits)).0), λ n e. back a e)
  where
    back : {r : Result ℕ (Placed Refusal)} {k : List (Placed Statement)} {n : ℕ} → ReadAnswers text room r k → r ≡ Ok n → Readable text room
    back (accepts {ys} {p} x s h) e = record { ys = ys; sheet = p; lexed = x; sheeted = s; fits = h }
    back (overlong h) e = absurd (let z : ◌≡◌ {A = ℕ} 0 1 = cc in omega arith)
    back (faulty x f) e = absurd (let z : ◌≡◌ {A = ℕ} 0 1 = cc in omega arith)
    back (tree_full x s h) e = absurd (let z : ◌≡◌ {A = ℕ} 0 1 = cc in omega arith)
