-- A text and three memories have one answer of load.
use Rattle.std.proofs.Common.{◌≡◌, ℕ, ◌-◌, ◌≤◌, List, ◌++◌, length, Err, Result, sym, refl, ap, ◌∙◌, ap₂, arith}
use Rattle.reader.specs.declared.types.Placed.{Placed}
use Rattle.reader.specs.declared.types.Refusal.{Refusal}
use Rattle.reader.specs.Sheet.{Sheet, size}
use Rattle.reader.specs.Symbols.{heads}
use Rattle.reader.specs.Records.{records, with_places, cleared}
use Rattle.reader.specs.Reading.{ReadAnswers, accepted}
use Rattle.reader.proofs.OneAnswer.{same_symbols, same_sheet, one_answer}
use Rattle.translator.specs.declared.types.Fault.{Fault}
use Rattle.translator.specs.declared.types.Stage.TheVariants.{Read}
use Rattle.translator.specs.Counters.{sheet_width}
use Rattle.translator.specs.Translation.{flat, flat_size, compiled, placed_flats}
use Rattle.translator.specs.Loading.{fault, cleared_flats, cleared_code, SpelledSheet, Loaded, LoadRefuses, unread, unflattened, unlaid, LoadIsUnique}

-- a text spells one sheet, with one list of places
spelled_once : (text : List ℕ) {p q : Sheet} {xs ys : List ℕ} → SpelledSheet text p xs → SpelledSheet text q ys → (p ≡ q) × (xs ≡ ys)
spelled_once text a b =
    (same_sheet text a.lexed b.lexed a.sheeted b.sheeted, a.places ∙ ap heads (same_symbols text a.lexed b.lexed) ∙ sym b.places)

-- a text that spells a sheet for which there is room is read
read_so : (text : List ℕ) (r : ℕ) {p : Sheet} {xs : List ℕ} {e : Placed Refusal} → SpelledSheet text p xs → size p ≤ r → ReadAnswers text r (Err e) (cleared r) → ⊥
read_so text r a h b =
    let q = (one_answer text r _ _ _ _ (accepted a.lexed a.sheeted h) b).0 in
    let z : ◌≡◌ {A = ℕ} 0 1 = cc in omega arith

loads_once : (text : List ℕ) (r f c : ℕ) (e e' : Fault) → LoadRefuses text r f c e → LoadRefuses text r f c e' → e ≡ e'
loads_once text r f c e e' (unread a) (unread b) = let q = (one_answer text r _ _ _ _ a b).0 in ap (fault Read) (same q)
  where
    same : {x y : Placed Refusal} → ◌≡◌ {A = Result ℕ (Placed Refusal)} (Err x) (Err y) → x ≡ y
    same q = cc
loads_once text r f c e e' (unread a) (unflattened b h k) = absurd (read_so text r b h a)
loads_once text r f c e e' (unread a) (unlaid b h k l) = absurd (read_so text r b h a)
loads_once text r f c e e' (unflattened a h k) (unread b) = absurd (read_so text r a h b)
loads_once text r f c e e' (unflattened a h k) (unflattened b h' k') = refl
loads_once text r f c e e' (unflattened a h k) (unlaid b h' k' l) = let q = ap (λ (p : Sheet). flat_size (flat p)) (spelled_once text a b).0 in absurd (omega arith)
loads_once text r f c e e' (unlaid a h k l) (unread b) = absurd (read_so text r a h b)
loads_once text r f c e e' (unlaid a h k l) (unflattened b h' k') = let q = ap (λ (p : Sheet). flat_size (flat p)) (spelled_once text a b).0 in absurd (omega arith)
loads_once text r f c e e' (unlaid a h k l) (unlaid b h' k' l') = refl

pub load_is_unique : LoadIsUnique
load_is_unique =
    record {
      accepted = λ text r f c rs rs' fs fs' s t a b.
          let q = spelled_once text a.spelled b.spelled in
          let p = q.0 in
          let xs = q.1 in (
            a.statements ∙ ap₂ (λ (ys : List ℕ) (z : Sheet). with_places ys (records z) ++ cleared (r - size z)) xs p ∙ sym b.statements,
            a.flats ∙ ap₂ (λ (ys : List ℕ) (z : Sheet). placed_flats z ys ++ cleared_flats (f - flat_size (flat z))) xs p ∙ sym b.flats,
            record {
              code = a.code ∙ ap compiled p ∙ sym b.code;
              memory = a.memory ∙ ap (λ (z : Sheet). compiled z ++ cleared_code (c - length (compiled z))) p ∙ sym b.memory;
              registers = a.registers ∙ ap sheet_width p ∙ sym b.registers;
            },
          );
      refused = loads_once;
      apart = λ text r f c rs fs s e a b. never text r f c a b;
    }
  where
    never : (text : List ℕ) (r f c : ℕ) {rs : _} {fs : _} {s : _} {e : Fault} → Loaded text r f c rs fs s → LoadRefuses text r f c e → ⊥
    never text r f c a (unread b) = read_so text r a.spelled a.room.0 b
    never text r f c a (unflattened b h k) = let q = ap (λ (p : Sheet). flat_size (flat p)) (spelled_once text a.spelled b).0 in let m = a.room.1 in omega arith
    never text r f c a (unlaid b h k l) = let q = ap (λ (p : Sheet). length (compiled p)) (spelled_once text a.spelled b).0 in let m = a.room.2 in omega arith
