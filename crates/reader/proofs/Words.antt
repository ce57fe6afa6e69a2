-- What words and marks say.
use Rattle.std.proofs.Common.{◌≡◌, ℕ, ◌<◌, ◌≤◌, Bool, true, false, List, [], ◌∷◌, length, get_or, drop, Some, None, Ok, Err, codes, Option, Result, nat_eq, sym, refl, ap, ◌∙◌, subst, arith}
use Rattle.std.proofs.lemmas.Slice.Eq.{slice_eq-Decides}
use Rattle.std.proofs.lemmas.Bool.Decides.{not_from_Decides, Decides-eqb}
use Rattle.std.proofs.lemmas.Slice.{between_to_end}
use Rattle.std.specs.List.{between}
use Rattle.std.specs.Prelude.{MatchOption}
use Rattle.std.specs.Option.{ok_or}
use Rattle.std.specs.Cmp.Lexicographic.{pointwise}
use Rattle.reader.specs.declared.types.Refusal.{Refusal}
use Rattle.reader.specs.declared.types.Refusal.TheVariants.{StrangeWord, TooBig}
use Rattle.reader.specs.declared.types.Lexeme.{Lexeme}
use Rattle.reader.specs.declared.types.Lexeme.TheVariants as lexeme
use Rattle.reader.specs.Symbols.{Symbol, number, register, strange, big_number, big_register, strange_word}
use Rattle.reader.specs.Text.{Numeral, just_zero, some_digits, value, Word, word_number, word_register, Means, a_word, no_word}
use Rattle.reader.specs.Lexing.{NumberTold, small_number, large_number, no_number, RegisterTold, small_register, large_register, no_register, WordTold, digit_first}
use Rattle.reader.proofs.Counts.{fine_number, fine_register}
use Rattle.reader.proofs.Lexing.{truth, true_of, not_both}
use Rattle.reader.proofs.Scanning.{is_no_word}

-- numbers
told_small : (w : List ℕ) (n : ℕ) → Numeral w → n ≡ value w → n ≤ 999999 → NumberTold w (Ok n)
told_small w n a e h = subst (λ (k : ℕ). NumberTold w (Ok k)) (sym e) (small_number a (omega arith))

pub told_number_or : (w : List ℕ) → Numeral w → (o : Option ℕ) → MatchOption o (999999 < value w) (λ n. (n ≡ value w) × (n ≤ 999999)) → (r : Result ℕ Refusal) → r ≡ ok_or o TooBig → NumberTold w r
told_number_or w a None h r e = subst (NumberTold w) (sym e) (large_number a h)
told_number_or w a (Some n) h r e = subst (NumberTold w) (sym e) (told_small w n a h.0 h.1)

numeral_digit : {w : List ℕ} → Numeral w → digit_first w ≡ true
numeral_digit just_zero = refl
numeral_digit (some_digits g k a) = true_of _ k

-- registers
nothing_named : (w : List ℕ) → length w ≡ 0 → (ds : List ℕ) → w ≡ 120 ∷ ds → ⊥
nothing_named w h ds e = omega (arith, ap length e)

pub register_none_empty : (w : List ℕ) → length w ≡ 0 → RegisterTold w (Err StrangeWord)
register_none_empty w h = no_register (λ ds e n. nothing_named w h ds e)

pub register_none_other : (w : List ℕ) → (get_or w 0 0 ≡ 120 → ⊥) → RegisterTold w (Err StrangeWord)
register_none_other w f = no_register (λ ds e n. f (ap (λ (l : List ℕ). get_or l 0 0) e))

module _ (w : List ℕ) (some : 0 < length w) (x : get_or w 0 0 ≡ 120) where
  behind_x : w ≡ 120 ∷ between 1 (length w) w
  behind_x = split w some x ∙ ap (λ (l : List ℕ). 120 ∷ l) (sym (between_to_end w 1 (length w) (omega arith)))
    where
      split : (w : List ℕ) → 0 < length w → get_or w 0 0 ≡ 120 → w ≡ 120 ∷ drop 1 w
      split [] h e = absurd (omega arith)
      split (b ∷ w) h e = ap (λ (c : ℕ). c ∷ w) e

  pub register_small : {i : ℕ} → NumberTold (between 1 (length w) w) (Ok i) → i ≤ 31 → RegisterTold w (Ok (lexeme.Register i))
  register_small t h = go behind_x t h
    where
      go : {ds : List ℕ} {i : ℕ} → w ≡ 120 ∷ ds → NumberTold ds (Ok i) → i ≤ 31 → RegisterTold w (Ok (lexeme.Register i))
      go e (small_number n k) h = small_register e n h

  pub register_large : {i : ℕ} → NumberTold (between 1 (length w) w) (Ok i) → 31 < i → RegisterTold w (Err TooBig)
  register_large t h = go behind_x t h
    where
      go : {ds : List ℕ} {i : ℕ} → w ≡ 120 ∷ ds → NumberTold ds (Ok i) → 31 < i → RegisterTold w (Err TooBig)
      go e (small_number n k) h = large_register e n h

  pub register_none : {f : Refusal} → NumberTold (between 1 (length w) w) (Err f) → RegisterTold w (Err f)
  register_none t = go behind_x t
    where
      same : {ds ks : List ℕ} → w ≡ 120 ∷ ds → w ≡ 120 ∷ ks → ks ≡ ds
      same a b = cc

      go : {ds : List ℕ} {f : Refusal} → w ≡ 120 ∷ ds → NumberTold ds (Err f) → RegisterTold w (Err f)
      go e (large_number n h) = large_register e n (omega arith)
      go e (no_number f) = no_register (λ ks a n. f (subst Numeral (same e a) n))

-- words
module _ (w l : List ℕ) (r : Bool) (m : r ≡ pointwise nat_eq w l) where
  pub is_word : {s : Symbol} → Word l s → r ≡ true → Means w s
  is_word {s} v t = a_word (subst (λ (k : List ℕ). Word k s) (sym ((slice_eq-Decides Decides-eqb w l r m).0 t)) v)

  pub not_word : r ≡ false → w ≡ l → ⊥
  not_word t = not_from_Decides r (slice_eq-Decides Decides-eqb w l r m) t

pub told_register : {w : List ℕ} {r : Result Lexeme Refusal} → digit_first w ≡ false → (w ≡ codes "LOOP" → ⊥) → (w ≡ codes "WHILE" → ⊥) → (w ≡ codes "DO" → ⊥) → (w ≡ codes "END" → ⊥) → RegisterTold w r → WordTold w r
told_register d f g h i (small_register {ds} e n k) = (a_word (subst (λ (l : List ℕ). Word l (register (value ds))) (sym e) (word_register n)), fine_register (value ds) k)
told_register d f g h i (large_register {ds} e n k) = (register (value ds), a_word (subst (λ (l : List ℕ). Word l (register (value ds))) (sym e) (word_register n)), big_register k)
told_register d f g h i (no_register k) = (strange, no_word (λ s v. is_no_word f g h i (λ n. not_both d (truth (numeral_digit n))) (λ x. k x.0 x.1 x.2) v), strange_word)

digit_not : {w l : List ℕ} → digit_first w ≡ true → digit_first l ≡ false → w ≡ l → ⊥
digit_not {w} {l} d e h = not_both e (truth (ap digit_first (sym h) ∙ d))

pub told_number : {w : List ℕ} {n : ℕ} → NumberTold w (Ok n) → WordTold w (Ok (lexeme.Number n))
told_number {w} (small_number a h) = (a_word (word_number a), fine_number (value w) h)

pub told_no_number : {w : List ℕ} {f : Refusal} → digit_first w ≡ true → NumberTold w (Err f) → WordTold w (Err f)
told_no_number {w} d (large_number a h) = (number (value w), a_word (word_number a), big_number h)
told_no_number d (no_number f) =
    (strange, no_word (λ s v. is_no_word (digit_not d refl) (digit_not d refl) (digit_not d refl) (digit_not d refl) f (λ x. digit_not d refl x.1) v), strange_word)
