-- What single bytes, runs and digits of a text say.
use Rattle.std.proofs.Common.{◌≡◌, ℕ, suc, ◌+◌, ◌-◌, ◌*◌, ◌<◌, ◌≤◌, cond, Bool, true, false, ◌&&◌, ◌||◌, T, eqb, leb, List, [], ◌∷◌, length, get_or, take, drop, Decides, sym, refl, ap, ◌∙◌, subst, add-zero, arith, take-append-drop, leb→le, length-drop, length-take, eq-eqb, eqb-true}
use borrow.Author.Tests.{clash}
use Rattle.std.specs.Char.{is_ascii_alphanumeric, is_ascii_digit}
use Rattle.std.specs.Str.{all_ascii_digits}
use Rattle.std.specs.List.{prefix_len, list_all}
use Rattle.std.proofs.lemmas.List.Folds.{length-prefix_len}
use Rattle.std.proofs.lemmas.List.{at_drop_more}
use Rattle.reader.specs.Symbols.{PlacedSymbol}
use Rattle.reader.specs.Text.{Blank, space, line_feed, Numeral, just_zero, some_digits, read_on, value, AllAlnum, Stops, Reads, a_blank}
use Rattle.reader.specs.Lexing.{Run, is_blank}
use Rattle.reader.proofs.Readings.{both_hold}

pub truth : {b : Bool} → b ≡ true → T b
truth e = subst T (sym e) tt

pub true_of : (b : Bool) → T b → b ≡ true
true_of true h = refl
true_of false h = absurd h

pub not_both : {b : Bool} → b ≡ false → T b → ⊥
not_both e h = subst T e h

one : (n : ℕ) → 1 + n ≡ suc n
one n = omega arith

-- blanks
pub blank_of : (b : ℕ) → is_blank b ≡ true → Blank b
blank_of b e = go (eqb b 32) (eqb b 10) refl refl e
  where
    go : (p q : Bool) → eqb b 32 ≡ p → eqb b 10 ≡ q → (p || q) ≡ true → Blank b
    go true q h k e = subst Blank (sym (eqb-true b 32 h)) space
    go false true h k e = subst Blank (sym (eqb-true b 10 k)) line_feed
    go false false h k e = absurd (clash e)

pub not_blank : {b : ℕ} → is_blank b ≡ false → Blank b → ⊥
not_blank e space = not_both e tt
not_blank e line_feed = not_both e tt

pub blanks_read : (bs : List ℕ) (p : ℕ) (zs : List PlacedSymbol) → Reads (p + prefix_len is_blank bs) (drop (prefix_len is_blank bs) bs) zs → Reads p bs zs
blanks_read [] p zs r = subst (λ n. Reads n [] zs) (add-zero p) r
blanks_read (b ∷ bs) p zs r = go (is_blank b) refl (λ h. blanks_read bs (suc p) zs h) r
  where
    go : (t : Bool) → is_blank b ≡ t → (Reads (suc p + prefix_len is_blank bs) (drop (prefix_len is_blank bs) bs) zs → Reads (suc p) bs zs) → Reads (p + cond t (1 + prefix_len is_blank bs) 0) (drop (cond t (1 + prefix_len is_blank bs) 0) (b ∷ bs)) zs → Reads p (b ∷ bs) zs
    go true e f r =
        let k = prefix_len is_blank bs in
        let m : p + suc k ≡ suc p + k = omega arith in
        a_blank (blank_of b e) (f (subst (λ n. Reads n (drop k bs) zs) m (subst (λ n. Reads (p + n) (drop n (b ∷ bs)) zs) (one k) r)))
    go false e f r = subst (λ k. Reads k (b ∷ bs) zs) (add-zero p) r

-- runs of letters and digits
alnum_first : (bs : List ℕ) → AllAlnum (take (prefix_len is_ascii_alphanumeric bs) bs)
alnum_first [] = tt
alnum_first (b ∷ bs) = go (is_ascii_alphanumeric b) refl (alnum_first bs)
  where
    go : (t : Bool) → is_ascii_alphanumeric b ≡ t → AllAlnum (take (prefix_len is_ascii_alphanumeric bs) bs) → AllAlnum (take (cond t (1 + prefix_len is_ascii_alphanumeric bs) 0) (b ∷ bs))
    go true e a = subst (λ n. AllAlnum (take n (b ∷ bs))) (sym (one (prefix_len is_ascii_alphanumeric bs))) (truth e, a)
    go false e a = tt

stops_first : (bs : List ℕ) → Stops (drop (prefix_len is_ascii_alphanumeric bs) bs)
stops_first [] = tt
stops_first (b ∷ bs) = go (is_ascii_alphanumeric b) refl (stops_first bs)
  where
    go : (t : Bool) → is_ascii_alphanumeric b ≡ t → Stops (drop (prefix_len is_ascii_alphanumeric bs) bs) → Stops (drop (cond t (1 + prefix_len is_ascii_alphanumeric bs) 0) (b ∷ bs))
    go true e s = subst (λ n. Stops (drop n (b ∷ bs))) (sym (one (prefix_len is_ascii_alphanumeric bs))) s
    go false e s = not_both e

pub run_first : (bs : List ℕ) (n : ℕ) → n ≡ prefix_len is_ascii_alphanumeric bs → 0 < n → Run bs (take n bs)
run_first bs n e h =
    subst (λ k. Run bs (take k bs)) (sym e)
    (record {
      rest = drop (prefix_len is_ascii_alphanumeric bs) bs;
      split = sym (take-append-drop (prefix_len is_ascii_alphanumeric bs) bs);
      alnum = alnum_first bs;
      stops = stops_first bs;
      some = omega (arith, length-prefix_len is_ascii_alphanumeric bs);
    })

pub run_begins : (b : ℕ) (bs : List ℕ) → is_ascii_alphanumeric b ≡ true → 0 < prefix_len is_ascii_alphanumeric (b ∷ bs)
run_begins b bs e = rw e (omega arith)

pub no_run : (b : ℕ) (bs : List ℕ) → prefix_len is_ascii_alphanumeric (b ∷ bs) ≡ 0 → is_ascii_alphanumeric b ≡ false
no_run b bs e = go (is_ascii_alphanumeric b) refl e
  where
    go : (t : Bool) → is_ascii_alphanumeric b ≡ t → cond t (1 + prefix_len is_ascii_alphanumeric bs) 0 ≡ 0 → is_ascii_alphanumeric b ≡ false
    go true h e = absurd (omega arith)
    go false h e = h

-- digits
digit_from : (d : ℕ) → T (is_ascii_digit d) → (48 ≤ d) × (d ≤ 57)
digit_from d h = let b = both_hold (leb 48 d) (leb d 57) h in (leb→le 48 d b.0, leb→le d 57 b.1)

pub read_on_ge : (n : ℕ) (w : List ℕ) → n ≤ read_on n w
read_on_ge n [] = omega arith
read_on_ge n (c ∷ cs) = omega (arith, read_on_ge (10 * n + (c - 48)) cs)

module _ (w : List ℕ) (i : ℕ) (h : i < length w) where
  value_more : (n : ℕ) → read_on n (drop i w) ≡ read_on (10 * n + (get_or w i 0 - 48)) (drop (i + 1) w)
  value_more n = at_drop_more (read_on n) w i 0 h

  -- the digits read so far are too many
  pub big : (n : ℕ) → 99999 < n → read_on n (drop i w) ≡ value w → 999999 < value w
  big n b e = omega (arith, read_on_ge (10 * n + (get_or w i 0 - 48)) (drop (i + 1) w), value_more n)

pub digits_listed : (w : List ℕ) → list_all is_ascii_digit w ≡ all_ascii_digits w
digits_listed [] = refl
digits_listed (d ∷ w) = ap (λ b. is_ascii_digit d && b) (digits_listed w)

pub zero_alone : (w : List ℕ) → get_or w 0 0 ≡ 48 → Decides (eqb (length w) 1) (Numeral w)
zero_alone [] e = absurd (omega arith)
zero_alone (d ∷ []) e = (λ t. subst (λ (b : ℕ). Numeral (b ∷ [])) (sym e) just_zero, λ n. refl)
zero_alone (d ∷ c ∷ ds) e = ((λ t. absurd (omega (arith, eqb-true (length (d ∷ c ∷ ds)) 1 t))), λ n. absurd (long n e))
  where
    long : {d c : ℕ} {ds : List ℕ} → Numeral (d ∷ c ∷ ds) → d ≡ 48 → ⊥
    long (some_digits f g a) e = omega arith

pub zero_first : (w : List ℕ) (r : Bool) → 0 < length w → get_or w 0 0 ≡ 48 → r ≡ eqb (length (take (length w - 1) (drop 1 w))) 0 → Decides r (Numeral w)
zero_first w r h e k =
    let n : length (take (length w - 1) (drop 1 w)) ≡ length w - 1 = simp (length-take, length-drop) (omega arith) in
    let z = zero_alone w e in (
      λ t. let m = eqb-true (length (take (length w - 1) (drop 1 w))) 0 (sym k ∙ t) in z.0 (eq-eqb (length w) 1 (omega arith)),
      λ a. let m = eqb-true (length w) 1 (z.1 a) in k ∙ eq-eqb (length (take (length w - 1) (drop 1 w))) 0 (omega arith),
    )

pub other_digits : (w : List ℕ) → 0 < length w → (get_or w 0 0 ≡ 48 → ⊥) → Decides (all_ascii_digits w) (Numeral w)
other_digits [] h f = absurd (omega arith)
other_digits (d ∷ ds) h f = (there, back f)
  where
    there : all_ascii_digits (d ∷ ds) ≡ true → Numeral (d ∷ ds)
    there t = let b = both_hold (is_ascii_digit d) (all_ascii_digits ds) (truth t) in let low = (digit_from d b.0).0 in some_digits (omega arith) b.0 b.1

    both_true : (a b : Bool) → T a → T b → (a && b) ≡ true
    both_true true b h k = true_of b k
    both_true false b h k = absurd h

    back : {d : ℕ} {ds : List ℕ} → (d ≡ 48 → ⊥) → Numeral (d ∷ ds) → all_ascii_digits (d ∷ ds) ≡ true
    back f just_zero = refl
    back {d} {ds} f (some_digits g k a) = both_true (is_ascii_digit d) (all_ascii_digits ds) k a
