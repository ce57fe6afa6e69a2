-- The number that digits write, up to a cap.
use Rattle.std.proofs.Common.{◌≡◌, ℕ, ◌+◌, ◌-◌, ◌*◌, ◌<◌, ◌≤◌, min, Bool, true, ◌&&◌, List, [], ◌∷◌, length, get_or, drop, sym, ap, ◌∙◌, arith}
use Rattle.std.proofs.lemmas.List.{at_drop_more}
use Rattle.std.specs.Char.{is_ascii_digit}
use Rattle.std.specs.Str.{all_ascii_digits}
use Rattle.reader.specs.Text.{read_on, value}

-- what digits write after two numbers is the same up to the cap, if the numbers are
same_capped : (cap : ℕ) (ds : List ℕ) (a b : ℕ) → min a cap ≡ min b cap → min (read_on a ds) cap ≡ min (read_on b ds) cap
same_capped cap [] a b e = e
same_capped cap (d ∷ ds) a b e = same_capped cap ds (10 * a + (d - 48)) (10 * b + (d - 48)) (omega (arith, e))

-- below i stand only digits of w, and n is what they write, up to the cap
abbrev pub Counted : ℕ → List ℕ → ℕ → ℕ → Type 0
Counted cap w i n = (all_ascii_digits (drop i w) ≡ all_ascii_digits w) × (min (read_on n (drop i w)) cap ≡ min (value w) cap) × (n ≤ cap)

digits_more : (w : List ℕ) (i : ℕ) → i < length w → all_ascii_digits (drop i w) ≡ (is_ascii_digit (get_or w i 0) && all_ascii_digits (drop (i + 1) w))
digits_more w i lt = at_drop_more all_ascii_digits w i 0 lt

pub counted_more : (cap : ℕ) (w : List ℕ) (i n m : ℕ) → i < length w → is_ascii_digit (get_or w i 0) ≡ true → m ≡ min (min (n * 10) cap + (get_or w i 0 - 48)) cap → Counted cap w i n → Counted cap w (i + 1) m
counted_more cap w i n m lt digit e h = (
  sym (digits_more w i lt ∙ ap (λ (t : Bool). t && all_ascii_digits (drop (i + 1) w)) digit) ∙ h.0,
  same_capped cap (drop (i + 1) w) m (10 * n + (get_or w i 0 - 48)) (omega (arith, e)) ∙ ap (λ (k : ℕ). min k cap) (sym (at_drop_more (read_on n) w i 0 lt)) ∙ h.1,
  omega (arith, e),
)
