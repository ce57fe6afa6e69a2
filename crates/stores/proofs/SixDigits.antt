-- Numbers as six digits: what a decimal store's calls read and leave.
use Rattle.std.proofs.Common.{◌≡◌, ℕ, zero, suc, ◌+◌, ◌-◌, ◌*◌, ◌/◌, ◌%◌, ◌<◌, ◌≤◌, min, ◌≢◌, ◌⊎◌, List, [], ◌∷◌, ◌++◌, length, get_or, take, drop, set, sym, refl, ap, ◌∙◌, inl, inr, ⊎_elim, add-zero, add-one, arith, length-set, length-drop, length-take}
use borrow.Rule.Slice.PartMut.{put_mid}
use native.Mathlib.Numerals.{unary_clauses}
use native.Mathlib.Nat.{div-div-eq-div-mul}
use Rattle.std.proofs.lemmas.List.{get_or-take, get_or-drop, get_or-set_same, get_or-set_other, get_or_past, ext_get_or, drop-set-lt, length-replicate}
use Rattle.std.proofs.lemmas.List.FromFn.{length-map-range_with_len, get_or-map-range_with_len}
use Rattle.std.proofs.lemmas.Bool.{cases_lt, cases_eq}
use Rattle.stores.specs.Stores.{Sound}
use Rattle.stores.specs.Zeros.{zeros, cleared}
use Rattle.stores.specs.Decimals.{value_at, put_at, count_of, Digits, decimals, unused}
use Rattle.stores.proofs.Bounds.{set_le, get_or-zeros}
use Rattle.stores.proofs.Clearing.{length-cleared, get_or-cleared}

same_count : (xs ys : List ℕ) → length xs ≡ length ys → count_of xs ≡ count_of ys
same_count xs ys e = ap (λ n. min 4096 (n / 6)) e

pub decimals-length : (bytes : List ℕ) → length (decimals bytes) ≡ count_of bytes
unfolding decimals
decimals-length bytes = length-map-range_with_len (λ i. value_at bytes (6 * i)) 0 (count_of bytes)

pub decimals-get : (bytes : List ℕ) (i : ℕ) → i < count_of bytes → get_or (decimals bytes) i 0 ≡ value_at bytes (6 * i)
unfolding decimals
decimals-get bytes i h = get_or-map-range_with_len (λ i. value_at bytes (6 * i)) 0 (count_of bytes) i i 0 h (omega arith)

-- a number is what its six bytes make it
value_same : (xs ys : List ℕ) (p : ℕ) → ((k : ℕ) → k < p + 6 → p ≤ k → get_or xs k 0 ≡ get_or ys k 0) → value_at xs p ≡ value_at ys p
value_same xs ys p h =
    omega (arith, h p (omega arith) (omega arith), h (p + 1) (omega arith) (omega arith), h (p + 2) (omega arith) (omega arith), h (p + 3) (omega arith) (omega arith), h (p + 4) (omega arith) (omega arith), h (p + 5) (omega arith) (omega arith))

-- the number that the first k digits from byte p on spell
abbrev pub spelt : List ℕ → ℕ → ℕ → ℕ
spelt bytes p zero = 0
spelt bytes p (suc k) = 10 * spelt bytes p k + get_or bytes (p + k) 0

pub spelt_low : (bytes : List ℕ) (p k : ℕ) → ((j : ℕ) → j < p + 6 → p ≤ j → get_or bytes j 0 ≤ 9) → k < 6 → spelt bytes p k ≤ 99999
spelt_low bytes p k h lt = go k lt
  where
    a : get_or bytes (p + 0) 0 ≤ 9
    a = h (p + 0) (omega arith) (omega arith)

    b : get_or bytes (p + 1) 0 ≤ 9
    b = h (p + 1) (omega arith) (omega arith)

    c : get_or bytes (p + 2) 0 ≤ 9
    c = h (p + 2) (omega arith) (omega arith)

    d : get_or bytes (p + 3) 0 ≤ 9
    d = h (p + 3) (omega arith) (omega arith)

    e : get_or bytes (p + 4) 0 ≤ 9
    e = h (p + 4) (omega arith) (omega arith)

    go : (k : ℕ) → k < 6 → spelt bytes p k ≤ 99999
    go zero lt = omega arith
    go (suc zero) lt = omega (arith, a)
    go (suc (suc zero)) lt = omega (arith, a, b)
    go (suc (suc (suc zero))) lt = omega (arith, a, b, c)
    go (suc (suc (suc (suc zero)))) lt = omega (arith, a, b, c, d)
    go (suc (suc (suc (suc (suc zero))))) lt = omega (arith, a, b, c, d, e)
    go (suc (suc (suc (suc (suc (suc k)))))) lt = absurd (omega arith)

pub spelt_more : (bytes : List ℕ) (p k n d : ℕ) → n ≡ spelt bytes p k → d ≡ get_or bytes (p + k) 0 → 10 * n + d ≡ spelt bytes p (k + 1)
spelt_more bytes p k n d e f =
    let here : 10 * n + d ≡ spelt bytes p (suc k) = omega (arith, e, f) in
    here ∙ ap (spelt bytes p) (sym (add-one k))

pub spelt_all : (bytes : List ℕ) (p k : ℕ) → k ≡ 6 → spelt bytes p k ≡ value_at bytes p
spelt_all bytes p k e = ap (spelt bytes p) e ∙ omega (arith, ap (λ (i : ℕ). get_or bytes i 0) (add-zero p))

-- the six bytes from p on
pub six-length : (bytes : List ℕ) (p : ℕ) → p + 6 ≤ length bytes → length (take (p + 6 - p) (drop p bytes)) ≡ 6
six-length bytes p h = simp (length-take, length-drop) (omega arith)

pub six-get : (bytes : List ℕ) (p k : ℕ) → k < 6 → get_or (take (p + 6 - p) (drop p bytes)) k 0 ≡ get_or bytes (p + k) 0
six-get bytes p k h = get_or-take (p + 6 - p) (drop p bytes) k 0 (omega arith) ∙ get_or-drop p bytes k 0

value_small : (bytes : List ℕ) (p : ℕ) → ((k : ℕ) → k < p + 6 → p ≤ k → get_or bytes k 0 ≤ 9) → value_at bytes p ≤ 999999
value_small bytes p h =
    omega (arith, h p (omega arith) (omega arith), h (p + 1) (omega arith) (omega arith), h (p + 2) (omega arith) (omega arith), h (p + 3) (omega arith) (omega arith), h (p + 4) (omega arith) (omega arith), h (p + 5) (omega arith) (omega arith))

pub decimals_sound : (bytes : List ℕ) → Digits bytes → Sound (decimals bytes) 999999
decimals_sound bytes d = (
  omega arith,
  λ i. ⊎_elim
      (λ (lt : i < count_of bytes). rw (decimals-get bytes i lt) (value_small bytes (6 * i) (λ k h l. d k (omega arith))))
      (λ (le : count_of bytes ≤ i). let past : length (decimals bytes) ≤ i = omega (arith, decimals-length bytes) in rw get_or_past (omega arith))
      (cases_lt i (count_of bytes)),
)

put-length : (bytes : List ℕ) (p v : ℕ) → length (put_at bytes p v) ≡ length bytes
put-length bytes p v = simp length-set

-- the bytes before and after stay
put_other : (bytes : List ℕ) (p v k : ℕ) → (k < p) ⊎ (p + 6 ≤ k) → get_or (put_at bytes p v) k 0 ≡ get_or bytes k 0
put_other bytes p v k h =
    let a : k ≢ p = omega arith in
    let b : k ≢ p + 1 = omega arith in
    let c : k ≢ p + 2 = omega arith in
    let d : k ≢ p + 3 = omega arith in
    let e : k ≢ p + 4 = omega arith in
    let f : k ≢ p + 5 = omega arith in
    rw (get_or-set_other, get_or-set_other, get_or-set_other, get_or-set_other, get_or-set_other, get_or-set_other)

-- the six digits that were put
put_digit : (bytes : List ℕ) (p v : ℕ) → p + 6 ≤ length bytes →
    (get_or (put_at bytes p v) p 0 ≡ v / 100000) × (get_or (put_at bytes p v) (p + 1) 0 ≡ v / 10000 % 10) × (get_or (put_at bytes p v) (p + 2) 0 ≡ v / 1000 % 10)
    × (get_or (put_at bytes p v) (p + 3) 0 ≡ v / 100 % 10) × (get_or (put_at bytes p v) (p + 4) 0 ≡ v / 10 % 10) × (get_or (put_at bytes p v) (p + 5) 0 ≡ v % 10)
put_digit bytes p v h =
    let n01 : p ≢ p + 1 = omega arith in
    let n02 : p ≢ p + 2 = omega arith in
    let n03 : p ≢ p + 3 = omega arith in
    let n04 : p ≢ p + 4 = omega arith in
    let n05 : p ≢ p + 5 = omega arith in
    let l0 : p < length bytes = omega arith in
    let n12 : p + 1 ≢ p + 2 = omega arith in
    let n13 : p + 1 ≢ p + 3 = omega arith in
    let n14 : p + 1 ≢ p + 4 = omega arith in
    let n15 : p + 1 ≢ p + 5 = omega arith in
    let l1 : p + 1 < length (set bytes p (v / 100000)) = simp length-set (omega arith) in
    let n23 : p + 2 ≢ p + 3 = omega arith in
    let n24 : p + 2 ≢ p + 4 = omega arith in
    let n25 : p + 2 ≢ p + 5 = omega arith in
    let l2 : p + 2 < length (set (set bytes p (v / 100000)) (p + 1) (v / 10000 % 10)) = simp length-set (omega arith) in
    let n34 : p + 3 ≢ p + 4 = omega arith in
    let n35 : p + 3 ≢ p + 5 = omega arith in
    let l3 : p + 3 < length (set (set (set bytes p (v / 100000)) (p + 1) (v / 10000 % 10)) (p + 2) (v / 1000 % 10)) = simp length-set (omega arith) in
    let n45 : p + 4 ≢ p + 5 = omega arith in
    let l4 : p + 4 < length (set (set (set (set bytes p (v / 100000)) (p + 1) (v / 10000 % 10)) (p + 2) (v / 1000 % 10)) (p + 3) (v / 100 % 10)) = simp length-set (omega arith) in
    let l5 : p + 5 < length (set (set (set (set (set bytes p (v / 100000)) (p + 1) (v / 10000 % 10)) (p + 2) (v / 1000 % 10)) (p + 3) (v / 100 % 10)) (p + 4) (v / 10 % 10)) = simp length-set (omega arith) in (
      rw (get_or-set_other, get_or-set_other, get_or-set_other, get_or-set_other, get_or-set_other, get_or-set_same),
      rw (get_or-set_other, get_or-set_other, get_or-set_other, get_or-set_other, get_or-set_same),
      rw (get_or-set_other, get_or-set_other, get_or-set_other, get_or-set_same),
      rw (get_or-set_other, get_or-set_other, get_or-set_same),
      rw (get_or-set_other, get_or-set_same),
      rw (get_or-set_same),
    )

-- so do the numbers there
value_other : (bytes : List ℕ) (p v q : ℕ) → (q + 6 ≤ p) ⊎ (p + 6 ≤ q) → value_at (put_at bytes p v) q ≡ value_at bytes q
value_other bytes p v q h =
    value_same (put_at bytes p v) bytes q (λ k l g. put_other bytes p v k (⊎_elim (λ (a : q + 6 ≤ p). inl (omega arith)) (λ (b : p + 6 ≤ q). inr (omega arith)) h))

-- and the number here is v
put-value : (bytes : List ℕ) (p v : ℕ) → p + 6 ≤ length bytes → v ≤ 999999 → value_at (put_at bytes p v) p ≡ v
put-value bytes p v h le =
    let d = put_digit bytes p v h in
    rw (d.0, d.1, d.2, d.3, d.4, d.5)
    (omega (arith, div-div-eq-div-mul v 10 10, div-div-eq-div-mul v 100 10, div-div-eq-div-mul v 1000 10, div-div-eq-div-mul v 10000 10))

pub put-decimals : (bytes : List ℕ) (i v : ℕ) → i < count_of bytes → v ≤ 999999 → decimals (put_at bytes (6 * i) v) ≡ set (decimals bytes) i v
put-decimals bytes i v lt le =
    let after = put_at bytes (6 * i) v in
    let e = same_count after bytes (put-length bytes (6 * i) v) in
    ext_get_or 0 (decimals after) (set (decimals bytes) i v)
    (decimals-length after ∙ e ∙ sym (decimals-length bytes) ∙ sym (length-set (decimals bytes) i v))
    (λ k h.
    let lk : k < count_of bytes = omega (arith, decimals-length after, e) in
    let li : i < length (decimals bytes) = omega (arith, decimals-length bytes) in
    decimals-get after k (omega (arith, e)) ∙ ⊎_elim
    (λ (same : k ≡ i). ap (λ x. value_at after (6 * x)) same ∙ put-value bytes (6 * i) v (omega arith) le ∙ sym (ap (λ x. get_or (set (decimals bytes) i v) x 0) same ∙ get_or-set_same (decimals bytes) i v 0 li))
    (λ (ne : k ≢ i). value_other bytes (6 * i) v (6 * k) (⊎_elim
    (λ (a : k < i). inl (omega arith))
    (λ (b : i ≤ k). inr (omega arith))
    (cases_lt k i))
    ∙ sym (get_or-set_other (decimals bytes) i k v 0 ne ∙ decimals-get bytes k lk))
    (cases_eq k i))

-- with one digit put in, all bytes of numbers are still digits
digits-set : (bytes : List ℕ) (p d : ℕ) → d ≤ 9 → Digits bytes → Digits (set bytes p d)
digits-set bytes p d le h k lt = set_le bytes p d 9 k le (h k (omega (arith, same_count (set bytes p d) bytes (length-set bytes p d))))

pub put-digits : (bytes : List ℕ) (p v : ℕ) → v ≤ 999999 → Digits bytes → Digits (put_at bytes p v)
put-digits bytes p v le h =
    digits-set _ (p + 5) (v % 10) (omega arith) (digits-set _ (p + 4) (v / 10 % 10) (omega arith) (digits-set _ (p + 3) (v / 100 % 10) (omega arith)
    (digits-set _ (p + 2) (v / 1000 % 10) (omega arith) (digits-set _ (p + 1) (v / 10000 % 10) (omega arith) (digits-set bytes p (v / 100000) (omega arith) h)))))

-- six bytes put over those from p on
six_sets : (bytes : List ℕ) (p a b c d e f : ℕ) → p + 6 ≤ length bytes
    → take p bytes ++ (a ∷ b ∷ c ∷ d ∷ e ∷ f ∷ drop 6 (drop p bytes)) ≡ set (set (set (set (set (set bytes p a) (p + 1) b) (p + 2) c) (p + 3) d) (p + 4) e) (p + 5) f
six_sets [] p a b c d e f h = absurd (omega arith)
six_sets (x ∷ []) zero a b c d e f h = absurd (omega arith)
six_sets (x ∷ y ∷ []) zero a b c d e f h = absurd (omega arith)
six_sets (x ∷ y ∷ z ∷ []) zero a b c d e f h = absurd (omega arith)
six_sets (x ∷ y ∷ z ∷ u ∷ []) zero a b c d e f h = absurd (omega arith)
six_sets (x ∷ y ∷ z ∷ u ∷ v ∷ []) zero a b c d e f h = absurd (omega arith)
six_sets (x ∷ y ∷ z ∷ u ∷ v ∷ w ∷ l) zero a b c d e f h = refl
six_sets (x ∷ l) (suc p) a b c d e f h = simp unary_clauses (simp unary_clauses at (ap {B = List ℕ} (λ r. x ∷ r) (six_sets l p a b c d e f (omega arith))))

pub put_six : (bytes : List ℕ) (p n v : ℕ) (digits : List ℕ) → n ≡ 6 → digits ≡ v / 100000 ∷ v / 10000 % 10 ∷ v / 1000 % 10 ∷ v / 100 % 10 ∷ v / 10 % 10 ∷ v % 10 ∷ []
    → p + 6 ≤ length bytes → put_mid p n bytes digits ≡ put_at bytes p v
put_six bytes p n v digits en ed h =
    ap (λ (m : ℕ). put_mid p m bytes digits) en ∙ ap (put_mid p 6 bytes) ed
    ∙ six_sets bytes p (v / 100000) (v / 10000 % 10) (v / 1000 % 10) (v / 100 % 10) (v / 10 % 10) (v % 10) h

-- a write touches no byte that belongs to no number
pub put-unused : (bytes : List ℕ) (i v : ℕ) → i < count_of bytes → unused (put_at bytes (6 * i) v) ≡ unused bytes
put-unused bytes i v h =
    let n = 6 * count_of bytes in
    let a : 6 * i < n = omega arith in
    let b : 6 * i + 1 < n = omega arith in
    let c : 6 * i + 2 < n = omega arith in
    let d : 6 * i + 3 < n = omega arith in
    let e : 6 * i + 4 < n = omega arith in
    let f : 6 * i + 5 < n = omega arith in
    ap (λ m. drop (6 * m) (put_at bytes (6 * i) v)) (same_count (put_at bytes (6 * i) v) bytes (put-length bytes (6 * i) v))
    ∙ rw (drop-set-lt, drop-set-lt, drop-set-lt, drop-set-lt, drop-set-lt, drop-set-lt)

-- the bytes of a new store
cleared-count : (bytes : List ℕ) → count_of (cleared (6 * count_of bytes) bytes) ≡ count_of bytes
cleared-count bytes = same_count (cleared (6 * count_of bytes) bytes) bytes (length-cleared bytes (6 * count_of bytes) (omega arith))

pub digits-cleared : (bytes : List ℕ) → Digits (cleared (6 * count_of bytes) bytes)
digits-cleared bytes k h = omega (arith, get_or-cleared bytes (6 * count_of bytes) k (omega (arith, cleared-count bytes)))

value-zeros : (n p : ℕ) → value_at (zeros n) p ≡ 0
value-zeros n p = omega (arith, get_or-zeros n p, get_or-zeros n (p + 1), get_or-zeros n (p + 2), get_or-zeros n (p + 3), get_or-zeros n (p + 4), get_or-zeros n (p + 5))

pub decimals-cleared : (bytes : List ℕ) → decimals (cleared (6 * count_of bytes) bytes) ≡ zeros (count_of bytes)
decimals-cleared bytes =
    let n = count_of bytes in
    let after = cleared (6 * n) bytes in
    let e = cleared-count bytes in
    ext_get_or 0 (decimals after) (zeros n)
    (decimals-length after ∙ e ∙ sym (length-replicate n 0))
    (λ k h.
    let here : k < n = omega (arith, decimals-length after, e) in
    decimals-get after k (omega (arith, e))
    ∙ value_same after (zeros (6 * n)) (6 * k) (λ j l g. get_or-cleared bytes (6 * n) j (omega arith) ∙ sym (get_or-zeros (6 * n) j))
    ∙ value-zeros (6 * n) (6 * k)
    ∙ sym (get_or-zeros n k))
