-- Bounds on the elements of a list, kept by take, drop and set.
use Rattle.std.proofs.Common.{◌≡◌, ℕ, ◌+◌, ◌<◌, ◌≤◌, ◌≢◌, List, length, get_or, take, drop, set, ⊎_elim, arith}
use Rattle.std.proofs.lemmas.List.{get_or-take, get_or-drop, get_or_past, get_or-set_same, get_or-set_other, set_past, get_or-replicate, length-replicate, length-take}
use Rattle.std.proofs.lemmas.Bool.{cases_lt, cases_eq}
use Rattle.stores.specs.Stores.{Sound}
use Rattle.stores.specs.Zeros.{zeros}

-- a set to what is no larger keeps a bound
pub set_le : (ns : List ℕ) (i v limit k : ℕ) → v ≤ limit → get_or ns k 0 ≤ limit → get_or (set ns i v) k 0 ≤ limit
set_le ns i v limit k le h =
    ⊎_elim
    (λ (e : k ≡ i). ⊎_elim
    (λ (lt : i < length ns). rw (e, get_or-set_same) le)
    (λ (ge : length ns ≤ i). rw set_past h)
    (cases_lt i (length ns)))
    (λ (ne : k ≢ i). rw get_or-set_other h)
    (cases_eq k i)

pub get_or-zeros : (n i : ℕ) → get_or (zeros n) i 0 ≡ 0
get_or-zeros n i =
    ⊎_elim
    (λ (lt : i < n). get_or-replicate n i 0 0 lt)
    (λ (ge : n ≤ i). get_or_past (zeros n) i 0 (omega (arith, length-replicate {A = ℕ} n 0)))
    (cases_lt i n)

pub sound_take : (n : ℕ) (ns : List ℕ) (limit : ℕ) → Sound ns limit → Sound (take n ns) limit
sound_take n ns limit h = (
  h.0,
  λ i. ⊎_elim
      (λ (lt : i < n). rw get_or-take (h.1 i))
      (λ (le : n ≤ i). let past : length (take n ns) ≤ i = simp length-take (omega arith) in rw get_or_past (omega arith))
      (cases_lt i n),
)

pub sound_drop : (n : ℕ) (ns : List ℕ) (limit : ℕ) → Sound ns limit → Sound (drop n ns) limit
sound_drop n ns limit h = (h.0, λ i. rw get_or-drop (h.1 (n + i)))

pub sound_set : (ns : List ℕ) (limit i v : ℕ) → Sound ns limit → v ≤ limit → Sound (set ns i v) limit
sound_set ns limit i v h le = (h.0, λ k. set_le ns i v limit k le (h.1 k))

pub sound_zeros : (n limit : ℕ) → limit ≤ 4294967295 → Sound (zeros n) limit
sound_zeros n limit le = (le, λ i. omega (arith, get_or-zeros n i))
