-- What is read and written through a window.
use Rattle.std.proofs.Common.{◌≡◌, ℕ, ◌+◌, ◌-◌, ◌<◌, min, true, false, cond, leb, List, length, drop, set, refl, ap, ◌∙◌, arith, length-drop, length-take}
use lib.Seq.{take-set-lt, drop-set-add}
use Rattle.std.proofs.lemmas.List.{get_or-take, get_or-drop}
use Rattle.std.proofs.lemmas.Bool.{lt-ltb}
use Rattle.stores.specs.Stores.{Sound}
use Rattle.stores.specs.Windows.{seen, Stands}
use Rattle.stores.proofs.Bounds.{sound_take, sound_drop}

pub seen_sound : (ns : List ℕ) (limit base len : ℕ) → Sound ns limit → Sound (seen ns base len) limit
unfolding seen
seen_sound ns limit base len h = sound_take len (drop base ns) limit (sound_drop base ns limit h)

pub seen-length : (ns : List ℕ) (base len : ℕ) → length (seen ns base len) ≡ min len (length ns - base)
unfolding seen
seen-length ns base len = length-take len (drop base ns) ∙ ap (min len) (length-drop base ns)

-- number i of the window is number base + i below
below_lt : (ns : List ℕ) (base len i : ℕ) → i < length (seen ns base len) → (base + i < length ns) × (i < len)
below_lt ns base len i h = (omega (arith, seen-length ns base len), omega (arith, seen-length ns base len))

-- where the numbers of a window stand
pub stands : (ns : List ℕ) (limit base len i : ℕ) → i < length (seen ns base len) → Stands ns limit base len i (base + i)
unfolding seen
stands ns limit base len i h =
    let small = (below_lt ns base len i h).1 in
    let e = lt-ltb (base + i) (length ns) (below_lt ns base len i h).0 in
    let f = lt-ltb i (length (seen ns base len)) h in
    record {
      read = rw (e, f, get_or-take, get_or-drop);
      write = λ v. rw (e, f);
      written = λ v. rw (e, f) (elim (leb v limit) as (λ t. seen (cond t (set ns (base + i) v) ns) base len ≡ cond t (set (seen ns base len) i v) (seen ns base len))
          [ true ↦ rw (drop-set-add, take-set-lt) | false ↦ refl ]);
      below = λ v. rw f;
    }
