-- Tests that hold, and what fits a code.
use Rattle.std.proofs.Common.{◌≡◌, ℕ, ◌<◌, ◌≤◌, Bool, true, false, ◌&&◌, T, ltb, leb, sym, refl, subst, le→leb, lt→ltb}
use Rattle.translator.specs.declared.types.Operation.TheVariants.{If}
use Rattle.translator.specs.JumpCode.{inside, fits}

pub is_true : (b : Bool) → T b → b ≡ true
is_true true t = refl
is_true false t = absurd t

pub true_is : (b : Bool) → b ≡ true → T b
true_is true e = tt
true_is false e = subst T (sym e) tt

pub and_true : (a b : Bool) → T a → T b → T (a && b)
and_true true b ta tb = tb
and_true false b ta tb = ta

pub and_left : (a b : Bool) → T (a && b) → T a
and_left true b t = tt
and_left false b t = t

pub and_right : (a b : Bool) → T (a && b) → T b
and_right true b t = t
and_right false b t = absurd t

pub two_fit : (n i j : ℕ) → i < n → j < n → T (ltb i n && ltb j n)
two_fit n i j hi hj = and_true (ltb i n) (ltb j n) (lt→ltb i n hi) (lt→ltb j n hj)

pub label_fit : (len k : ℕ) → 1 ≤ k → k ≤ len → T (inside len k)
label_fit len k low high = and_true (leb 1 k) (leb k len) (le→leb 1 k low) (le→leb k len high)

pub test_fit : (n len i k : ℕ) → i < n → T (inside len k) → T (fits n len (If i k))
test_fit n len i k h t = and_true (ltb i n) (inside len k) (lt→ltb i n h) t
