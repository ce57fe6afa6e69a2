-- Lists in which no number is above the top, and the registers after a rewind.
use Rattle.std.proofs.Common.{◌≡◌, ℕ, zero, suc, ◌≤◌, Bool, true, false, ◌&&◌, T, leb, List, [], ◌∷◌, ◌++◌, length, take, drop, replicate, refl, ap, ◌∙◌, zero-le, le_of_suc-le-suc, arith, leb→le, length-append, length-take-le, take-take}
use lib.ListN.{length-replicate}
use lib.Seq.{take-append-le}
use Rattle.translator.specs.Following.{Low}
use Rattle.caption_box.specs.Seats.{all_below, entered}

both_left : (a b : Bool) → T (a && b) → T a
both_left true b t = tt
both_left false b t = t

both_right : (a b : Bool) → T (a && b) → T b
both_right true b t = t
both_right false b t = absurd t

pub low_cons : (top x : ℕ) (l : List ℕ) → x ≤ top → Low top l → Low top (x ∷ l)
low_cons top x l hx h zero = hx
low_cons top x l hx h (suc i) = h i

low_append : (top : ℕ) (a b : List ℕ) → Low top a → Low top b → Low top (a ++ b)
low_append top [] b ha hb i = hb i
low_append top (x ∷ a) b ha hb zero = ha 0
low_append top (x ∷ a) b ha hb (suc i) = low_append top a b (λ k. ha (suc k)) hb i

low_take : (top n : ℕ) (l : List ℕ) → Low top l → Low top (take n l)
low_take top zero l h i = zero-le
low_take top (suc n) [] h i = zero-le
low_take top (suc n) (x ∷ l) h zero = h 0
low_take top (suc n) (x ∷ l) h (suc i) = low_take top n l (λ k. h (suc k)) i

low_drop : (top n : ℕ) (l : List ℕ) → Low top l → Low top (drop n l)
low_drop top zero l h i = h i
low_drop top (suc n) [] h i = zero-le
low_drop top (suc n) (x ∷ l) h i = low_drop top n l (λ k. h (suc k)) i

low_zeros : (top n : ℕ) → Low top (replicate n 0)
low_zeros top zero i = zero-le
low_zeros top (suc n) zero = zero-le
low_zeros top (suc n) (suc i) = low_zeros top n i

pub low_tested : (top : ℕ) (l : List ℕ) → T (all_below top l) → Low top l
low_tested top [] t i = zero-le
low_tested top (x ∷ l) t i = low_cons top x l (leb→le x top (both_left (leb x top) (all_below top l) t)) (low_tested top l (both_right (leb x top) (all_below top l) t)) i

pub low_start : (top n : ℕ) (xs ν : List ℕ) → T (all_below top xs) → Low top ν → Low top (entered n xs ++ drop n ν)
low_start top n xs ν t h =
    low_append top (entered n xs) (drop n ν)
    (low_take top n (0 ∷ (xs ++ replicate n 0)) (low_cons top 0 (xs ++ replicate n 0) zero-le (low_append top xs (replicate n 0) (low_tested top xs t) (low_zeros top n))))
    (low_drop top n ν h)

pub start_length : (n : ℕ) (xs : List ℕ) → length (entered n xs) ≡ n
start_length n xs =
    let a = length-append xs (replicate n 0) in
    let r = length-replicate n (Prim.Native.Nat.zero) in
    length-take-le n (0 ∷ (xs ++ replicate n 0)) (omega arith)

-- how many zeros stand behind does not matter
padded : (n a b : ℕ) (xs : List ℕ) → n ≤ a → n ≤ b → take n (xs ++ replicate a 0) ≡ take n (xs ++ replicate b 0)
padded zero a b xs ha hb = refl
padded (suc n) zero b [] ha hb = absurd (omega arith)
padded (suc n) (suc a) zero [] ha hb = absurd (omega arith)
padded (suc n) (suc a) (suc b) [] ha hb = ap {B = List ℕ} (λ r. 0 ∷ r) (padded n a b [] (le_of_suc-le-suc ha) (le_of_suc-le-suc hb))
padded (suc n) a b (x ∷ xs) ha hb = ap {B = List ℕ} (λ r. x ∷ r) (padded n a b xs (omega arith) (omega arith))

pub start_front : (n : ℕ) (xs rest : List ℕ) → 32 ≤ n → take 32 (entered n xs ++ rest) ≡ entered 32 xs
start_front n xs rest h =
    let e = start_length n xs in
    take-append-le 32 (entered n xs) rest (omega arith)
    ∙ take-take 32 n (0 ∷ (xs ++ replicate n 0)) h
    ∙ padded 32 n 32 (0 ∷ xs) h (omega arith)
