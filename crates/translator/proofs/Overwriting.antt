-- Memory that is filled from an index on.
use Rattle.std.proofs.Common.{◌≡◌, ℕ, suc, ◌+◌, ◌<◌, ◌≤◌, List, [], ◌∷◌, ◌++◌, length, get_or, take, set, sym, refl, ap, ◌∙◌, append_assoc, append-nil, add-zero, arith, length-set, get_or-set_other, get_or-set_same, set-set}
use lib.Seq.{set_comm}
use Rattle.std.proofs.lemmas.List.{take_more_set}
use Rattle.filing.specs.Tables.{overwrite}
use Rattle.reader.proofs.Overwriting.{overwrite_append}

get_or_below : {A : Type 0} (m : List A) (n i : ℕ) (xs : List A) (d : A) → i < n → get_or (overwrite m n xs) i d ≡ get_or m i d
get_or_below m n i [] d h = refl
get_or_below m n i (x ∷ xs) d h = get_or_below (set m n x) (suc n) i xs d (omega arith) ∙ get_or-set_other m n i x d (λ e. omega arith)

set_below : {A : Type 0} (m : List A) (n i : ℕ) (xs : List A) (y : A) → i < n → set (overwrite m n xs) i y ≡ overwrite (set m i y) n xs
set_below m n i [] y h = refl
set_below m n i (x ∷ xs) y h = set_below (set m n x) (suc n) i xs y (omega arith) ∙ ap (λ l. overwrite l (suc n) xs) (set_comm m n i x y (λ e. omega arith))

-- what is put at n, with c behind it, and then replaced, is as if it had been put there at once
pub replaced : {A : Type 0} (m : List A) (n : ℕ) (o p : A) (c : List A) → set (overwrite (set m n o) (suc n) c) n p ≡ overwrite (set m n p) (suc n) c
replaced m n o p c = set_below (set m n o) (suc n) n c p (omega arith) ∙ ap (λ l. overwrite l (suc n) c) (set-set m n o p)

-- the same with g behind c, and r behind g
pub patched : {A : Type 0} (m : List A) (n k : ℕ) (o p g : A) (c r : List A) → k ≡ suc n + length c
    → overwrite (set (set (overwrite (set m n o) (suc n) c) k g) n p) (suc k) r ≡ overwrite m n (p ∷ (c ++ (g ∷ r)))
patched m n k o p g c r e =
    ap (λ l. overwrite l (suc k) r) (set_comm (overwrite (set m n o) (suc n) c) k n g p (λ q. omega arith) ∙ ap (λ l. set l k g) (replaced m n o p c))
    ∙ (ap (λ q. overwrite (set (overwrite (set m n p) (suc n) c) q g) (suc q) r) e ∙ sym (overwrite_append (set m n p) (suc n) c (g ∷ r)))

-- what is put at n stays while memory behind it is filled
pub stays : {A : Type 0} (m : List A) (n : ℕ) (o d : A) (c : List A) → n < length m → get_or (overwrite (set m n o) (suc n) c) n d ≡ o
stays m n o d c h = get_or_below (set m n o) (suc n) n c d (omega arith) ∙ get_or-set_same m n o d h

pub kept : {A : Type 0} (m : List A) (n k : ℕ) (o g d : A) (c : List A) → n < length m → n < k → get_or (set (overwrite (set m n o) (suc n) c) k g) n d ≡ o
kept m n k o g d c h l = get_or-set_other (overwrite (set m n o) (suc n) c) k n g d (λ e. omega arith) ∙ stays m n o d c h

-- what stands in front then
pub take-overwrite : {A : Type 0} (m : List A) (n : ℕ) (xs : List A) → n + length xs ≤ length m → take (n + length xs) (overwrite m n xs) ≡ take n m ++ xs
take-overwrite m n [] h = ap (λ k. take k m) (add-zero n) ∙ sym (append-nil (take n m))
take-overwrite m n (x ∷ xs) h =
    let l : n < length m = omega arith in
    let e : n + suc (length xs) ≡ suc n + length xs = omega arith in
    let w : suc n + length xs ≤ length (set m n x) = simp length-set (omega arith) in
    let s : suc n ≡ n + 1 = omega arith in
    ap (λ k. take k (overwrite (set m n x) (suc n) xs)) e
    ∙ (take-overwrite (set m n x) (suc n) xs w
    ∙ (ap (λ l. l ++ xs) (ap (λ k. take k (set m n x)) s ∙ take_more_set m n x l) ∙ append_assoc (take n m) (x ∷ []) xs))
