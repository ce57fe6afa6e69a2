-- Memory that is written over from a place on.
use Rattle.std.proofs.Common.{◌≡◌, ℕ, suc, ◌+◌, ◌<◌, List, [], ◌∷◌, ◌++◌, length, set, sym, refl, ap, ◌∙◌, add-zero, arith, length-set}
use Rattle.std.proofs.lemmas.List.{set_comm, set-set}
use Rattle.filing.specs.Tables.{overwrite}

pub length-overwrite : {A : Type 0} (m : List A) (n : ℕ) (xs : List A) → length (overwrite m n xs) ≡ length m
length-overwrite m n [] = refl
length-overwrite m n (x ∷ xs) = length-overwrite (set m n x) (suc n) xs ∙ simp length-set

pub overwrite_append : {A : Type 0} (m : List A) (n : ℕ) (xs ys : List A) → overwrite m n (xs ++ ys) ≡ overwrite (overwrite m n xs) (n + length xs) ys
overwrite_append m n [] ys = ap (λ k. overwrite m k ys) (sym (add-zero n))
overwrite_append m n (x ∷ xs) ys =
    let e : suc n + length xs ≡ n + suc (length xs) = omega arith in
    overwrite_append (set m n x) (suc n) xs ys ∙ ap (λ k. overwrite (overwrite (set m n x) (suc n) xs) k ys) e

set_overwrite_below : {A : Type 0} (m : List A) (n i : ℕ) (xs : List A) (y : A) → i < n → set (overwrite m n xs) i y ≡ overwrite (set m i y) n xs
set_overwrite_below m n i [] y h = refl
set_overwrite_below m n i (x ∷ xs) y h =
    set_overwrite_below (set m n x) (suc n) i xs y (omega arith) ∙ ap (λ l. overwrite l (suc n) xs) (set_comm m n i x y (λ e. omega arith))

-- what was put at n first, and is put there again after what follows it
pub amended : {A : Type 0} (m : List A) (n : ℕ) (x y : A) (xs : List A) → set (overwrite (set m n x) (suc n) xs) n y ≡ overwrite m n (y ∷ xs)
amended m n x y xs = set_overwrite_below (set m n x) (suc n) n xs y (omega arith) ∙ ap (λ l. overwrite l (suc n) xs) (set-set m n x y)
