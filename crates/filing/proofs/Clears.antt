-- Memory that is cleared cell by cell.
use Rattle.std.proofs.Common.{◌≡◌, ℕ, suc, ◌+◌, ◌-◌, ◌<◌, ◌≤◌, List, [], ◌∷◌, ◌++◌, length, get_or, take, drop, set, replicate, sym, ap, ◌∙◌, append_assoc, append-nil, add-one, arith, length-take, length-drop, drop-cons}
use lib.ListN.{length-replicate, replicate-append-replicate}
use lib.Seq.{set_at}
use Rattle.std.proofs.lemmas.List.{drop_all}
use borrow.Rule.Slice.PartMut.{put_mid}

-- xs after the first i cells were cleared
abbrev pub swept : {A : Type 0} → ℕ → A → List A → List A
swept i z xs = replicate i z ++ drop i xs

pub sweep_more : {A : Type 0} (i : ℕ) (z : A) (xs ys : List A) → i < length xs → ys ≡ swept i z xs → set ys i z ≡ swept (i + 1) z xs
sweep_more i z xs ys lt e =
    ap (λ l. set l i z) e
    ∙ rw (add-one, drop-cons xs i z) (
    set_at (replicate i z) (get_or xs i z) (drop (suc i) xs) z i (length-replicate i z)
    ∙ (sym (append_assoc (replicate i z) (z ∷ []) (drop (suc i) xs))
    ∙ ap (λ l. l ++ drop (suc i) xs) (replicate-append-replicate i 1 z ∙ ap (λ k. replicate k z) {y = suc i} (omega arith))))

pub sweep_all : {A : Type 0} (i : ℕ) (z : A) (xs ys : List A) → length xs ≡ i → ys ≡ swept i z xs → ys ≡ replicate (length xs) z
sweep_all i z xs ys h e =
    e ∙ (ap (λ r. replicate i z ++ r) (drop_all i xs (omega arith)) ∙ (append-nil (replicate i z) ∙ ap (λ k. replicate k z) (sym h)))

-- the cells behind the first a are put back with all of them cleared
pub put_cleared : {A : Type 0} (a i : ℕ) (z : A) (xs ys : List A) → a ≤ length xs → length (take (length xs - a) (drop a xs)) ≡ i
    → ys ≡ swept i z (take (length xs - a) (drop a xs)) → put_mid a (length xs - a) xs ys ≡ take a xs ++ replicate (length xs - a) z
put_cleared a i z xs ys le h e =
    ap (λ r. take a xs ++ r) (
    ap (λ r. ys ++ r) (drop_all (length xs - a) (drop a xs) (simp length-drop (omega arith)))
    ∙ (append-nil ys ∙ (sweep_all i z (take (length xs - a) (drop a xs)) ys h e
    ∙ ap (λ k. replicate k z) {y = length xs - a} (simp (length-take, length-drop) (omega arith)))))
