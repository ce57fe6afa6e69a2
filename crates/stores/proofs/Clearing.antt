-- Memory whose front was filled with zeros.
use Rattle.std.proofs.Common.{◌≡◌, ℕ, ◌<◌, ◌≤◌, List, ◌++◌, length, get_or, take, drop, ap, ◌∙◌, arith}
use Rattle.std.proofs.lemmas.List.{length-append, length-drop, length-replicate, length-take-le, get_or_append_left}
use Rattle.stores.specs.Zeros.{zeros, cleared}
use Rattle.stores.proofs.Bounds.{get_or-zeros}

-- the first m cells were filled
pub filled : (front cells : List ℕ) (n m : ℕ) → n ≡ m → m ≤ length cells → front ≡ zeros (length (take n cells)) → front ++ drop n cells ≡ cleared m cells
filled front cells n m same h e =
    ap (λ l. l ++ drop n cells) (e ∙ ap zeros (length-take-le n cells (omega arith))) ∙ ap (λ k. cleared k cells) same

pub length-cleared : (cells : List ℕ) (n : ℕ) → n ≤ length cells → length (cleared n cells) ≡ length cells
length-cleared cells n h = simp (length-append, length-replicate, length-drop) (omega arith)

pub get_or-cleared : (cells : List ℕ) (n k : ℕ) → k < n → get_or (cleared n cells) k 0 ≡ 0
get_or-cleared cells n k h = get_or_append_left (zeros n) (drop n cells) 0 k (omega (arith, length-replicate {A = ℕ} n 0)) ∙ get_or-zeros n k
