-- Numbers that stand one to a cell: what a flat store's calls read and leave.
use Rattle.std.proofs.Common.{◌≡◌, ℕ, ◌<◌, ◌≤◌, min, List, ◌++◌, length, take, drop, set, sym, ap, ◌∙◌, ⊎_elim, append-nil, arith, drop-set-lt}
use lib.Seq.{take-set-lt}
use Rattle.std.proofs.lemmas.List.{length-take, length-replicate, take_all, take_at, drop_all}
use Rattle.std.proofs.lemmas.Bool.{cases_lt}
use Rattle.stores.specs.Zeros.{zeros, cleared}
use Rattle.stores.specs.Flats.{flats, spare}

pub flats-length : (cells : List ℕ) → length (flats cells) ≡ min 4096 (length cells)
unfolding flats
flats-length cells = length-take 4096 cells

pub flats_front : (cells : List ℕ) (n : ℕ) → n ≡ min 4096 (length cells) → take n cells ≡ flats cells
unfolding flats
flats_front cells n e =
    ⊎_elim
    (λ (lt : length cells < 4096). take_all n cells (omega arith) ∙ sym (take_all 4096 cells (omega arith)))
    (λ (ge : 4096 ≤ length cells). let same : n ≡ 4096 = omega arith in ap (λ k. take k cells) same)
    (cases_lt (length cells) 4096)

pub flats-set : (cells : List ℕ) (i v : ℕ) → i < length (flats cells) → flats (set cells i v) ≡ set (flats cells) i v
unfolding flats
flats-set cells i v h = take-set-lt 4096 cells i v (omega (arith, flats-length cells))

pub spare-set : (cells : List ℕ) (i v : ℕ) → i < length (flats cells) → spare (set cells i v) ≡ spare cells
spare-set cells i v h = drop-set-lt 4096 cells i v (omega (arith, flats-length cells))

-- where the counted cells were cleared, the numbers are 0
pub flats-cleared : (cells : List ℕ) → flats (cleared (min 4096 (length cells)) cells) ≡ zeros (min 4096 (length cells))
unfolding flats
flats-cleared cells =
    let n = min 4096 (length cells) in
    let long = length-replicate {A = ℕ} n 0 in
    ⊎_elim
    (λ (lt : length cells < 4096).
    ap (λ l. take 4096 (zeros n ++ l)) (drop_all n cells (omega arith))
    ∙ ap (take 4096) (append-nil (zeros n))
    ∙ take_all 4096 (zeros n) (omega arith))
    (λ (ge : 4096 ≤ length cells). take_at (zeros n) (drop n cells) 4096 (omega arith))
    (cases_lt (length cells) 4096)
