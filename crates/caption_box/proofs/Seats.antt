-- Seating a run: the scan of the inputs, the filling of the registers, and what start and rewind of a show make of it.
use Rattle.std.proofs.Common.{◌≡◌, ℕ, zero, suc, ◌+◌, ◌<◌, ◌≤◌, Bool, true, false, cond, T, ltb, List, [], ◌∷◌, ◌++◌, length, get_or, take, drop, set, replicate, Ok, Err, Result, sym, refl, ap, ◌∙◌, subst, zero-le, arith, length-set, drop-set-lt}
use Rattle.std.specs.List.{All}
use Rattle.std.proofs.lemmas.Bool.{le-leb}
use Rattle.std.proofs.lemmas.List.Elements.{All-head, All-tail, All-from_get_or}
use Rattle.std.proofs.lemmas.List.{take_more, take_more_set, drop-drop, get_or-take}
use Rattle.reader.specs.declared.types.Refusal.{Refusal}
use Rattle.reader.specs.declared.types.Refusal.TheVariants.{SmallStore, ManyInputs, OverTop}
use Rattle.reader.specs.WrittenRun.{Counts, no_counts}
use Rattle.caption_box.specs.Seats.{all_below, entered, input_at}
use Rattle.caption_box.specs.Calls.{Setting, scene, seats, seated, Started}
use Rattle.caption_box.proofs.Low.{low_cons, low_tested, start_length}

all_below_all : (top : ℕ) (xs : List ℕ) → All (λ v. v ≤ top) xs → all_below top xs ≡ true
all_below_all top [] h = refl
all_below_all top (x ∷ xs) h = rw (le-leb x top (All-head (λ v. v ≤ top) x xs h)) (all_below_all top xs (All-tail (λ v. v ≤ top) x xs h))

-- a test that is true just where no number is above the top
pub below_told : (top : ℕ) (xs : List ℕ) (b : Bool) → (b ≡ true → All (λ v. v ≤ top) xs) → (All (λ v. v ≤ top) xs → b ≡ true) → b ≡ all_below top xs
below_told top xs b to from = go b (all_below top xs) refl to from
  where
    go : (b a : Bool) → all_below top xs ≡ a → (b ≡ true → All (λ v. v ≤ top) xs) → (All (λ v. v ≤ top) xs → b ≡ true) → b ≡ a
    go true true e to from = refl
    go false false e to from = refl
    go true false e to from = sym (all_below_all top xs (to refl)) ∙ e
    go false true e to from = from (All-from_get_or (λ v. v ≤ top) xs 0 (λ k h. low_tested top xs (subst T (sym e) tt) k))

pub input_low : (top : ℕ) (xs : List ℕ) (i : ℕ) → all_below top xs ≡ true → input_at xs i ≤ top
input_low top xs i e = low_cons top 0 xs zero-le (low_tested top xs (subst T (sym e) tt)) i

zeros_past : (n i : ℕ) → ◌≡◌ {A = ℕ} (get_or (replicate n 0) i 0) 0
zeros_past zero i = refl
zeros_past (suc n) zero = refl
zeros_past (suc n) (suc i) = zeros_past n i

padded_at : (xs : List ℕ) (n i : ℕ) → get_or (xs ++ replicate n 0) i 0 ≡ get_or xs i 0
padded_at [] n i = zeros_past n i
padded_at (x ∷ xs) n zero = refl
padded_at (x ∷ xs) n (suc i) = padded_at xs n i

entered_at : (n : ℕ) (xs : List ℕ) (i : ℕ) → i < n → get_or (entered n xs) i 0 ≡ input_at xs i
entered_at n xs i h = get_or-take n (0 ∷ (xs ++ replicate n 0)) i 0 h ∙ padded_at (0 ∷ xs) n i

-- i registers are filled
pub record Filled (n : ℕ) (xs ν : List ℕ) (i : ℕ) (ν' : List ℕ) : Type 0 where
  pub front : take i ν' ≡ take i (entered n xs)
  pub back : drop i ν' ≡ drop i ν
  pub long : length ν' ≡ length ν

pub filled_more : (n : ℕ) (xs ν : List ℕ) (i : ℕ) (ν' ν'' : List ℕ) (v : ℕ) → n ≤ length ν → i < n → Filled n xs ν i ν'
    → v ≡ input_at xs i → ν'' ≡ set ν' i v → Filled n xs ν (i + 1) ν''
filled_more n xs ν i ν' ν'' v room lt h ev e =
    let lo = h.long in
    let here : i < length ν' = omega arith in
    let long = start_length n xs in
    let there : i < length (entered n xs) = omega arith in
    subst (Filled n xs ν (i + 1)) (sym e)
    (record {
      front =
          take_more_set ν' i v here
          ∙ (λ k. h.front k ++ (ev ∙ sym (entered_at n xs i lt)) k ∷ [])
          ∙ sym (take_more (entered n xs) i 0 there);
      back = drop-set-lt (i + 1) ν' i v (omega arith) ∙ sym (drop-drop 1 i ν') ∙ ap (drop 1) h.back ∙ drop-drop 1 i ν;
      long = length-set ν' i v ∙ lo;
    })

-- the numbers after a seating that is done, and after one that is refused
pub seated_done : (n top : ℕ) (ν xs : List ℕ) → seats n top ν xs ≡ Ok tt → seated n top ν xs ≡ entered n xs ++ drop n ν
seated_done n top ν xs ok = go (ltb (length ν) n) (ltb 31 (length xs)) (all_below top xs) ok
  where
    go : (x y z : Bool) → ◌≡◌ {A = Result (Unit {0}) Refusal} (cond x (Err SmallStore) (cond y (Err ManyInputs) (cond z (Ok tt) (Err OverTop)))) (Ok tt)
        → cond x ν (cond y ν (cond z (entered n xs ++ drop n ν) ν)) ≡ entered n xs ++ drop n ν
    go true y z e = let q : ◌≡◌ {A = ℕ} 0 1 = cc in absurd (omega arith)
    go false true z e = let q : ◌≡◌ {A = ℕ} 0 1 = cc in absurd (omega arith)
    go false false true e = refl
    go false false false e = let q : ◌≡◌ {A = ℕ} 0 1 = cc in absurd (omega arith)

pub seated_kept : (n top : ℕ) (ν xs : List ℕ) (f : Refusal) → seats n top ν xs ≡ Err f → seated n top ν xs ≡ ν
seated_kept n top ν xs f bad = go (ltb (length ν) n) (ltb 31 (length xs)) (all_below top xs) bad
  where
    go : (x y z : Bool) → ◌≡◌ {A = Result (Unit {0}) Refusal} (cond x (Err SmallStore) (cond y (Err ManyInputs) (cond z (Ok tt) (Err OverTop)))) (Err f)
        → cond x ν (cond y ν (cond z (entered n xs ++ drop n ν) ν)) ≡ ν
    go true y z e = refl
    go false true z e = refl
    go false false true e = let q : ◌≡◌ {A = ℕ} 0 1 = cc in absurd (omega arith)
    go false false false e = refl

-- what a start makes of a seating
pub started : (g : Setting) (ν xs ν' : List ℕ) (g' : Setting) (st : ℕ) (n : Counts) (r : Result (Unit {0}) Refusal) → r ≡ Ok tt → r ≡ seats g.need g.top ν xs → ν' ≡ seated g.need g.top ν xs
    → g' ≡ g → st ≡ 0 → n ≡ no_counts → Started g ν xs (scene g' (record { label = 1; registers = ν'; steps = st; counts = n }))
started g ν xs ν' g' st n r ok er en eg es ec =
    record {
      done = sym er ∙ ok;
      scene =
          let en' = en ∙ seated_done g.need g.top ν xs (sym er ∙ ok) in
          λ i. scene (eg i) (record { label = 1; registers = en' i; steps = es i; counts = ec i });
    }
