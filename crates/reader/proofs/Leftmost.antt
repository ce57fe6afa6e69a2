-- The first fault is the leftmost: places rise.
use Rattle.std.proofs.Common.{◌≡◌, ℕ, suc, ◌+◌, ◌<◌, ◌≤◌, ◌⊎◌, List, [], ◌∷◌, ◌++◌, length, refl, subst, inl, inr, arith, length-append}
use Rattle.reader.specs.Symbols.{Symbol, PlacedSymbol}
use Rattle.reader.specs.Faults.{FirstFault, here, later, at_end, SomeFault, fault_here, fault_later, fault_end}
use Rattle.reader.specs.Text.{Reads, the_end, a_blank, a_mark, a_run, a_stray}
use Rattle.reader.specs.Claims.{FirstFaultIsLeftmost}
use Rattle.reader.proofs.Scanning.{some_mark}

abbrev Rising : ℕ → List PlacedSymbol → ℕ → Type 0
Rising p [] end = p ≤ end
Rising p (y ∷ ys) end = (p ≤ y.place) × Rising (suc y.place) ys end

rising_from : (p q : ℕ) (ys : List PlacedSymbol) (end : ℕ) → p ≤ q → Rising q ys end → Rising p ys end
rising_from p q [] end h r = omega arith
rising_from p q (y ∷ ys) end h r = (omega (arith, r.0), r.1)

rising : {p : ℕ} {l : List ℕ} {ys : List PlacedSymbol} → Reads p l ys → Rising p ys (p + length l)
rising the_end = omega arith
rising {p} {ys = ys} (a_blank {bs = bs} h r) = rising_from p (suc p) ys (p + suc (length bs)) (omega arith) (subst (Rising (suc p) ys) (omega arith) (rising r))
rising {p} (a_mark {ys = ys} m bs h r) = (omega arith, rising_from (suc p) (p + length m) ys (p + length (m ++ bs)) (omega (arith, some_mark h)) (subst (Rising (p + length m) ys) (omega (arith, length-append m bs)) (rising r)))
rising {p} (a_run {ys = ys} w bs a s h r) = (omega arith, rising_from (suc p) (p + suc (length w)) ys (p + suc (length (w ++ bs))) (omega arith) (subst (Rising (p + suc (length w)) ys) (omega (arith, length-append w bs)) (rising r)))
rising {p} (a_stray {bs = bs} {ys = ys} f g h r) = (omega arith, subst (Rising (suc p) ys) (omega arith) (rising r))

behind : {end : ℕ} {xs : List Symbol} {ys : List PlacedSymbol} {q m : ℕ} (p : ℕ) → Rising p ys end → SomeFault end xs ys q m → p ≤ q
behind p r (fault_here f) = r.0
behind p r (fault_later {y = y} f) = omega (arith, r.0, behind (suc y.place) r.1 f)
behind p r (fault_end u) = r

is_fault : {end : ℕ} {xs : List Symbol} {ys : List PlacedSymbol} {p n : ℕ} → FirstFault end xs ys p n → SomeFault end xs ys p n
is_fault (here f l) = fault_here f
is_fault (later f r) = fault_later (is_fault r)
is_fault (at_end u) = fault_end u

first_of : {end : ℕ} {xs : List Symbol} {ys : List PlacedSymbol} {p n : ℕ} (from : ℕ) → Rising from ys end → FirstFault end xs ys p n → {q m : ℕ} → SomeFault end xs ys q m → (p < q) ⊎ ((p ≡ q) × (n ≤ m))
first_of from r (here f l) (fault_here {n = m} g) = inr (refl, l m g)
first_of from r (here {y = y} f l) (fault_later g) = inl (behind (suc y.place) r.1 g)
first_of from r (later {y = y} f k) (fault_here {n = m} g) = absurd (f m g)
first_of from r (later {y = y} f k) (fault_later g) = first_of (suc y.place) r.1 k g
first_of from r (at_end u) (fault_end v) = inr (refl, omega arith)

pub leftmost : FirstFaultIsLeftmost
leftmost text ys p n r f = (is_fault f, λ q m g. first_of 0 (subst (Rising 0 ys) (omega arith) (rising r)) f g)
