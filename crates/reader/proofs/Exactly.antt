-- The verdict is exact: it accepts just the sheets within the limits, and else tells the first fault.
use Rattle.std.proofs.Common.{◌≡◌, ℕ, suc, ◌+◌, ◌≤◌, List, [], ◌∷◌, refl, ap, subst, append-nil, arith}
use native.Mathlib.Decide.{ℕ_discrete}
use Rattle.reader.specs.Symbols.{Symbol, PlacedSymbol, symbols, Flaw, Opens, opens_loop, opens_while, IsLoop, is_loop, separating, looping, total}
use Rattle.reader.specs.Faults.{FirstFault, here, later, at_end}
use Rattle.reader.specs.Machine.{Expect, statement, Step, to_loop, to_while, Next, goes, stuck, next?, Look, flaw, fine, look, opens?, loop?, begun?, both?, Verdict, accepted, refused, decide, judge, verdict}
use Rattle.reader.specs.Claims.{Sheetable, Says, VerdictIsGrammar, SheetsAreAccepted, FirstFaultIsTold}
use Rattle.reader.proofs.Runs.{Run, at_last, onward, runs, spelled}
use Rattle.reader.proofs.Reaches.{from_start, same_state}
use Rattle.reader.proofs.Judged.{AllFine, Passes, SaysAt, judged}
use Rattle.reader.proofs.Counts.{size_spelled, loops_spelled, fit_spelled, fine_spelled}

said : (end : ℕ) (ys : List PlacedSymbol) → SaysAt end [] statement 0 0 0 ys (verdict end ys)
said end ys = judged end ys [] statement 0 0 0 from_start (omega arith) (omega arith) (omega arith) refl refl

sheet : {end : ℕ} {ys : List PlacedSymbol} → Passes end [] statement 0 0 0 ys → Sheetable ys
sheet r =
    let g = spelled 8 r.run in
    (g.0, g.1, record { fit = fit_spelled g.1 r.all_fine; shallow = g.2; few = omega (arith, size_spelled g.1, r.few); few_loops = omega (arith, loops_spelled g.1, r.few_loops) })

pub exact : VerdictIsGrammar
exact end ys = go (verdict end ys) (said end ys)
  where
    go : (v : Verdict) → SaysAt end [] statement 0 0 0 ys v → Says end ys v
    go accepted s = sheet s
    go (refused n p) s = s

-- a sheet within the limits is accepted
raised : {s : Symbol} {e e' : Expect} {d d' : ℕ} → Opens s → Step e s d e' d' → d' ≡ suc d
raised opens_loop to_loop = refl
raised opens_while to_while = refl

loop_counts : {s : Symbol} → IsLoop s → looping s ≡ 1
loop_counts is_loop = refl

proceeds : {e e' : Expect} {d d' : ℕ} {s : Symbol} {D S L : Type 0} (p : ℕ) (x : Look s) (t : Next e d s) (a : Dec D) (b : Dec S) (c : Dec L) (on : Expect → ℕ → Verdict)
    → Step e s d e' d' → ((n : ℕ) → Flaw s n → ⊥) → (D → ⊥) → (S → ⊥) → (L → ⊥) → on e' d' ≡ accepted → decide p x t a b c on ≡ accepted
proceeds p (flaw n f) t a b c on u nice na nb nc h = absurd (nice n f)
proceeds {e' = e'} {d' = d'} p (fine f) (stuck g) a b c on u nice na nb nc h = absurd (g e' d' u)
proceeds p (fine f) (goes t) (yes a) b c on u nice na nb nc h = absurd (na a)
proceeds p (fine f) (goes t) (no a) (yes b) c on u nice na nb nc h = absurd (nb b)
proceeds p (fine f) (goes t) (no a) (no b) (yes c) on u nice na nb nc h = absurd (nc c)
proceeds p (fine f) (goes t) (no a) (no b) (no c) on u nice na nb nc h = same_state (λ e d. on e d ≡ accepted) t u h

passes : (end : ℕ) (ys : List PlacedSymbol) {e : Expect} {d : ℕ} (n m : ℕ) → Run 8 e d (symbols ys) → AllFine (symbols ys) → n + total separating (symbols ys) ≤ 255 → m + total looping (symbols ys) ≤ 32 → judge end e d n m ys ≡ accepted
unfolding judge
passes end [] n m at_last f a b = refl
passes end (y ∷ ys) {e} {d} n m (onward {e' = e'} {d' = d'} t h r) f a b =
    proceeds y.place (look y.item) (next? e d y.item) (both? (opens? y.item) (ℕ_discrete d 8)) (both? (begun? e) (ℕ_discrete n 256)) (both? (loop? y.item) (ℕ_discrete m 32))
    (λ e' d'. judge end e' d' (n + separating y.item) (m + looping y.item) ys) t f.0
    (λ o. omega (arith, raised o.0 t, o.1)) (λ o. omega (arith, o.1)) (λ o. omega (arith, loop_counts o.0, o.1))
    (passes end ys (n + separating y.item) (m + looping y.item) r f.1 (omega arith) (omega arith))

pub complete : SheetsAreAccepted
complete end ys g =
    let r = runs 8 g.1 0 [] (omega (arith, g.2.shallow)) at_last in
    passes end ys 0 0 (subst (Run 8 statement 0) (append-nil (symbols ys)) r) (fine_spelled g.1 g.2.fit) (omega (arith, size_spelled g.1, g.2.few)) (omega (arith, loops_spelled g.1, g.2.few_loops))

-- the first fault is one
same_fault : {end : ℕ} {xs : List Symbol} {ys : List PlacedSymbol} {p q n m : ℕ} → FirstFault end xs ys p n → FirstFault end xs ys q m → refused n p ≡ refused m q
same_fault (here {y = y} {n = n} f l) (here {n = m} g k) = ap (λ (j : ℕ). refused j y.place) (both n m (l m g) (k n f))
  where
    both : (n m : ℕ) → n ≤ m → m ≤ n → n ≡ m
    both n m a b = omega arith
same_fault (here {n = n} f l) (later g k) = absurd (g n f)
same_fault (later g k) (here {n = n} f l) = absurd (g n f)
same_fault (later g k) (later f l) = same_fault k l
same_fault (at_end u) (at_end v) = refl

pub told : FirstFaultIsTold
told end ys p n f = go (verdict end ys) (said end ys)
  where
    go : (v : Verdict) → SaysAt end [] statement 0 0 0 ys v → v ≡ refused n p
    go accepted s = absurd (s.faultless p n f)
    go (refused m q) s = same_fault s f
