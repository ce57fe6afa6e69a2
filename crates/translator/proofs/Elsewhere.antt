-- A box whose registers from N on were changed by others.
use Rattle.std.proofs.Common.{◌≡◌, ℕ, ◌+◌, ◌<◌, ◌≤◌, List, length, get_or, take, sym, refl, ap, ◌∙◌, get_or-take, take-take}
use Rattle.translator.specs.declared.types.Instruction.{Instruction}
use Rattle.reader.specs.Sheet.{Sheet, while, then}
use Rattle.reader.specs.WrittenRun.{times}
use Rattle.translator.specs.JumpCode.{Box}
use Rattle.translator.specs.Standing.{Around, outermost, in_while, in_loop, tail, pending, Ends, Spot, before, testing, lowering, Place, Live, rest_of, pending_of, seen, StandsAt}
use Rattle.translator.proofs.BoxStep.{run_path, counts_path}
use Rattle.translator.specs.Following.{Low, over}

-- only the registers below n count
module _ (code : List Instruction) (n d top : ℕ) (ν ν' : List ℕ) (same : (i : ℕ) → i < n → get_or ν' i 0 ≡ get_or ν i 0) where
  tail_same : (q : ℕ) (k : Around) → Ends code n d q k → tail ν' k ≡ tail ν k
  tail_same q outermost e = refl
  tail_same q (in_while i b p k) e = ap (λ (r : Sheet). while i b (then p r)) (tail_same e.1 k e.3.rest)
  tail_same q (in_loop c b p k) e =
      let here = same c e.2.counter.below in
      let there = tail_same e.1 k e.3.rest in
      λ i. times (here i) b (then p (there i))

  pending_same : (q : ℕ) (k : Around) → Ends code n d q k → pending ν' k ≡ pending ν k
  pending_same q outermost e = refl
  pending_same q (in_while i b p k) e = pending_same e.1 k e.3.rest
  pending_same q (in_loop c b p k) e =
      let here = same c e.2.counter.below in
      let there = pending_same e.1 k e.3.rest in
      λ i. here i + there i

  rest_same : (l : ℕ) (m : Spot) → Place code n d l m → rest_of ν' m ≡ rest_of ν m
  rest_same l (before p k) e = ap (then p) (tail_same e.0 k e.2)
  rest_same l (testing c b p k) e =
      tail_same e.0 (in_loop c b p k) (l, e.1, e.2, e.3)
  rest_same l (lowering c b p k) e = tail_same e.2.0 (in_loop c b p k) (e.0, e.2.1, e.2.2, e.2.3)

  pends_same : (l : ℕ) (m : Spot) → Place code n d l m → pending_of ν' m ≡ pending_of ν m
  pends_same l (before p k) e = pending_same e.0 k e.2
  pends_same l (testing c b p k) e = pending_same e.0 (in_loop c b p k) (l, e.1, e.2, e.3)
  pends_same l (lowering c b p k) e = pending_same e.2.0 (in_loop c b p k) (e.0, e.2.1, e.2.2, e.2.3)

  live_same : (l : ℕ) (m : Spot) → Place code n d l m → Live ν m → Live ν' m
  live_same l (before p k) e v = tt
  live_same l (testing c b p k) e v = tt
  live_same l (lowering c b p k) e v = (v.0, same c e.2.2.counter.below ∙ v.1)

pub elsewhere : (code : List Instruction) (n d top : ℕ) (s : Box) (m : Spot) (ν : List ℕ) → StandsAt code n d top s m
    → take n ν ≡ take n s.registers → n ≤ length ν → Low top ν → StandsAt code n d top (over s ν) m × (seen (over s ν) m ≡ seen s m)
elsewhere code n d top s m ν h eq long low =
    let same : (i : ℕ) → i < n → get_or ν i 0 ≡ get_or s.registers i 0 =
    λ i lt. sym (get_or-take n ν i 0 lt) ∙ ap (λ (l : List ℕ). get_or l i 0) eq ∙ get_or-take n s.registers i 0 lt in (
      record {
        place = h.place;
        live = live_same code n d top s.registers ν same s.label m h.place h.live;
        wide = h.wide;
        long = long;
        low = low;
        paid = h.paid;
        few = h.few;
        bound = h.bound;
      },
      run_path (sym (take-take 32 n ν h.wide) ∙ ap (take 32) eq ∙ take-take 32 n s.registers h.wide)
          (rest_same code n d top s.registers ν same s.label m h.place)
          (counts_path (ap (λ (x : ℕ). s.counts.rounds + x) (pends_same code n d top s.registers ν same s.label m h.place))),
    )
