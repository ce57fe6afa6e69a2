-- What the machine does at one symbol: it refuses, or is judged by what follows.
use Rattle.std.proofs.Common.{◌≡◌, ℕ, ◌+◌, List, ◌∷◌, refl, ap, ◌∙◌}
use native.Mathlib.Decide.{ℕ_discrete}
use Rattle.reader.specs.Symbols.{Symbol, PlacedSymbol, Flaw, Opens, IsLoop, separating, looping}
use Rattle.reader.specs.Machine.{Expect, Step, Next, goes, stuck, next?, Look, flaw, fine, look, opens?, loop?, Begun, begun?, both?, Verdict, refused, limited, decide, judge}
use Rattle.reader.proofs.Reaches.{same_state}
use Rattle.reader.proofs.Judged.{same_flaw}

module _ {e : Expect} {d : ℕ} {s : Symbol} {D S L : Type 0} (p : ℕ) (x : Look s) (t : Next e d s) (a : Dec D) (b : Dec S) (c : Dec L) (on : Expect → ℕ → Verdict) where
  decide_flaw : (n : ℕ) → Flaw s n → decide p x t a b c on ≡ refused n p
  decide_flaw n f = go x
    where
      go : (x : Look s) → decide p x t a b c on ≡ refused n p
      go (flaw m g) = ap (λ (k : ℕ). refused k p) (same_flaw g f)
      go (fine g) = absurd (g n f)

  module _ (nice : (n : ℕ) → Flaw s n → ⊥) where
    decide_stuck : ((e' : Expect) (d' : ℕ) → Step e s d e' d' → ⊥) → decide p x t a b c on ≡ refused 5 p
    decide_stuck f = go x t
      where
        go : (x : Look s) (t : Next e d s) → decide p x t a b c on ≡ refused 5 p
        go (flaw m g) t = absurd (nice m g)
        go (fine g) (stuck h) = refl
        go (fine g) (goes {e'} {d'} h) = absurd (f e' d' h)

    decide_goes : {e' : Expect} {d' : ℕ} → Step e s d e' d' → decide p x t a b c on ≡ limited p a b c (on e' d')
    decide_goes {e'} {d'} u = go x t
      where
        go : (x : Look s) (t : Next e d s) → decide p x t a b c on ≡ limited p a b c (on e' d')
        go (flaw m g) t = absurd (nice m g)
        go (fine g) (stuck h) = absurd (h e' d' u)
        go (fine g) (goes h) = same_state (λ k l. limited p a b c (on k l) ≡ limited p a b c (on e' d')) h u refl

module _ {D S L : Type 0} (p : ℕ) (v : Verdict) where
  limited_deep : (a : Dec D) (b : Dec S) (c : Dec L) → D → limited p a b c v ≡ refused 6 p
  limited_deep (yes h) b c o = refl
  limited_deep (no f) b c o = absurd (f o)

  limited-many : (a : Dec D) (b : Dec S) (c : Dec L) → (D → ⊥) → S → limited p a b c v ≡ refused 7 p
  limited-many (yes h) b c f o = absurd (f h)
  limited-many (no g) (yes h) c f o = refl
  limited-many (no g) (no h) c f o = absurd (h o)

  limited-loops : (a : Dec D) (b : Dec S) (c : Dec L) → (D → ⊥) → L → limited p a b c v ≡ refused 7 p
  limited-loops (yes h) b c f o = absurd (f h)
  limited-loops (no g) (yes h) c f o = refl
  limited-loops (no g) (no h) (yes k) f o = refl
  limited-loops (no g) (no h) (no k) f o = absurd (k o)

  limited_on : (a : Dec D) (b : Dec S) (c : Dec L) → (D → ⊥) → (S → ⊥) → (L → ⊥) → limited p a b c v ≡ v
  limited_on (yes h) b c f g k = absurd (f h)
  limited_on (no h) (yes i) c f g k = absurd (g i)
  limited_on (no h) (no i) (yes j) f g k = absurd (k j)
  limited_on (no h) (no i) (no j) f g k = refl

-- the next symbol decides, or leads on
module _ (end : ℕ) (e : Expect) (d n m : ℕ) (y : PlacedSymbol) (ys : List PlacedSymbol) where
  abbrev deep_here : Dec (Opens y.item × (d ≡ 8))
  deep_here = both? (opens? y.item) (ℕ_discrete d 8)

  abbrev many_here : Dec (Begun e × (n ≡ 256))
  many_here = both? (begun? e) (ℕ_discrete n 256)

  abbrev loops_here : Dec (IsLoop y.item × (m ≡ 32))
  loops_here = both? (loop? y.item) (ℕ_discrete m 32)

  abbrev on_here : Expect → ℕ → Verdict
  on_here e' d' = judge end e' d' (n + separating y.item) (m + looping y.item) ys

  pub judge_flaw : (k : ℕ) → Flaw y.item k → judge end e d n m (y ∷ ys) ≡ refused k y.place
  unfolding judge
  judge_flaw k f = decide_flaw y.place (look y.item) (next? e d y.item) deep_here many_here loops_here on_here k f

  module _ (nice : (k : ℕ) → Flaw y.item k → ⊥) where
    pub judge_stuck : ((e' : Expect) (d' : ℕ) → Step e y.item d e' d' → ⊥) → judge end e d n m (y ∷ ys) ≡ refused 5 y.place
    unfolding judge
    judge_stuck f = decide_stuck y.place (look y.item) (next? e d y.item) deep_here many_here loops_here on_here nice f

    module _ {e' : Expect} {d' : ℕ} (t : Step e y.item d e' d') where
      goes_on : judge end e d n m (y ∷ ys) ≡ limited y.place deep_here many_here loops_here (on_here e' d')
      unfolding judge
      goes_on = decide_goes y.place (look y.item) (next? e d y.item) deep_here many_here loops_here on_here nice t

      pub judge_deep : Opens y.item → d ≡ 8 → judge end e d n m (y ∷ ys) ≡ refused 6 y.place
      judge_deep o h = goes_on ∙ limited_deep y.place (on_here e' d') deep_here many_here loops_here (o, h)

      module _ (flat : Opens y.item × (d ≡ 8) → ⊥) where
        pub judge-many : Begun e → n ≡ 256 → judge end e d n m (y ∷ ys) ≡ refused 7 y.place
        judge-many b h = goes_on ∙ limited-many y.place (on_here e' d') deep_here many_here loops_here flat (b, h)

        pub judge-loops : IsLoop y.item → m ≡ 32 → judge end e d n m (y ∷ ys) ≡ refused 7 y.place
        judge-loops l h = goes_on ∙ limited-loops y.place (on_here e' d') deep_here many_here loops_here flat (l, h)

        pub judge_on : (Begun e × (n ≡ 256) → ⊥) → (IsLoop y.item × (m ≡ 32) → ⊥) → judge end e d n m (y ∷ ys) ≡ judge end e' d' (n + separating y.item) (m + looping y.item) ys
        judge_on f g = goes_on ∙ limited_on y.place (on_here e' d') deep_here many_here loops_here flat f g
