-- The verdict is what the relation says: the first fault, or a run to the end within the limits.
--
use Rattle.std.proofs.Common.{◌≡◌, ℕ, zero, suc, ◌+◌, ◌≤◌, List, [], ◌∷◌, ◌++◌, sym, refl, ◌∙◌, arith}
use native.Mathlib.Decide.{ℕ_discrete}
use Rattle.reader.specs.Symbols.{Symbol, PlacedSymbol, symbols, Flaw, stray_byte, strange_word, big_number, big_register, Opens, opens_loop, opens_while, IsLoop, is_loop, LOOP, WHILE, DO, END, number, register, assign, unequal, plus_sign, minus_sign, semicolon, stray, strange, looping, separating, total, Starts, level, statements_before, loops_before}
use Rattle.reader.specs.Grammar.{Begins, Program}
use Rattle.reader.specs.Faults.{Fault, flawed, out_of_order, too_deep, too_many, too_many_loops, Unfinished, FirstFault, here, later, at_end}
use Rattle.reader.specs.Machine.{Expect, statement, becomes, source, sign, constant, loop_register, loop_do, while_register, while_unequal, while_zero, while_do, more, Step, to_target, to_loop, to_while, to_assign, to_source, to_plus, to_minus, to_constant, to_loop_register, to_loop_do, to_while_register, to_unequal, to_zero, to_while_do, to_next, to_end, Next, goes, stuck, next?, Look, flaw, fine, look, opens?, loop?, Begun, begun, begun?, both?, Verdict, accepted, refused, decide, finish, judge}
use Rattle.reader.proofs.Runs.{Run, at_last, onward}
use Rattle.reader.proofs.Reaches.{Reach, one_more, begins, reached, begins_step, Over, program_over, total_append, reach_level, starts_begun, begun_starts}

-- nothing is wrong with any of the symbols by itself
abbrev pub AllFine : List Symbol → Type 0
AllFine [] = Unit {0}
AllFine (s ∷ xs) = ((n : ℕ) → Flaw s n → ⊥) × AllFine xs

pub same_flaw : {s : Symbol} {m n : ℕ} → Flaw s m → Flaw s n → m ≡ n
same_flaw stray_byte stray_byte = refl
same_flaw strange_word strange_word = refl
same_flaw (big_number h) (big_number k) = refl
same_flaw (big_register h) (big_register k) = refl

small_flaw : {s : Symbol} {n : ℕ} → Flaw s n → n ≤ 4
small_flaw stray_byte = omega arith
small_flaw strange_word = omega arith
small_flaw (big_number h) = omega arith
small_flaw (big_register h) = omega arith

-- the smallest number at one symbol, by what holds there
module _ {xs : List Symbol} {s : Symbol} where
  least_flaw : {n m : ℕ} → Flaw s n → Fault xs s m → n ≤ m
  least_flaw f (flawed g) = omega (arith, same_flaw f g)
  least_flaw f (out_of_order b c) = omega (arith, small_flaw f)
  least_flaw f (too_deep o h) = omega (arith, small_flaw f)
  least_flaw f (too_many o h) = omega (arith, small_flaw f)
  least_flaw f (too_many_loops o h) = omega (arith, small_flaw f)

  module _ (nice : (n : ℕ) → Flaw s n → ⊥) where
    least_order : {m : ℕ} → Fault xs s m → 5 ≤ m
    least_order (flawed {n} g) = absurd (nice n g)
    least_order (out_of_order b c) = omega arith
    least_order (too_deep o h) = omega arith
    least_order (too_many o h) = omega arith
    least_order (too_many_loops o h) = omega arith

    module _ (next : Begins (xs ++ (s ∷ []))) where
      least_deep : {m : ℕ} → Fault xs s m → 6 ≤ m
      least_deep (flawed {n} g) = absurd (nice n g)
      least_deep (out_of_order b c) = absurd (c next)
      least_deep (too_deep o h) = omega arith
      least_deep (too_many o h) = omega arith
      least_deep (too_many_loops o h) = omega arith

      module _ (flat : Opens s → level xs ≡ 8 → ⊥) where
        least_many : {m : ℕ} → Fault xs s m → 7 ≤ m
        least_many (flawed {n} g) = absurd (nice n g)
        least_many (out_of_order b c) = absurd (c next)
        least_many (too_deep o h) = absurd (flat o h)
        least_many (too_many o h) = omega arith
        least_many (too_many_loops o h) = omega arith

        no_fault : (Starts xs → statements_before xs ≡ 256 → ⊥) → (IsLoop s → loops_before xs ≡ 32 → ⊥) → {m : ℕ} → Fault xs s m → ⊥
        no_fault a b (flawed {n} g) = nice n g
        no_fault a b (out_of_order _ c) = c next
        no_fault a b (too_deep o h) = flat o h
        no_fault a b (too_many o h) = a o h
        no_fault a b (too_many_loops o h) = b o h

-- how many statements can have begun before
abbrev pub room : Expect → ℕ
room statement = 256
room becomes = 255
room source = 255
room sign = 255
room constant = 255
room loop_register = 255
room loop_do = 255
room while_register = 255
room while_unequal = 255
room while_zero = 255
room while_do = 255
room more = 255

room-step : {e e' : Expect} {d d' : ℕ} {s : Symbol} (n : ℕ) → Step e s d e' d' → n ≤ room e → (Begun e × (n ≡ 256) → ⊥) → n + separating s ≤ room e'
room-step n to_target h f = let k : n ≡ 256 → ⊥ = λ e. f (begun, e) in omega arith
room-step n to_loop h f = let k : n ≡ 256 → ⊥ = λ e. f (begun, e) in omega arith
room-step n to_while h f = let k : n ≡ 256 → ⊥ = λ e. f (begun, e) in omega arith
room-step n to_assign h f = omega arith
room-step n to_source h f = omega arith
room-step n to_plus h f = omega arith
room-step n to_minus h f = omega arith
room-step n to_constant h f = omega arith
room-step n to_loop_register h f = omega arith
room-step n to_loop_do h f = omega arith
room-step n to_while_register h f = omega arith
room-step n to_unequal h f = omega arith
room-step n to_zero h f = omega arith
room-step n to_while_do h f = omega arith
room-step n to_next h f = omega arith
room-step n to_end h f = omega arith

level-step : {e e' : Expect} {d d' : ℕ} {s : Symbol} → Step e s d e' d' → d ≤ 8 → (Opens s × (d ≡ 8) → ⊥) → d' ≤ 8
level-step to_target h f = omega arith
level-step {d = d} to_loop h f = let k : d ≡ 8 → ⊥ = λ e. f (opens_loop, e) in omega arith
level-step {d = d} to_while h f = let k : d ≡ 8 → ⊥ = λ e. f (opens_while, e) in omega arith
level-step to_assign h f = omega arith
level-step to_source h f = omega arith
level-step to_plus h f = omega arith
level-step to_minus h f = omega arith
level-step to_constant h f = omega arith
level-step to_loop_register h f = omega arith
level-step to_loop_do h f = omega arith
level-step to_while_register h f = omega arith
level-step to_unequal h f = omega arith
level-step to_zero h f = omega arith
level-step to_while_do h f = omega arith
level-step to_next h f = omega arith
level-step to_end h f = omega arith

loops-step : (m : ℕ) (s : Symbol) → m ≤ 32 → (IsLoop s × (m ≡ 32) → ⊥) → m + looping s ≤ 32
loops-step m LOOP h f = let k : m ≡ 32 → ⊥ = λ e. f (is_loop, e) in omega arith
loops-step m WHILE h f = omega arith
loops-step m DO h f = omega arith
loops-step m END h f = omega arith
loops-step m (number c) h f = omega arith
loops-step m (register i) h f = omega arith
loops-step m assign h f = omega arith
loops-step m unequal h f = omega arith
loops-step m plus_sign h f = omega arith
loops-step m minus_sign h f = omega arith
loops-step m semicolon h f = omega arith
loops-step m stray h f = omega arith
loops-step m strange h f = omega arith

-- what is accepted from a state: a run to the end within the limits, and no fault
pub record Passes (end : ℕ) (xs : List Symbol) (e : Expect) (d n m : ℕ) (ys : List PlacedSymbol) : Type 0 where
  pub run : Run 8 e d (symbols ys)
  pub all_fine : AllFine (symbols ys)
  pub few : n + total separating (symbols ys) ≤ 255
  pub few_loops : m + total looping (symbols ys) ≤ 32
  pub faultless : (p k : ℕ) → FirstFault end xs ys p k → ⊥

abbrev pub SaysAt : ℕ → List Symbol → Expect → ℕ → ℕ → ℕ → List PlacedSymbol → Verdict → Type 0
SaysAt end xs e d n m ys accepted = Passes end xs e d n m ys
SaysAt end xs e d n m ys (refused k p) = FirstFault end xs ys p k

unfinished : {xs : List Symbol} {e : Expect} {d : ℕ} → Reach xs e d → (Over e d → ⊥) → Unfinished xs
unfinished w f = (begins w, λ g. f (program_over w g))

no_end : {end : ℕ} {xs : List Symbol} → Program xs → (p k : ℕ) → FirstFault end xs [] p k → ⊥
no_end g p k (at_end u) = u.1 g

-- at the text's end
ends : (end : ℕ) (xs : List Symbol) (e : Expect) (d n m : ℕ) → Reach xs e d → n ≤ room e → m ≤ 32 → SaysAt end xs e d n m [] (finish end e d)
ends end xs statement d n m w h k = at_end (unfinished w (λ o. elim o [ ]))
ends end xs becomes d n m w h k = at_end (unfinished w (λ o. elim o [ ]))
ends end xs source d n m w h k = at_end (unfinished w (λ o. elim o [ ]))
ends end xs sign d n m w h k = at_end (unfinished w (λ o. elim o [ ]))
ends end xs constant d n m w h k = at_end (unfinished w (λ o. elim o [ ]))
ends end xs loop_register d n m w h k = at_end (unfinished w (λ o. elim o [ ]))
ends end xs loop_do d n m w h k = at_end (unfinished w (λ o. elim o [ ]))
ends end xs while_register d n m w h k = at_end (unfinished w (λ o. elim o [ ]))
ends end xs while_unequal d n m w h k = at_end (unfinished w (λ o. elim o [ ]))
ends end xs while_zero d n m w h k = at_end (unfinished w (λ o. elim o [ ]))
ends end xs while_do d n m w h k = at_end (unfinished w (λ o. elim o [ ]))
ends end xs more zero n m w h k = record { run = at_last; all_fine = tt; few = omega arith; few_loops = omega arith; faultless = no_end (reached w) }
ends end xs more (suc d) n m w h k = at_end (unfinished w (λ o. elim o [ ]))

-- what is said one symbol later is said here, where the symbol has no fault and a step leads on
module _ (end : ℕ) (xs : List Symbol) (e : Expect) (d n m : ℕ) (y : PlacedSymbol) (ys : List PlacedSymbol) where
  earlier : {e' : Expect} {d' : ℕ} → Step e y.item d e' d' → d' ≤ 8 → ((k : ℕ) → Flaw y.item k → ⊥) → ((k : ℕ) → Fault xs y.item k → ⊥)
      → (v : Verdict) → SaysAt end (xs ++ (y.item ∷ [])) e' d' (n + separating y.item) (m + looping y.item) ys v → SaysAt end xs e d n m (y ∷ ys) v
  earlier t h nice none accepted s = record {
    run = onward t h s.run;
    all_fine = (nice, s.all_fine);
    few = omega (arith, s.few);
    few_loops = omega (arith, s.few_loops);
    faultless = passed;
  }
    where
      passed : (p k : ℕ) → FirstFault end xs (y ∷ ys) p k → ⊥
      passed p k (here f l) = none k f
      passed p k (later f r) = s.faultless p k r
  earlier t h nice none (refused k p) s = later none s

  module _ (w : Reach xs e d) (hd : d ≤ 8) (hm : m ≤ 32) (hn : n ≤ room e) (en : n ≡ statements_before xs) (em : m ≡ loops_before xs) where
    deep_not : (Opens y.item × (d ≡ 8) → ⊥) → Opens y.item → level xs ≡ 8 → ⊥
    deep_not f o h = f (o, reach_level w ∙ h)

    decided : (x : Look y.item) (t : Next e d y.item) (o : Dec (Opens y.item × (d ≡ 8))) (b : Dec (Begun e × (n ≡ 256))) (l : Dec (IsLoop y.item × (m ≡ 32))) (on : Expect → ℕ → Verdict)
        → ((e' : Expect) (d' : ℕ) → Step e y.item d e' d' → d' ≤ 8 → m + looping y.item ≤ 32 → n + separating y.item ≤ room e' → SaysAt end (xs ++ (y.item ∷ [])) e' d' (n + separating y.item) (m + looping y.item) ys (on e' d'))
        → SaysAt end xs e d n m (y ∷ ys) (decide y.place x t o b l on)
    decided (flaw k f) t o b l on go = here (flawed f) (λ j. least_flaw f)
    decided (fine f) (stuck g) o b l on go = here (out_of_order (begins w) (λ c. let s = begins_step y.item w c in g s.0 s.1 s.2)) (λ j. least_order f)
    decided (fine f) (goes t) (yes o) b l on go = here (too_deep o.0 (sym (reach_level w) ∙ o.1)) (λ j. least_deep f (begins (one_more xs w t)))
    decided (fine f) (goes t) (no o) (yes b) l on go = here (too_many (begun_starts w b.0) (sym en ∙ b.1)) (λ j. least_many f (begins (one_more xs w t)) (deep_not o))
    decided (fine f) (goes t) (no o) (no b) (yes l) on go = here (too_many_loops l.0 (sym em ∙ l.1)) (λ j. least_many f (begins (one_more xs w t)) (deep_not o))
    decided (fine f) (goes {e'} {d'} t) (no o) (no b) (no l) on go =
        let low = level-step t hd o in
        earlier t low f (λ k. no_fault f (begins (one_more xs w t)) (deep_not o) (λ s h. b (starts_begun w s, en ∙ h)) (λ s h. l (s, em ∙ h))) (on e' d')
        (go e' d' t low (loops-step m y.item hm l) (room-step n t hn b))

pub judged : (end : ℕ) (ys : List PlacedSymbol) (xs : List Symbol) (e : Expect) (d n m : ℕ) → Reach xs e d → d ≤ 8 → m ≤ 32 → n ≤ room e → n ≡ statements_before xs → m ≡ loops_before xs → SaysAt end xs e d n m ys (judge end e d n m ys)
unfolding judge
judged end [] xs e d n m w hd hm hn en em = ends end xs e d n m w hn hm
judged end (y ∷ ys) xs e d n m w hd hm hn en em =
    decided end xs e d n m y ys w hd hm hn en em
    (look y.item) (next? e d y.item) (both? (opens? y.item) (ℕ_discrete d 8)) (both? (begun? e) (ℕ_discrete n 256)) (both? (loop? y.item) (ℕ_discrete m 32))
    (λ e' d'. judge end e' d' (n + separating y.item) (m + looping y.item) ys)
    (λ e' d' t h k r. judged end ys (xs ++ (y.item ∷ [])) e' d' (n + separating y.item) (m + looping y.item) (one_more xs w t) h k r
    (omega (arith, total_append separating xs (y.item ∷ []))) (omega (arith, total_append looping xs (y.item ∷ []))))
