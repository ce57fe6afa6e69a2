-- For a reader by functions `body` and `statement` that call each other: what each has read, and how the parts join.
-- A call's contract is `Went` where it answers, and `judge .. ≡ refused n p` where it refuses.
use Rattle.std.proofs.Common.{◌≡◌, ℕ, suc, ◌+◌, ◌<◌, ◌≤◌, List, [], ◌∷◌, ◌++◌, sym, refl, ap, ◌∙◌, subst, append_assoc, append-nil, arith}
use Rattle.reader.specs.Sheet.{Sheet, done, plus, minus, loop, while, then, Within}
use Rattle.reader.specs.Symbols.{Symbol, LOOP, WHILE, DO, END, number, register, assign, unequal, plus_sign, minus_sign, semicolon, PlacedSymbol, symbols, Flaw, Opens, opens_loop, IsLoop, is_loop, separating, looping, placed}
use Rattle.reader.specs.Grammar.{Spells, adds, subtracts, sequence, loops, whiles}
use Rattle.reader.specs.Machine.{Expect, statement, more, Step, to_target, to_loop, to_while, to_assign, to_source, to_plus, to_minus, to_constant, to_loop_register, to_loop_do, to_while_register, to_unequal, to_zero, to_while_do, to_next, to_end, Begun, refused, judge, verdict}
use Rattle.reader.specs.Faults.{FirstFault}
use Rattle.reader.specs.Claims.{Says}
use Rattle.reader.proofs.Exactly.{exact}
use Rattle.reader.proofs.Uniquely.{unique}
use Rattle.reader.proofs.Driving.{judge_on}
use Rattle.reader.proofs.Counts.{fine_number, fine_register}

-- the statements of p were read, from ys to zs, at level d; n statements and m LOOPs had begun before, and n' and m' have now,
-- where n and n' count the semicolons and DOs passed
pub record Went (end d n m : ℕ) (ys : List PlacedSymbol) (n' m' : ℕ) (zs : List PlacedSymbol) (p : Sheet) : Type 0 where
  pub judged : judge end statement d n m ys ≡ judge end more d n' m' zs
  pub spelling : (xs : List Symbol) × (symbols ys ≡ xs ++ symbols zs) × Spells xs p

-- one symbol on, where no limit is asked
loop_opens : {s : Symbol} → IsLoop s → Opens s
loop_opens is_loop = opens_loop

module _ (end : ℕ) {e e' : Expect} {d d' : ℕ} (n m : ℕ) (y : PlacedSymbol) (ys : List PlacedSymbol) where
  pub judge_plain : (t : Step e y.item d e' d') → ((k : ℕ) → Flaw y.item k → ⊥) → (Opens y.item → ⊥) → (Begun e → ⊥) → (n' : ℕ) → n + separating y.item ≡ n' → m + looping y.item ≡ m
      → judge end e d n m (y ∷ ys) ≡ judge end e' d' n' m ys
  judge_plain t nice o b n' a c =
      judge_on end e d n m y ys nice t (λ h. o h.0) (λ h. b h.0) (λ h. o (loop_opens h.0)) ∙ (λ i. judge end e' d' (a i) (c i) ys)

  -- a statement begins, below the limits
  pub judge_begins : (t : Step e y.item d e' d') → ((k : ℕ) → Flaw y.item k → ⊥) → (Opens y.item → d < 8) → n < 256 → (m' : ℕ) → (IsLoop y.item → m < 32) → n + separating y.item ≡ n → m + looping y.item ≡ m'
      → judge end e d n m (y ∷ ys) ≡ judge end e' d' n m' ys
  judge_begins t nice o b m' l a c =
      judge_on end e d n m y ys nice t (λ h. omega (arith, o h.0, h.1)) (λ h. omega (arith, h.1)) (λ h. omega (arith, l h.0, h.1)) ∙ (λ i. judge end e' d' (a i) (c i) ys)

module _ (end d n m : ℕ) where
  module _ (p₁ p₂ p₃ p₄ p₅ i j c : ℕ) (zs : List PlacedSymbol) (room : n < 256) (hi : i ≤ 31) (hj : j ≤ 31) (hc : c ≤ 999999) where
    pub went_plus : Went end d n m (placed p₁ (register i) ∷ placed p₂ assign ∷ placed p₃ (register j) ∷ placed p₄ plus_sign ∷ placed p₅ (number c) ∷ zs) n m zs (plus i j c done)
    went_plus = record {
      judged =
          judge_begins end n m (placed p₁ (register i)) _ to_target (fine_register i hi) (λ o. elim o [ ]) room m (λ l. elim l [ ]) (omega arith) (omega arith)
          ∙ judge_plain end n m (placed p₂ assign) _ to_assign (λ k f. elim f [ ]) (λ o. elim o [ ]) (λ b. elim b [ ]) n (omega arith) (omega arith)
          ∙ judge_plain end n m (placed p₃ (register j)) _ to_source (fine_register j hj) (λ o. elim o [ ]) (λ b. elim b [ ]) n (omega arith) (omega arith)
          ∙ judge_plain end n m (placed p₄ plus_sign) _ to_plus (λ k f. elim f [ ]) (λ o. elim o [ ]) (λ b. elim b [ ]) n (omega arith) (omega arith)
          ∙ judge_plain end n m (placed p₅ (number c)) zs to_constant (fine_number c hc) (λ o. elim o [ ]) (λ b. elim b [ ]) n (omega arith) (omega arith);
      spelling = (register i ∷ assign ∷ register j ∷ plus_sign ∷ number c ∷ [], refl, adds);
    }

    pub went_minus : Went end d n m (placed p₁ (register i) ∷ placed p₂ assign ∷ placed p₃ (register j) ∷ placed p₄ minus_sign ∷ placed p₅ (number c) ∷ zs) n m zs (minus i j c done)
    went_minus = record {
      judged =
          judge_begins end n m (placed p₁ (register i)) _ to_target (fine_register i hi) (λ o. elim o [ ]) room m (λ l. elim l [ ]) (omega arith) (omega arith)
          ∙ judge_plain end n m (placed p₂ assign) _ to_assign (λ k f. elim f [ ]) (λ o. elim o [ ]) (λ b. elim b [ ]) n (omega arith) (omega arith)
          ∙ judge_plain end n m (placed p₃ (register j)) _ to_source (fine_register j hj) (λ o. elim o [ ]) (λ b. elim b [ ]) n (omega arith) (omega arith)
          ∙ judge_plain end n m (placed p₄ minus_sign) _ to_minus (λ k f. elim f [ ]) (λ o. elim o [ ]) (λ b. elim b [ ]) n (omega arith) (omega arith)
          ∙ judge_plain end n m (placed p₅ (number c)) zs to_constant (fine_number c hc) (λ o. elim o [ ]) (λ b. elim b [ ]) n (omega arith) (omega arith);
      spelling = (register i ∷ assign ∷ register j ∷ minus_sign ∷ number c ∷ [], refl, subtracts);
    }

  -- p; q
  pub went_on : {ys us zs : List PlacedSymbol} {n₁ m₁ n₂ m₂ : ℕ} {p q : Sheet} (at : ℕ) → Went end d n m ys n₁ m₁ (placed at semicolon ∷ us) p → Went end d (suc n₁) m₁ us n₂ m₂ zs q → Went end d n m ys n₂ m₂ zs (then p q)
  went_on {ys} {us} {zs} {n₁} {m₁} at a b = record {
    judged = a.judged ∙ judge_plain end n₁ m₁ (placed at semicolon) us to_next (λ k f. elim f [ ]) (λ o. elim o [ ]) (λ h. elim h [ ]) (suc n₁) (omega arith) (omega arith) ∙ b.judged;
    spelling = (
      a.spelling.0 ++ (semicolon ∷ b.spelling.0),
      a.spelling.1 ∙ ap (λ (l : List Symbol). a.spelling.0 ++ (semicolon ∷ l)) b.spelling.1 ∙ sym (append_assoc a.spelling.0 (semicolon ∷ b.spelling.0) (symbols zs)),
      sequence a.spelling.2 b.spelling.2,
    );
  }

  -- LOOP xi DO b END
  pub went_loop : {us zs : List PlacedSymbol} {n₁ m₁ : ℕ} {b : Sheet} (p₁ p₂ p₃ p₄ i : ℕ) → d < 8 → n < 256 → m < 32 → i ≤ 31
      → Went end (suc d) (suc n) (suc m) us n₁ m₁ (placed p₄ END ∷ zs) b → Went end d n m (placed p₁ LOOP ∷ placed p₂ (register i) ∷ placed p₃ DO ∷ us) n₁ m₁ zs (loop i b done)
  went_loop {us} {zs} {n₁} {m₁} p₁ p₂ p₃ p₄ i hd hn hm hi a = record {
    judged =
        judge_begins end n m (placed p₁ LOOP) _ to_loop (λ k f. elim f [ ]) (λ o. hd) hn (suc m) (λ l. hm) (omega arith) (omega arith)
        ∙ judge_plain end n (suc m) (placed p₂ (register i)) _ to_loop_register (fine_register i hi) (λ o. elim o [ ]) (λ h. elim h [ ]) n (omega arith) (omega arith)
        ∙ judge_plain end n (suc m) (placed p₃ DO) us to_loop_do (λ k f. elim f [ ]) (λ o. elim o [ ]) (λ h. elim h [ ]) (suc n) (omega arith) (omega arith)
        ∙ a.judged
        ∙ judge_plain end n₁ m₁ (placed p₄ END) zs to_end (λ k f. elim f [ ]) (λ o. elim o [ ]) (λ h. elim h [ ]) n₁ (omega arith) (omega arith);
    spelling = (
      LOOP ∷ register i ∷ DO ∷ (a.spelling.0 ++ (END ∷ [])),
      ap (λ (l : List Symbol). LOOP ∷ register i ∷ DO ∷ l) (a.spelling.1 ∙ sym (append_assoc a.spelling.0 (END ∷ []) (symbols zs))),
      loops a.spelling.2,
    );
  }

  -- WHILE xi != 0 DO b END
  pub went_while : {us zs : List PlacedSymbol} {n₁ m₁ : ℕ} {b : Sheet} (p₁ p₂ p₃ p₄ p₅ p₆ i : ℕ) → d < 8 → n < 256 → i ≤ 31
      → Went end (suc d) (suc n) m us n₁ m₁ (placed p₆ END ∷ zs) b → Went end d n m (placed p₁ WHILE ∷ placed p₂ (register i) ∷ placed p₃ unequal ∷ placed p₄ (number 0) ∷ placed p₅ DO ∷ us) n₁ m₁ zs (while i b done)
  went_while {us} {zs} {n₁} {m₁} p₁ p₂ p₃ p₄ p₅ p₆ i hd hn hi a = record {
    judged =
        judge_begins end n m (placed p₁ WHILE) _ to_while (λ k f. elim f [ ]) (λ o. hd) hn m (λ l. elim l [ ]) (omega arith) (omega arith)
        ∙ judge_plain end n m (placed p₂ (register i)) _ to_while_register (fine_register i hi) (λ o. elim o [ ]) (λ h. elim h [ ]) n (omega arith) (omega arith)
        ∙ judge_plain end n m (placed p₃ unequal) _ to_unequal (λ k f. elim f [ ]) (λ o. elim o [ ]) (λ h. elim h [ ]) n (omega arith) (omega arith)
        ∙ judge_plain end n m (placed p₄ (number 0)) _ to_zero (fine_number 0 (omega arith)) (λ o. elim o [ ]) (λ h. elim h [ ]) n (omega arith) (omega arith)
        ∙ judge_plain end n m (placed p₅ DO) us to_while_do (λ k f. elim f [ ]) (λ o. elim o [ ]) (λ h. elim h [ ]) (suc n) (omega arith) (omega arith)
        ∙ a.judged
        ∙ judge_plain end n₁ m₁ (placed p₆ END) zs to_end (λ k f. elim f [ ]) (λ o. elim o [ ]) (λ h. elim h [ ]) n₁ (omega arith) (omega arith);
    spelling = (
      WHILE ∷ register i ∷ unequal ∷ number 0 ∷ DO ∷ (a.spelling.0 ++ (END ∷ [])),
      ap (λ (l : List Symbol). WHILE ∷ register i ∷ unequal ∷ number 0 ∷ DO ∷ l) (a.spelling.1 ∙ sym (append_assoc a.spelling.0 (END ∷ []) (symbols zs))),
      whiles a.spelling.2,
    );
  }

-- what was read to the end is the sheet, within the limits
pub whole : {end n m : ℕ} {ys : List PlacedSymbol} {p : Sheet} → Went end 0 0 0 ys n m [] p → Spells (symbols ys) p × Within p
unfolding judge
whole {end} {n} {m} {ys} {p} a =
    let s : Spells (symbols ys) p = subst (λ (l : List Symbol). Spells l p) (sym (a.spelling.1 ∙ append-nil a.spelling.0)) a.spelling.2 in
    let g = subst (Says end ys) a.judged (exact end ys) in
    (s, subst Within (unique (symbols ys) g.0 p g.1 s) g.2)

-- what was refused is the first fault
pub first-fault : {end n p : ℕ} {ys : List PlacedSymbol} → verdict end ys ≡ refused n p → FirstFault end [] ys p n
first-fault {end} {ys = ys} e = subst (Says end ys) e (exact end ys)
