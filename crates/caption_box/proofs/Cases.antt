-- What a call comes to: a refusal, which changes nothing, or what it does.
use Rattle.std.proofs.Common.{◌≡◌, ℕ, ◌+◌, ◌<◌, ◌≤◌, Bool, true, false, cond, T, ltb, leb, List, length, set, Ok, Err, sym, refl, ◌∙◌, subst, ⊎_elim, arith, leb→le}
use Rattle.std.proofs.lemmas.Bool.{cases_lt, lt-ltb}
use Rattle.reader.specs.declared.types.Refusal.{Refusal}
use Rattle.reader.specs.declared.types.Refusal.TheVariants.{NoRegister, SmallStore, ManyInputs, OverTop, LongTick, LongShow}
use Rattle.caption_box.specs.declared.types.Ticked.{Ticked}
use Rattle.translator.specs.Following.{over}
use Rattle.caption_box.specs.Seats.{all_below}
use Rattle.caption_box.specs.Calls.{Scene, scene, Outcome, outcome, ticked, tick_box, largest_tally, ticks, beginning, rewinds, corrects}

abbrev pub tick_done : Scene → ℕ → Outcome Ticked
tick_done x k = outcome (Ok (ticked x.setting k x.box)) (scene x.setting (tick_box x.setting k x.box))

pub tick_cases : (x : Scene) (k : ℕ) (Q : Outcome Ticked → Type 0) → ((e : Refusal) → Q (outcome (Err e) x)) → Q (tick_done x k) → Q (ticks x k)
tick_cases x k Q bad good = go (ltb (length x.box.registers) x.setting.need) (ltb 4096 k) (ltb 1099511627776 (largest_tally x.box + k))
  where
    go : (a b c : Bool) → Q (cond a (outcome (Err SmallStore) x) (cond b (outcome (Err LongTick) x) (cond c (outcome (Err LongShow) x) (tick_done x k))))
    go true b c = bad SmallStore
    go false true c = bad LongTick
    go false false true = bad LongShow
    go false false false = good

pub below_31 : (i : ℕ) → ltb 31 i ≡ false → i < 32
below_31 i e = ⊎_elim (λ (lt : 31 < i). let x = lt-ltb 31 i lt in let z : true ≡ false = sym x ∙ e in absurd (subst T z tt)) (λ (le : i ≤ 31). omega arith) (cases_lt 31 i)

abbrev pub correct_done : Scene → ℕ → ℕ → Outcome (Unit {0})
correct_done x i v = outcome (Ok tt) (scene x.setting (over x.box (set x.box.registers i v)))

pub correct_cases : (x : Scene) (i v : ℕ) (Q : Outcome (Unit {0}) → Type 0) → ((e : Refusal) → Q (outcome (Err e) x))
    → (i < 32 → v ≤ x.setting.top → Q (correct_done x i v)) → Q (corrects x i v)
correct_cases x i v Q bad good = go (ltb (length x.box.registers) x.setting.need) (ltb 31 i) refl (ltb i (length x.box.registers)) (leb v x.setting.top) refl
  where
    go : (a b : Bool) → ltb 31 i ≡ b → (c d : Bool) → leb v x.setting.top ≡ d
        → Q (cond a (outcome (Err SmallStore) x) (cond b (outcome (Err NoRegister) x)
        (outcome (cond c (cond d (Ok tt) (Err OverTop)) (Err NoRegister)) (scene x.setting (over x.box (cond c (cond d (set x.box.registers i v) x.box.registers) x.box.registers))))))
    go true b eb c d ed = bad SmallStore
    go false true eb c d ed = bad NoRegister
    go false false eb false d ed = bad NoRegister
    go false false eb true false ed = bad OverTop
    go false false eb true true ed = good (below_31 i eb) (leb→le v x.setting.top (subst T (sym ed) tt))

abbrev pub rewind_done : Scene → List ℕ → Outcome (Unit {0})
rewind_done x xs = outcome (Ok tt) (scene x.setting (beginning x.setting xs x.box.registers))

pub rewind_cases : (x : Scene) (xs : List ℕ) (Q : Outcome (Unit {0}) → Type 0) → ((e : Refusal) → Q (outcome (Err e) x))
    → (all_below x.setting.top xs ≡ true → Q (rewind_done x xs)) → Q (rewinds x xs)
rewind_cases x xs Q bad good = go (ltb (length x.box.registers) x.setting.need) (ltb 31 (length xs)) (all_below x.setting.top xs) refl
  where
    go : (a b c : Bool) → all_below x.setting.top xs ≡ c
        → Q (cond a (outcome (Err SmallStore) x) (cond b (outcome (Err ManyInputs) x) (cond c (rewind_done x xs) (outcome (Err OverTop) x))))
    go true b c ec = bad SmallStore
    go false true c ec = bad ManyInputs
    go false false true ec = good ec
    go false false false ec = bad OverTop

-- a refusal changes nothing
abbrev Keeps : {A : Type 0} → Scene → Outcome A → Type 0
Keeps x o = (e : Refusal) → o.answer ≡ Err e → o.after ≡ x

pub tick_refused : (x y : Scene) (k : ℕ) (e : Refusal) → outcome (Err e) y ≡ ticks x k → y ≡ x
tick_refused x y k e q =
    subst (Keeps {A = Ticked} x) (sym q)
    (tick_cases x k (Keeps {A = Ticked} x) (λ f d q. refl) (λ f d. let z : ◌≡◌ {A = ℕ} 0 1 = cc in absurd (omega arith))) e refl

pub correct_refused : (x y : Scene) (i v : ℕ) (e : Refusal) → outcome (Err e) y ≡ corrects x i v → y ≡ x
correct_refused x y i v e q =
    subst (Keeps {A = Unit {0}} x) (sym q)
    (correct_cases x i v (Keeps {A = Unit {0}} x) (λ f d q. refl) (λ hi hv f d. let z : ◌≡◌ {A = ℕ} 0 1 = cc in absurd (omega arith))) e refl

pub rewind_refused : (x y : Scene) (xs : List ℕ) (e : Refusal) → outcome (Err e) y ≡ rewinds x xs → y ≡ x
rewind_refused x y xs e q =
    subst (Keeps {A = Unit {0}} x) (sym q)
    (rewind_cases x xs (Keeps {A = Unit {0}} x) (λ f d q. refl) (λ ok f d. let z : ◌≡◌ {A = ℕ} 0 1 = cc in absurd (omega arith))) e refl
