-- A call carries the history and the claim on.
use Rattle.std.proofs.Common.{◌≡◌, ℕ, Bool, true, false, cond, ltb, List, length, get_or, take, IfOk, Ok, Err, Result, sym, refl, ap, ◌∙◌, subst, arith}
use Rattle.std.proofs.lemmas.List.{get_or-take}
use Rattle.reader.specs.declared.types.Refusal.{Refusal}
use Rattle.reader.specs.declared.types.Refusal.TheVariants.{SmallStore, NoRegister}
use Rattle.stores.specs.Stores.{read_of}
use Rattle.reader.specs.declared.types.Placed.{Placed}
use Rattle.reader.specs.declared.types.Statement.{Statement}
use Rattle.reader.specs.Sheet.{Sheet}
use Rattle.translator.specs.declared.draft.SealedCode.{SealedCode}
use Rattle.translator.specs.declared.types.Flat.{Flat}
use Rattle.translator.specs.Loading.{Loaded}
use Rattle.translator.proofs.Following.{spelled_playable}
use Rattle.caption_box.specs.declared.types.Question.TheVariants.{Register}
use Rattle.caption_box.specs.Shows.{code_setting}
use Rattle.translator.specs.Following.{Low, over}
use Rattle.caption_box.specs.declared.types.Ticked.{Ticked}
use Rattle.caption_box.specs.declared.types.Question.{Question}
use Rattle.caption_box.specs.Calls.{Setting, setting, Scene, scene, Outcome, outcome, ticks, rewinds, corrects, asks, Started}
use Rattle.caption_box.specs.History.{Call, tick_call, correct_call, rewind_call, ask_call, History, started, refused, add_tick, add_correct, add_rewind, add_ask, Plays, Past, on_start, on_tick, on_correct, on_rewind, on_ask, on_refusal}
use Rattle.caption_box.specs.Claim.{Follows, Carries, LineFollows}
use Rattle.caption_box.specs.GotoRuns.{GotoTick}
use Rattle.caption_box.proofs.GotoRuns.{tick_runs}
use Rattle.caption_box.proofs.Cases.{tick_cases, tick_refused, correct_refused, rewind_refused}
use Rattle.caption_box.proofs.Holds.{follows}

-- a refused call
pub same_follows : (p : Sheet) (x y : Scene) (c : Call) (e : Refusal) (h : History) → y ≡ x → Past p h x → Follows p (refused c e h) y
same_follows p x y c e h q past = subst (λ (z : Scene). Follows p (refused c e h) z) (sym q) (follows p (refused c e h) x (on_refusal c e h x past))

-- the show of a scene on other numbers under another top
abbrev elsewhere : Scene → List ℕ → ℕ → Scene
elsewhere x ν top = scene (setting x.setting.code x.setting.need top) (over x.box ν)

-- a call that changed nothing on one store was refused on another
aside : (p : Sheet) (x y : Scene) (c : Call) (h : History) (f : Refusal) (ν : List ℕ) (top : ℕ) → y ≡ x
    → Past p h (elsewhere x ν top) → Follows p (refused c f h) (elsewhere y ν top)
aside p x y c h f ν top e past = same_follows p (elsewhere x ν top) (elsewhere y ν top) c f h (ap (λ (z : Scene). elsewhere z ν top) e) past

pub tick_carries : (x y : Scene) (k : ℕ) (r : Result Ticked Refusal) → outcome r y ≡ ticks x k → Carries x (add_tick k r y.box.counts.written) y
tick_carries x y k (Ok t) e p h past = follows p _ y (on_tick k t h x y past e)
tick_carries x y k (Err f) e p h past = same_follows p x y (tick_call k) f h (tick_refused x y k f e) past

pub tick_aside : (x y : Scene) (k : ℕ) (r : Result Ticked Refusal) → outcome r y ≡ ticks x k → (p : Sheet) (h : History) (f : Refusal) (ν : List ℕ) (top : ℕ)
    → r ≡ Err f → Past p h (elsewhere x ν top) → Follows p (refused (tick_call k) f h) (elsewhere y ν top)
tick_aside x y k r e p h f ν top er past = aside p x y (tick_call k) h f ν top (tick_refused x y k f (ap (λ (q : Result Ticked Refusal). outcome q y) (sym er) ∙ e)) past

pub correct_carries : (x y : Scene) (i v : ℕ) (r : Result (Unit {0}) Refusal) → outcome r y ≡ corrects x i v → Carries x (add_correct i v r) y
correct_carries x y i v (Ok u) e p h past = follows p _ y (on_correct i v h x y past e)
correct_carries x y i v (Err f) e p h past = same_follows p x y (correct_call i v) f h (correct_refused x y i v f e) past

pub correct_aside : (x y : Scene) (i v : ℕ) (r : Result (Unit {0}) Refusal) → outcome r y ≡ corrects x i v → (p : Sheet) (h : History) (f : Refusal) (ν : List ℕ) (top : ℕ)
    → r ≡ Err f → Past p h (elsewhere x ν top) → Follows p (refused (correct_call i v) f h) (elsewhere y ν top)
correct_aside x y i v r e p h f ν top er past =
    aside p x y (correct_call i v) h f ν top (correct_refused x y i v f (ap (λ (q : Result (Unit {0}) Refusal). outcome q y) (sym er) ∙ e)) past

pub rewind_carries : (x y : Scene) (xs : List ℕ) (r : Result (Unit {0}) Refusal) → outcome r y ≡ rewinds x xs → Carries x (add_rewind xs r) y
rewind_carries x y xs (Ok u) e p h past = follows p _ y (on_rewind xs h x y past e)
rewind_carries x y xs (Err f) e p h past = same_follows p x y (rewind_call xs) f h (rewind_refused x y xs f e) past

pub rewind_aside : (x y : Scene) (xs : List ℕ) (r : Result (Unit {0}) Refusal) → outcome r y ≡ rewinds x xs → (p : Sheet) (h : History) (f : Refusal) (ν : List ℕ) (top : ℕ)
    → r ≡ Err f → Past p h (elsewhere x ν top) → Follows p (refused (rewind_call xs) f h) (elsewhere y ν top)
rewind_aside x y xs r e p h f ν top er past =
    aside p x y (rewind_call xs) h f ν top (rewind_refused x y xs f (ap (λ (q : Result (Unit {0}) Refusal). outcome q y) (sym er) ∙ e)) past

pub ask_carries : (x : Scene) (q : Question) (r : Result ℕ Refusal) → r ≡ asks x q → Carries x (add_ask q r) x
ask_carries x q (Ok v) e p h past = follows p _ x (on_ask q v h x past e)
ask_carries x q (Err f) e p h past = same_follows p x x (ask_call q) f h refl past

pub start_follows : (p : Sheet) (g : Setting) (xs ν : List ℕ) (x : Scene) → Plays p g → Low g.top ν → Started g ν xs x → Follows p (started xs) x
start_follows p g xs ν x pl low d = follows p _ x (on_start g xs ν x pl low d.done d.scene)

-- code that load gave is that of the sheet that the text spells
pub loaded_plays : {text : List ℕ} {n f c : ℕ} {rs : List (Placed Statement)} {fs : List (Placed Flat)} {s : SealedCode} (top : ℕ) (l : Loaded text n f c rs fs s)
    → Plays l.sheet (code_setting s top)
loaded_plays top l =
    record {
      playable = spelled_playable _ l.sheet l.spelled.sheeted.spells l.spelled.sheeted.within;
      code = l.code;
      need = l.registers;
    }

-- x0 is that of the first 32 registers
line_told : (ν ρ : List ℕ) → take 32 ν ≡ ρ → (short : Bool) (r : Result ℕ Refusal)
    → r ≡ cond short (Err SmallStore) (read_of ν 0) → IfOk r (λ v. v ≡ get_or ρ 0 0)
line_told ν ρ e short (Err f) q = tt
line_told ν ρ e true (Ok v) q = let z : ◌≡◌ {A = ℕ} 0 1 = cc in absurd (omega arith)
line_told ν ρ e false (Ok v) q = told (ltb 0 (length ν)) q ∙ sym (get_or-take 32 ν 0 0 (omega arith)) ∙ ap (λ (l : List ℕ). get_or l 0 0) e
  where
    told : (b : Bool) → ◌≡◌ {A = Result ℕ Refusal} (Ok v) (cond b (Ok (get_or ν 0 0)) (Err NoRegister)) → v ≡ get_or ν 0 0
    told true q = cc
    told false q = let z : ◌≡◌ {A = ℕ} 0 1 = cc in absurd (omega arith)

pub line_follows : (x : Scene) (r : Result ℕ Refusal) → r ≡ asks x (Register 0) → LineFollows x r
line_follows x r e p h past =
    let f = follows p h x past in
    (f, line_told x.box.registers _ f.agrees.registers (ltb (length x.box.registers) x.setting.need) r e)

pub tick_published : (x y : Scene) (k : ℕ) (r : Result Ticked Refusal) → outcome r y ≡ ticks x k
    → IfOk r (λ t. GotoTick x.setting k x.box t y.box)
tick_published x y k r e = subst Fine (sym e) (tick_cases x k Fine (λ f. tt) (tick_runs x.setting k x.box))
  where
    Fine : Outcome Ticked → Type 0
    Fine o = IfOk o.answer (λ t. GotoTick x.setting k x.box t o.after.box)
