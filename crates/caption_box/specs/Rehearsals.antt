-- A rehearsal over the numbers of a store, as a scene; and what a start and a step of one come to.
use Rattle.std.specs.Prelude.{◌≡◌, ℕ, ◌⊎◌, List, length, Ok, Err}
use Rattle.reader.specs.declared.types.Refusal.{Refusal}
use Rattle.reader.specs.declared.types.Refusal.TheVariants.{NoSheet}
use Rattle.reader.specs.Sheet.{Sheet}
use Rattle.reader.specs.Checks.{IsSheet, span}
use Rattle.reader.specs.Steps.{many_done}
use Rattle.reader.specs.WrittenRun.{WrittenRun, running, written_step, written_steps}
use Rattle.stores.specs.declared.store.Store.{Ghosts}
use Rattle.caption_box.specs.declared.types.State.{State}
use Rattle.caption_box.specs.declared.types.Tally.{Tally}
use Rattle.caption_box.specs.declared.types.Ticked.{Ticked}
use Rattle.caption_box.specs.declared.rehearsal.Rehearsal.{Rehearsal}
use Rattle.caption_box.specs.declared.rehearsal.counting.WrittenTallies.{WrittenTallies}
use Rattle.caption_box.specs.Calls.{state_of, onward, seats}
use Rattle.caption_box.specs.Tallies.{tally}
use Rattle.caption_box.specs.Rests.{Recs, rest_of, Stands}
use Rattle.caption_box.specs.WrittenSteps.{written_counts, Counted}
use Rattle.caption_box.specs.WrittenCalls.{WrittenScene, written_scene, written_beginning}

-- the tally that is asked for; box steps are 0
abbrev pub written_tally : WrittenTallies → Tally → ℕ
written_tally t q = tally 0 (written_counts t) q

-- the records that a rehearsal borrows
abbrev pub records_of : Rehearsal → Recs
records_of s = s.records.now

-- the sheet of the records
abbrev pub whole_of : Recs → Sheet
whole_of rs = span rs 0 (length rs)

-- the written run that a rehearsal stands at, on a store's numbers
abbrev pub run_of : Rehearsal → List ℕ → WrittenRun
run_of s ν = running ν (rest_of (records_of s) s.position) (written_counts s.tallies)

-- a rehearsal on a store's numbers, under its top
abbrev pub written_scene_of : Rehearsal → List ℕ → ℕ → WrittenScene
written_scene_of s ν top = written_scene (whole_of (records_of s)) top (run_of s ν)

-- the same on a store, by what the stores of its type mean
abbrev pub written_scene_on : {S : Type 0} → Ghosts S → Rehearsal → S → WrittenScene
written_scene_on meaning s store = written_scene_of s (meaning.numbers store) (meaning.limit store)

-- what holds of every rehearsal, by the facts in its type (proofs/Told): the records are those of a sheet, the position stands in it, and the tallies are as bounded as the written steps
pub record Rehearsed (s : Rehearsal) : Type 0 where
  pub sheet : IsSheet (records_of s)
  pub stands : Stands (records_of s) s.position
  pub counted : Counted (written_counts s.tallies)

-- a start that is done: the records are those of a sheet, the whole of which is left
pub record WrittenStarted (rs : Recs) (top : ℕ) (ν xs : List ℕ) (s : Rehearsal) (x : WrittenScene) : Type 0 where
  pub rehearsed : Rehearsed s
  pub seated : seats 32 top ν xs ≡ Ok tt
  pub scene : (h : IsSheet rs) → x ≡ written_scene h.sheet top (written_beginning h.sheet xs ν)

-- a start that is refused: 9 first, then 31, 32, 22
pub record WrittenUnstarted (rs : Recs) (top : ℕ) (ν xs : List ℕ) (e : Refusal) (ν' : List ℕ) : Type 0 where
  pub refused : ((e ≡ NoSheet) × (IsSheet rs → ⊥)) ⊎ (IsSheet rs × (seats 32 top ν xs ≡ Err e))
  pub numbers : ν' ≡ ν

-- a step from s to s' that told the state o
pub record Stepped (top : ℕ) (s : Rehearsal) (ν : List ℕ) (o : State) (s' : Rehearsal) (ν' : List ℕ) : Type 0 where
  pub kept : Rehearsed s'
  pub state : o ≡ state_of (written_step top (run_of s ν))
  pub moved : run_of s' ν' ≡ onward (written_step top (run_of s ν)) (run_of s ν)

-- a run of k steps from s to s' that told t
pub record Gone (top k : ℕ) (s : Rehearsal) (ν : List ℕ) (t : Ticked) (s' : Rehearsal) (ν' : List ℕ) : Type 0 where
  pub kept : Rehearsed s'
  pub moved : run_of s' ν' ≡ written_steps top k (run_of s ν)
  pub steps : t.steps ≡ many_done (written_step top) k (run_of s ν)
  pub state : t.state ≡ state_of (written_step top (written_steps top k (run_of s ν)))
