-- A show over the numbers of a store, as a scene.
use Rattle.std.specs.Prelude.{ℕ, suc, List}
use Rattle.translator.specs.declared.draft.SealedCode.{SealedCode}
use Rattle.translator.specs.JumpCode.{Box}
use Rattle.translator.specs.Seals.{sealed_code, sealed_width}
use Rattle.stores.specs.declared.store.Store.{Ghosts}
use Rattle.caption_box.specs.declared.show.Show.{Show}
use Rattle.caption_box.specs.Tallies.{counts_of}
use Rattle.caption_box.specs.Calls.{Setting, setting, Scene, scene}

-- sealed code under a top
abbrev pub code_setting : SealedCode → ℕ → Setting
code_setting s top = setting (sealed_code s) (sealed_width s) top

abbrev pub setting_of : Show → ℕ → Setting
setting_of s top = code_setting s.sealed top

abbrev pub box_of : Show → List ℕ → Box
box_of s ns = record { label = suc s.next; registers = ns; steps = s.tallies.steps; counts = counts_of s.tallies }

-- a show on a store's numbers, under its top
abbrev pub scene_of : Show → List ℕ → ℕ → Scene
scene_of s ns top = scene (setting_of s top) (box_of s ns)

-- the same on a store, by what the stores of its type mean
module _ {S : Type 0} (meaning : Ghosts S) (s : Show) (store : S) where
  abbrev pub setting_on : Setting
  setting_on = setting_of s (meaning.limit store)

  abbrev pub box_on : Box
  box_on = box_of s (meaning.numbers store)

  abbrev pub scene_on : Scene
  scene_on = scene_of s (meaning.numbers store) (meaning.limit store)
