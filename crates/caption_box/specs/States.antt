-- The word of each state.
use Rattle.std.specs.Prelude.{ℕ, List, codes}
use Rattle.caption_box.specs.declared.types.State.{State}
use Rattle.caption_box.specs.declared.types.State.TheVariants.{Ended, Unfit, Over, Time}

abbrev pub state_word : State → List ℕ
state_word Ended = codes "ended"
state_word Unfit = codes "unfit"
state_word Over = codes "over"
state_word Time = codes "time"
