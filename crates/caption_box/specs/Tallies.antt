-- The tallies of a show as the counts of the written run, and what a step adds to them.
use Rattle.std.specs.Prelude.{ℕ, max, Bool, cond}
use Rattle.reader.specs.WrittenRun.{Counts}
use Rattle.translator.specs.declared.types.Role.{Role}
use Rattle.translator.specs.JumpCode.{tallied, found}
use Rattle.caption_box.specs.declared.tallies.Tallies.{Tallies}
use Rattle.caption_box.specs.declared.types.Tally.{Tally}
use Rattle.caption_box.specs.declared.types.Tally.TheVariants.{BoxSteps, WrittenSteps, LoopsEntered, LoopRounds, WhileRounds}

abbrev pub counts_of : Tallies → Counts
counts_of t = record { written = t.written; entered = t.entered; rounds = t.rounds; whiles = t.whiles }

-- after a step of a role; b says that it is a test that found another number than 0
abbrev pub counted : Role → Bool → Counts → Counts
counted r b n = cond b (found r (tallied r n)) (tallied r n)

-- the largest of box steps and counts
abbrev pub largest : ℕ → Counts → ℕ
largest steps n = max steps (max (max n.written n.entered) (max n.rounds n.whiles))

abbrev pub largest_of : Tallies → ℕ
largest_of t = largest t.steps (counts_of t)

-- the tally that is asked for
abbrev pub tally : ℕ → Counts → Tally → ℕ
tally steps n BoxSteps = steps
tally steps n WrittenSteps = n.written
tally steps n LoopsEntered = n.entered
tally steps n LoopRounds = n.rounds
tally steps n WhileRounds = n.whiles

abbrev pub tally_of : Tallies → Tally → ℕ
tally_of t q = tally t.steps (counts_of t) q
