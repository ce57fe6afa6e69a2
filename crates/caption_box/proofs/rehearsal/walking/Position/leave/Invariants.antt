use Rattle.caption_box.specs.Rests.{depth_of}
use Rattle.caption_box.proofs.Leaving.{Leaving}
use Rattle.caption_box.proofs.rehearsal.walking.Position.leave.Given as goal

abbrev pub invariant-loop-next : goal.invariant-loop-next
invariant-loop-next l = Leaving l.records l.initial.self l.self

abbrev pub decreases-loop-next : goal.decreases-loop-next
decreases-loop-next l = depth_of l.self
