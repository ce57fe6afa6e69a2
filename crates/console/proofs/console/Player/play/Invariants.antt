use Rattle.std.proofs.Common.{◌≤◌, length}
use Rattle.console.proofs.console.Player.play.Given as goal

abbrev pub invariant-loop-bytes : goal.invariant-loop-bytes
invariant-loop-bytes g l = length l.self.script.rest.now ≤ length l.initial.self.script.rest.now

abbrev pub decreases-loop-bytes : goal.decreases-loop-bytes
decreases-loop-bytes g l = length l.self.script.rest.now
