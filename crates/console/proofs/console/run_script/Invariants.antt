use Rattle.std.proofs.Common.{◌+◌, cond, length, is_some}
use Rattle.console.proofs.console.run_script.Given as goal

-- what is left of the script, and the line that is still to be answered
abbrev pub decreases-loop-next : goal.decreases-loop-next
decreases-loop-next g l = length l.player.script.rest.now + cond (is_some l.next) 1 0
