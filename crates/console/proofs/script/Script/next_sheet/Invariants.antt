use Rattle.std.proofs.Common.{◌≤◌, length}
use Rattle.console.proofs.script.Script.next_sheet.Given as goal

abbrev pub invariant-loop-line : goal.invariant-loop-line
invariant-loop-line l = (l.length ≤ length l.text) × (length l.self.rest.now ≤ length l.text)

abbrev pub decreases-loop-line : goal.decreases-loop-line
decreases-loop-line l = length l.self.rest.now
