use Rattle.std.proofs.Common.{◌+◌, ◌-◌, ◌*◌}
use Rattle.reader.specs.Checks.{Body}
use Rattle.reader.proofs.check.+is_body_is_statement.Given as goal

-- Each call goes one level deeper, and there are eight.
abbrev pub decreases-is_body : goal.decreases-is_body
decreases-is_body l = 2 * (8 - l.level.depth) + 1

abbrev pub decreases-is_statement : goal.decreases-is_statement
decreases-is_statement l = 2 * (8 - l.level.depth)

-- The whole is a body exactly where what is left of it is one.
abbrev pub invariant-is_body-loop-index : goal.invariant-is_body-loop-index
invariant-is_body-loop-index l =
    (Body l.records l.index l.to l.level.depth → Body l.records l.from l.to l.level.depth)
    × (Body l.records l.from l.to l.level.depth → Body l.records l.index l.to l.level.depth)

abbrev pub decreases-is_body-loop-index : goal.decreases-is_body-loop-index
decreases-is_body-loop-index l = l.to - l.index
