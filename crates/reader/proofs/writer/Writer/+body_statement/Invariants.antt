use Rattle.std.proofs.Common.{◌≡◌, ◌+◌, ◌-◌, ◌*◌, ◌<◌, ◌≤◌}
use Rattle.reader.specs.Checks.{Body, span}
use Rattle.reader.specs.Pages.{on_page, put_symbols, end_of}
use Rattle.reader.proofs.Statements.{rest_of}
use Rattle.reader.proofs.writer.Writer.+body_statement.Given as goal

-- A body has fewer records than the statement that it belongs to.
abbrev pub decreases-body : goal.decreases-body
decreases-body l = 2 * (l.to - l.from) + 1

abbrev pub decreases-statement : goal.decreases-statement
decreases-statement l = 2 * (l.to - l.index)

-- What is left to put on this page makes of it what was left at first made of the page then.
abbrev pub invariant-body-loop-next : goal.invariant-body-loop-next
invariant-body-loop-next l =
    (l.from ≤ l.index) × (l.index < l.to) × (end_of l.records l.from ≤ end_of l.records l.index) × (end_of l.records l.index ≤ l.to)
    × Body l.records (end_of l.records l.index) l.to 0
    × (put_symbols (rest_of (span l.records (end_of l.records l.index) l.to)) (on_page l.self) ≡ put_symbols (rest_of (span l.records (end_of l.records l.from) l.to)) (on_page l.initial.self))
    × (l.self.written + 154 * end_of l.records l.from ≤ l.initial.self.written + 154 * end_of l.records l.index) × (l.index < end_of l.records l.index)

abbrev pub decreases-body-loop-next : goal.decreases-body-loop-next
decreases-body-loop-next l = l.to - l.index
