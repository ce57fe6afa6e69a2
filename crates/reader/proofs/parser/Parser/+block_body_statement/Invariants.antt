use Rattle.std.proofs.Common.{◌+◌, ◌-◌, ◌*◌, List, length}
use Rattle.reader.specs.Symbols.{PlacedSymbol}
use Rattle.reader.specs.Lexing.{Between}
use Rattle.reader.specs.Parsing.{text_of, pos_of, memory_of, Kept}
use Rattle.reader.proofs.Parsing.{Joined}
use Rattle.reader.proofs.parser.Parser.+block_body_statement.Given as goal

abbrev pub decreases-body : goal.decreases-body
decreases-body l = 3 * (8 - l.level.depth) + 2

abbrev pub decreases-statement : goal.decreases-statement
decreases-statement l = 3 * (8 - l.level.depth) + 1

abbrev pub decreases-block : goal.decreases-block
decreases-block l = 3 * (8 - l.level.depth)

abbrev pub invariant-body-loop-self : goal.invariant-body-loop-self
invariant-body-loop-self l =
    (us : List PlacedSymbol) × Between (text_of l.initial.self) (pos_of l.initial.self) (pos_of l.self) us
    × Joined (length (text_of l.initial.self)) l.level.depth l.initial.self.counts.statements l.initial.self.counts.loops (memory_of l.initial.self) us l.self.counts.statements l.self.counts.loops (memory_of l.self)
    × Kept l.initial.self l.self

abbrev pub decreases-body-loop-self : goal.decreases-body-loop-self
decreases-body-loop-self l = 256 - l.self.counts.statements
