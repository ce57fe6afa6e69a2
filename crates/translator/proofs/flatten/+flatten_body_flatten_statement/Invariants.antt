use Rattle.std.proofs.Common.{◌≡◌, ℕ, ◌+◌, ◌-◌, ◌*◌, ◌≤◌, List, length}
use Rattle.reader.specs.Sheet.{Sheet}
use Rattle.filing.specs.Tables.{memory, lent}
use Rattle.translator.specs.Flattening.{RecordSpan, StatementFlat}
use Rattle.translator.proofs.FlatFiled.{end_at}
use Rattle.translator.proofs.flatten.+flatten_body_flatten_statement.Given as goal

abbrev pub decreases-flatten_body : goal.decreases-flatten_body
decreases-flatten_body l = 2 * (l.to - l.from) + 1

abbrev pub decreases-flatten_statement : goal.decreases-flatten_statement
decreases-flatten_statement l = 2 * (end_at l.records.now l.at - l.at)

abbrev pub invariant-flatten_body-loop-at : goal.invariant-flatten_body-loop-at
invariant-flatten_body-loop-at l =
    (l.initial.at ≤ l.at)
    × ((p : Sheet) (xs : List ℕ)
    → RecordSpan l.records l.from l.to p xs → StatementFlat l.records l.to p xs l.initial.counter l.initial.flats l.at l.counter l.flats)
    × (length (memory l.flats) ≡ length (memory l.initial.flats))
    × (lent l.flats ≡ lent l.initial.flats)

abbrev pub decreases-flatten_body-loop-at : goal.decreases-flatten_body-loop-at
decreases-flatten_body-loop-at l = l.to - l.at
