use Rattle.std.proofs.Common.{◌≡◌, ◌+◌, ◌-◌, ◌*◌, ◌≤◌, length}
use Rattle.translator.specs.Drafts.{draft_memory, draft_lent}
use Rattle.translator.specs.Translation.{FlatSheet}
use Rattle.translator.specs.Laying.{FlatSpan, StatementLaid}
use Rattle.translator.proofs.CodeLaid.{end_at}
use Rattle.translator.proofs.lay.+lay_flats_lay_round_lay_statement.Given as goal

abbrev pub decreases-lay_flats : goal.decreases-lay_flats
decreases-lay_flats l = 3 * (l.to - l.from) + 1

abbrev pub decreases-lay_round : goal.decreases-lay_round
decreases-lay_round l = 3 * (l.to - l.from) + 2

abbrev pub decreases-lay_statement : goal.decreases-lay_statement
decreases-lay_statement l = 3 * (end_at l.flats.now l.at - l.at)

abbrev pub invariant-lay_flats-loop-at : goal.invariant-lay_flats-loop-at
invariant-lay_flats-loop-at l =
    (l.initial.at ≤ l.at)
    × ((f : FlatSheet) → FlatSpan l.flats l.from l.to f → StatementLaid l.flats l.to f l.initial.draft l.at l.draft)
    × (length (draft_memory l.draft) ≡ length (draft_memory l.initial.draft))
    × (draft_lent l.draft ≡ draft_lent l.initial.draft)

abbrev pub decreases-lay_flats-loop-at : goal.decreases-lay_flats-loop-at
decreases-lay_flats-loop-at l = l.to - l.at
