use Rattle.std.proofs.Common.{subst}
use Rattle.translator.specs.declared.types.Instruction.{Instruction}
use Rattle.std.proofs.Common.{List}
use Rattle.reader.specs.declared.types.Refusal.TheVariants.{JumpOpen, BadDraft}
use Rattle.translator.specs.Seals.{SealRefuses, jump_open, bad_draft}
use Rattle.translator.proofs.draft.Draft.fault.Goals as goal
use Rattle.translator.proofs.draft.Draft.fault.Goals.{else-ends_in_halt-via-then-ends_in_halt+else-all_fit, else-ends_in_halt-via-else-ends_in_halt}

pub returns-then-some_open : goal.returns-then-some_open
returns-then-some_open c = subst (λ (x : List Instruction). SealRefuses x JumpOpen) c.as_slice-code.ensures (jump_open c.if-some_open.ensures)

pub returns-else-ends_in_halt : goal.returns-else-ends_in_halt
returns-else-ends_in_halt c =
    subst (λ (x : List Instruction). SealRefuses x BadDraft) c.as_slice-code.ensures
    (bad_draft c.if-some_open.ensures (λ s. elim c.else-ends_in_halt.branch [
      | else-ends_in_halt-via-then-ends_in_halt+else-all_fit w ↦ w.if-all_fit.ensures s.fits
      | else-ends_in_halt-via-else-ends_in_halt w ↦ w.if-ends_in_halt.ensures s.last
    ]))
