use Rattle.std.proofs.Common.{◌≡◌, suc, List, option_copied, ◌∙◌, subst}
use Rattle.translator.specs.declared.types.Instruction.{Instruction}
use Rattle.translator.specs.JumpCode.{instruction_at}
use Rattle.translator.specs.Seals.{answer}
use Rattle.translator.proofs.Filing.{asked_at}
use Rattle.translator.proofs.draft.SealedCode.get.Goals as goal

pub returns : goal.returns
returns c =
    c.copied.ensures
    ∙ subst (λ (z : List Instruction). option_copied c.get.result ≡ answer (instruction_at z (suc c.args.index))) c.as_slice.ensures
    (asked_at c.as_slice.result.now c.args.index c.get.result c.get.ensures.lookup.3)
