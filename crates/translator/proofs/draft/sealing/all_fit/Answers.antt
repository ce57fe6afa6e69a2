use Rattle.std.proofs.Common.{length, rules}
use borrow.Author.Tests.{tests}
use Rattle.std.proofs.lemmas.Iterator.{YieldsList-from_slice}
use Rattle.std.proofs.lemmas.Iterator.Search.{all_from_yields_List}
use Rattle.translator.specs.declared.types.Instruction.{Instruction}
use Rattle.translator.specs.JumpCode.{fits}
use Rattle.translator.proofs.Filing.{fit_told}
use Rattle.translator.proofs.draft.sealing.all_fit.Goals as goal

pub returns : goal.returns
returns c =
    fit_told c.args.code.now c.all.result
    (all_from_yields_List (λ (x : Instruction). fits 64 (length c.args.code.now) x.operation) _ _ _ c.all.ensures.ran (YieldsList-from_slice c.args.code.now cc) (λ x b q k. search (rules, tests)))
