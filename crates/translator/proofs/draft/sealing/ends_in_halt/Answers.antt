use Rattle.std.proofs.Common.{rules}
use borrow.Author.Tests.{tests}
use Rattle.translator.proofs.Filing.{ends_told}
use Rattle.translator.proofs.draft.sealing.ends_in_halt.Goals as goal

pub returns : goal.returns
returns c = ends_told c.args.code.now c.last.result c.is_some_and.result _ c.last.ensures.value c.is_some_and.ensures (λ x k. search (rules, tests))
