use Rattle.std.proofs.Common.{suc, ◌^◌, ◌<◌, sym, ◌∙◌, rules, arith}
use Rattle.translator.specs.JumpCode.{instruction_at}
use Rattle.translator.specs.Seals.{sealed_code}
use Rattle.caption_box.proofs.Steps.{found_some, inside_code}
use Rattle.caption_box.proofs.show.Show.step.Goals as goal

pub perform-moved-requires-clause-room : goal.perform-moved-requires-clause-room
perform-moved-requires-clause-room g c =
    let code = sealed_code c.args.self.now.sealed in
    let e = found_some (instruction_at code (suc c.args.self.now.next)) c.in-Some.instruction (sym c.in-Some.is ∙ c.get.ensures) in
    let size : c.len.result < 2 ^ 64 = search rules in
    omega (arith, inside_code code c.args.self.now.next c.in-Some.instruction e, c.len.ensures, size)

pub perform-moved-requires-clause-time : goal.perform-moved-requires-clause-time
perform-moved-requires-clause-time g c = (c.registers.result, c.len.result, search rules)
