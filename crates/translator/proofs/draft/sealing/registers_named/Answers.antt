use Rattle.std.proofs.Common.{length}
use Rattle.translator.proofs.Filing.{wide_none, elem_get_or}
use Rattle.translator.specs.JumpCode.{halt}
use Rattle.translator.proofs.draft.sealing.registers_named.Goals as goal
use Rattle.std.proofs.Common.{get_or, suc}

pub loop-instruction-init : goal.loop-instruction-init
loop-instruction-init c = wide_none c.args.code.now

pub named_registers-requires : goal.named_registers-requires
named_registers-requires c =
    let i = c.loop-instruction.instruction-index in
    (length c.args.code.now, c.requires (suc i) (get_or c.args.code.now i halt) (elem_get_or c.args.code.now i halt c.loop-instruction-test.true))
