use Rattle.translator.proofs.Filing.{Widened}
use Rattle.translator.proofs.draft.sealing.registers_named.Given as goal

-- what is left and the registers so far make the width
abbrev pub invariant-loop-instruction : goal.invariant-loop-instruction
invariant-loop-instruction l = Widened l.code l.instruction-index l.registers
