use Rattle.std.proofs.Common.{ℕ, List, sym, ap, subst}
use Rattle.std.specs.Fmt.{WritesOnOk}
use Rattle.shown.specs.Text.{operation_text}
use Rattle.shown.proofs.line.ShownDisplay.fmt.Goals as goal

pub returns-in-If-clause-writes : goal.returns-in-If-clause-writes
returns-in-If-clause-writes g c =
    subst (λ (bs : List ℕ). WritesOnOk g.W.Write.write_str_gives c.args.f.now c.write-in-If.result bs c.write-in-If.new.self)
    (sym (ap operation_text c.in-If.is)) c.write-in-If.ensures.writes
