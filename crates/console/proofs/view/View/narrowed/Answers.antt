use Rattle.std.proofs.Common.{min, ap, ◌∙◌}
use Rattle.console.proofs.Composing.{composed}
use Rattle.console.proofs.view.View.narrowed.Goals as goal

pub returns : goal.returns
returns c =
    composed c.args.self.base c.args.self.length c.args.upper.base c.args.upper.length c.saturating_add.result c.min.result
    c.saturating_add.ensures (c.min.ensures ∙ ap (min c.args.upper.length) c.saturating_sub.ensures)
