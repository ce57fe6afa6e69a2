use Rattle.std.proofs.Common.{rules, ◌∙◌}
use borrow.Author.Tests.{tests}
use Rattle.std.proofs.lemmas.Iterator.{YieldsList-from_slice}
use Rattle.std.proofs.lemmas.Iterator.Consumers.{count_from_yields_List, YieldsList-from_filter, YieldsList-from_enumerate, YieldsList-at}
use Rattle.survey.proofs.Levels.{open_around, length-filter_open}
use Rattle.survey.proofs.levels_around.Goals as goal

pub returns : goal.returns
returns c =
    count_from_yields_List _ _ c.count.ensures.ran (
    YieldsList-from_filter _ (open_around c.args.index) (
    YieldsList-at c.filter.ensures.source (YieldsList-from_enumerate (YieldsList-at c.enumerate.ensures.source (YieldsList-from_slice c.args.records.now cc)) c.enumerate.ensures.count))
    c.filter.ensures.closure (λ x r q k. search (rules, tests)))
    ∙ length-filter_open 0 c.args.records.now c.args.index
