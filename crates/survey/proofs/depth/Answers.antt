use Rattle.std.proofs.Common.{◌∙◌, ap, rules, length, arith}
use borrow.Author.Tests.{tests}
use Rattle.std.specs.List.{range_with_len}
use Rattle.std.specs.Option.{unwrap_or}
use Rattle.std.proofs.lemmas.Iterator.{YieldsList-from_range, YieldsList-from_map}
use Rattle.std.proofs.lemmas.Iterator.Consumers.{reduce_from_yields_List}
use Rattle.std.proofs.lemmas.List.Folds.{max_of_map}
use Rattle.survey.specs.Counts.{Deepest, blocks_around}
use Rattle.survey.proofs.Depths.{depth_of}
use Rattle.survey.proofs.Levels.{deepest_of}
use Rattle.survey.proofs.depth.Goals as goal

pub returns : goal.returns
returns c =
    let most : Deepest c.args.records.now c.unwrap_or.result =
    deepest_of _ _ (c.unwrap_or.ensures
    ∙ (ap (λ o. unwrap_or o 0) (reduce_from_yields_List _ _ _ c.max.ensures.ran (YieldsList-from_map _ (blocks_around c.args.records.now) (YieldsList-from_range 0 (length c.args.records.now) (length c.args.records.now) (cc) (omega arith)) c.map.ensures.closure (λ x r q k. search (rules, tests))))
    ∙ max_of_map (blocks_around c.args.records.now) (range_with_len 0 (length c.args.records.now))))
    in
    record { most = most; of_sheet = depth_of c.args.records.now c.unwrap_or.result most }
