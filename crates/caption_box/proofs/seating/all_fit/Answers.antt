use Rattle.std.proofs.Common.{◌≤◌, ◌↔◌, IsTrue, arith}
use Rattle.std.specs.List.{All}
use Rattle.std.proofs.lemmas.Grind.{common_steps}
use Rattle.caption_box.proofs.Seats.{below_told}
use Rattle.caption_box.proofs.seating.all_fit.Goals as goal

pub returns : goal.returns
returns c =
    let told : IsTrue c.all.result ↔ All (λ v. v ≤ c.args.top) c.args.inputs.now = grind (arith, common_steps) in
    below_told c.args.top c.args.inputs.now c.all.result told.0 told.1
