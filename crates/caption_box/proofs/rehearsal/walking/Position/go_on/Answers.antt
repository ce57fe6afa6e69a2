use Rattle.std.proofs.Common.{arith}
use Rattle.caption_box.proofs.Leaving.{reach_loop, reach_body}
use Rattle.caption_box.proofs.rehearsal.walking.Position.go_on.Goals as goal

pub returns-in-Loop : goal.returns-in-Loop
returns-in-Loop c =
    reach_loop c.args.records.now c.args.self.now c.open.new.self c.args.kind c.args.found (λ e. omega arith) c.in-Loop.is c.open.ensures

pub returns-in-While : goal.returns-in-While
returns-in-While c =
    reach_body c.args.records.now c.args.self.now c.open-in-While.new.self c.args.kind c.args.found (λ e. omega arith) c.in-While.is c.open-in-While.ensures
