use Rattle.caption_box.proofs.WrittenSteps.{looked}
use Rattle.caption_box.proofs.rehearsal.Rehearsal.look.Goals as goal

pub returns : goal.returns
returns g c =
    looked c.args.self.now (g.S.Store.limit c.args.store.now) (g.S.Store.numbers c.args.store.now) c.record_at.result c.fate.result
    c.record_at.ensures c.fate.ensures
