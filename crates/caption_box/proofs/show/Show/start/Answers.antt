use Rattle.std.proofs.Common.{rules}
use Rattle.caption_box.specs.Calls.{Started}
use Rattle.caption_box.specs.Shows.{code_setting, scene_of}
use Rattle.caption_box.proofs.Carried.{start_follows, loaded_plays}
use Rattle.caption_box.proofs.show.Show.start.Goals as goal

pub returns-in-Ok-clause-follows : goal.returns-in-Ok-clause-follows
returns-in-Ok-clause-follows g c =
    let here = code_setting c.args.sealed (g.S.Store.limit c.args.store.now) in
    let there = scene_of (record { sealed = c.args.sealed; next = 0; tallies = c.default.result }) (g.S.Store.numbers c.seat.new.store) (g.S.Store.limit c.seat.new.store) in
    let d : Started here (g.S.Store.numbers c.args.store.now) c.args.inputs.now there = search rules in
    λ p plays. start_follows p here c.args.inputs.now (g.S.Store.numbers c.args.store.now) _ plays c.seat.ensures.sound.1 d

pub returns-in-Ok-clause-loaded : goal.returns-in-Ok-clause-loaded
returns-in-Ok-clause-loaded g c text n f k rs fs l =
    returns-in-Ok-clause-follows g c l.sheet (loaded_plays (g.S.Store.limit c.args.store.now) l)
