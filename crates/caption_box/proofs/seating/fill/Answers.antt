use Rattle.std.proofs.Common.{◌≤◌, ◌∙◌, arith}
use Rattle.caption_box.specs.Seats.{input_at}
use Rattle.caption_box.proofs.Seats.{filled_more, input_low}
use Rattle.caption_box.proofs.seating.fill.Goals as goal

pub loop-i-preserved : goal.loop-i-preserved
loop-i-preserved g c = (
  filled_more c.args.n c.args.inputs.now (g.S.Store.numbers c.args.store.now) c.loop-i.i
      (g.S.Store.numbers c.loop-i.store) (g.S.Store.numbers c.put.new.store) c.input.result
      c.requires.room c.loop-i-test.true c.loop-i.invariant.0 c.input.ensures c.put.ensures.1,
  c.put.ensures.0 ∙ c.loop-i.invariant.1,
)

pub put-requires : goal.put-requires
put-requires g c =
    let low : input_at c.args.inputs.now c.loop-i.i ≤ g.S.Store.limit c.args.store.now = input_low _ _ c.loop-i.i c.requires.fit in
    let same = c.loop-i.invariant.1 in
    omega (arith, low, same, c.input.ensures)
