use Rattle.std.proofs.Common.{◌≡◌, rules, arith}
use Rattle.std.proofs.lemmas.Grind.{common_steps}
use Rattle.reader.specs.declared.types.Kind.TheVariants.{While}
use Rattle.caption_box.specs.Rests.{levels_of, depth_of}
use Rattle.caption_box.proofs.Leaving.{reach_next, reach_end, reach_while, reach_round, leaving_more}
use Rattle.caption_box.proofs.rehearsal.walking.Position.leave.Goals as goal

pub returns-in-Some : goal.returns-in-Some
returns-in-Some c =
    reach_next c.args.records.now c.args.self.now c.loop-next.self c.loop-next.invariant c.body_end-end.result c.next_sibling.result
    c.body_end-end.ensures c.next_sibling.ensures.answer c.in-Some.next c.in-Some.is

pub returns-in_default-pop : goal.returns-in_default-pop
returns-in_default-pop c =
    let same : c.pop.new.self.items ≡ levels_of c.loop-next.self = grind (arith, common_steps) in
    let none : depth_of c.loop-next.self ≡ 0 = grind (arith, common_steps) in
    reach_end c.args.records.now c.args.self.now c.loop-next.self c.loop-next.invariant c.body_end-end.result c.next_sibling.result
    c.body_end-end.ensures c.next_sibling.ensures.answer c.in_default.is c.pop.new.self.items same none

pub returns-then-eq : goal.returns-then-eq
returns-then-eq c =
    let kind : c.record_at.result.kind ≡ While = search rules in
    reach_while c.args.records.now c.args.self.now c.loop-next.self c.loop-next.invariant c.body_end-end.result c.next_sibling.result
    c.body_end-end.ensures c.next_sibling.ensures.answer c.in_default.is c.pop.new.self.items c.in-Some-pop.level c.record_at.result
    c.in-Some-pop.ensures.items c.record_at.ensures kind

pub returns-then-level-gt0 : goal.returns-then-level-gt0
returns-then-level-gt0 c =
    let other : (c.record_at.result.kind ≡ While → ⊥) = λ e. search rules in
    reach_round c.args.records.now c.args.self.now c.loop-next.self c.loop-next.invariant c.body_end-end.result c.next_sibling.result
    c.body_end-end.ensures c.next_sibling.ensures.answer c.in_default.is c.pop.new.self.items c.in-Some-pop.level c.record_at.result
    c.in-Some-pop.ensures.items c.record_at.ensures other c.if-level-gt0.true c.open.new.self c.open.ensures

pub loop-next-preserved : goal.loop-next-preserved
loop-next-preserved c =
    let other : (c.record_at.result.kind ≡ While → ⊥) = λ e. search rules in
    leaving_more c.args.records.now c.args.self.now c.loop-next.self c.loop-next.invariant c.body_end-end.result c.next_sibling.result
    c.body_end-end.ensures c.next_sibling.ensures.answer c.in_default.is c.pop.new.self.items c.in-Some-pop.level c.record_at.result
    c.in-Some-pop.ensures.items c.record_at.ensures other c.if-level-gt0.false
