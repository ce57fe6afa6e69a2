use Rattle.std.proofs.Common.{◌<◌, ◌≤◌, sym, refl, ◌∙◌, arith, rules}
use Rattle.reader.specs.Pages.{on_page, end_of}
use Rattle.reader.proofs.Statements.{first_of, turn, put_turn, put_first, put_last, sibling-none, put_loop, put_while}
use Rattle.reader.proofs.Checking.{body_within}
use Rattle.reader.proofs.writer.Writer.+body_statement.Goals as goal

pub body-statement-requires : goal.body-statement-requires
body-statement-requires t c =
    let f = first_of c.args.records.now c.args.from c.args.to c.requires.order c.requires.sound in
    (search rules, (f.statement, omega (arith, f.forward, f.nested, c.requires.room)))

pub body-loop-next-init : goal.body-loop-next-init
body-loop-next-init t c =
    let f = first_of c.args.records.now c.args.from c.args.to c.requires.order c.requires.sound in
    (omega arith, c.requires.order, omega arith, f.nested, f.rest, refl, omega arith, f.forward)

pub body-tokens-requires : goal.body-tokens-requires
body-tokens-requires t c =
    let f = first_of c.args.records.now c.args.from c.args.to c.requires.order c.requires.sound in
    omega (arith, f.forward, c.requires.room, c.statement.ensures.short, c.loop-next.invariant.2, c.loop-next.invariant.3, c.loop-next.invariant.6)

pub body-statement-requires-in-Some : goal.body-statement-requires-in-Some
body-statement-requires-in-Some t c =
    let f = first_of c.args.records.now c.args.from c.args.to c.requires.order c.requires.sound in
    let n = turn c.args.records.now c.loop-next.index c.args.to c.in-Some.next c.in-Some.ensures.answer c.loop-next.invariant.4 in
    let lt : c.args.from < c.in-Some.next = omega (arith, c.loop-next.invariant.0, c.loop-next.invariant.7, n.is) in
    let le : c.in-Some.next < c.args.to = n.before in (
      search rules,
      (
        n.first.statement,
        omega (arith, f.forward, c.requires.room, c.statement.ensures.short, c.loop-next.invariant.2, c.loop-next.invariant.3, c.loop-next.invariant.6, c.tokens.ensures.short, n.is, n.first.forward, n.first.nested),
      ),
    )

pub body-loop-next-preserved : goal.body-loop-next-preserved
body-loop-next-preserved t c =
    let n = turn c.args.records.now c.loop-next.index c.args.to c.in-Some.next c.in-Some.ensures.answer c.loop-next.invariant.4 in
    let e = put_turn c.args.records.now c.loop-next.index c.args.to c.in-Some.next (on_page c.loop-next.self) (on_page c.tokens.new.self) (on_page c.statement-in-Some.new.self)
    n c.tokens.ensures.put c.statement-in-Some.ensures.put in (
      omega (arith, c.loop-next.invariant.0, c.loop-next.invariant.7, n.is),
      n.before,
      omega (arith, c.loop-next.invariant.2, n.is, n.first.forward),
      n.first.nested,
      n.first.rest,
      e ∙ c.loop-next.invariant.5,
      omega (arith, c.loop-next.invariant.6, n.is, n.first.forward, c.tokens.ensures.short, c.statement-in-Some.ensures.short),
      n.first.forward,
    )

pub body-returns-clause-put : goal.body-returns-clause-put
body-returns-clause-put t c =
    let rs = c.args.records.now in
    let f = first_of c.args.records.now c.args.from c.args.to c.requires.order c.requires.sound in
    let le : c.args.to ≤ end_of c.args.records.now c.loop-next.index =
    sibling-none rs c.loop-next.index c.args.to (omega (arith, body_within rs c.args.from c.args.to c.requires.order c.requires.sound, c.loop-next.invariant.1)) c.in_default.ensures.answer in
    sym (put_last rs (end_of rs c.loop-next.index) c.args.to (on_page c.loop-next.self) le) ∙ c.loop-next.invariant.5
    ∙ sym (put_first rs c.args.from c.args.to (on_page c.args.self.now) (on_page c.statement.new.self) c.requires.order c.requires.sound c.statement.ensures.put)

pub body-returns-clause-short : goal.body-returns-clause-short
body-returns-clause-short t c =
    let rs = c.args.records.now in
    let f = first_of c.args.records.now c.args.from c.args.to c.requires.order c.requires.sound in
    let le : c.args.to ≤ end_of c.args.records.now c.loop-next.index =
    sibling-none rs c.loop-next.index c.args.to (omega (arith, body_within rs c.args.from c.args.to c.requires.order c.requires.sound, c.loop-next.invariant.1)) c.in_default.ensures.answer in
    omega (arith, f.forward, c.statement.ensures.short, c.loop-next.invariant.3, c.loop-next.invariant.6)

pub statement-returns-in-Loop-clause-put : goal.statement-returns-in-Loop-clause-put
statement-returns-in-Loop-clause-put t c =
    put_loop c.args.records.now c.args.index (on_page c.args.self.now) (on_page c.tokens-in-Loop.new.self) (on_page c.body.new.self) (on_page c.tokens-in-Loop-2.new.self)
    c.in-Loop.is c.tokens-in-Loop.ensures.put c.body.ensures.put c.tokens-in-Loop-2.ensures.put

pub statement-returns-in-While-clause-put : goal.statement-returns-in-While-clause-put
statement-returns-in-While-clause-put t c =
    put_while c.args.records.now c.args.index (on_page c.args.self.now) (on_page c.tokens-in-While.new.self) (on_page c.body-in-While.new.self) (on_page c.tokens-in-While-2.new.self)
    c.in-While.is c.tokens-in-While.ensures.put c.body-in-While.ensures.put c.tokens-in-While-2.ensures.put
