use Rattle.std.proofs.Common.{Ok, Err, refl, ap, ◌∙◌, subst}
use Rattle.std.proofs.lemmas.Result.{err_from_is_err_and}
use Rattle.reader.specs.Lexing.{meant}
use Rattle.reader.specs.Symbols.{placed, LOOP, WHILE}
use Rattle.reader.specs.Records.{statement_of}
use Rattle.reader.specs.Machine.{loop_register, while_register}
use Rattle.reader.specs.declared.types.Lexeme.TheVariants as lexeme
use Rattle.reader.specs.Parsing.{text_of, pos_of, memory_of, opening_loop, opening_while, kind_of, BodyRead}
use Rattle.reader.proofs.Bodies.{kept_then, all_so_far, fewer, more_so_far, body_flawed, body_ends, body_follows, some_read, moved_to, first_read, first-between, first_small, inside, inside_refused, inside_open, block_done, amended_same, halts_moved}
use Rattle.reader.proofs.Parsing.{opens}
use Rattle.reader.proofs.Refusing.{none_begins, other_begins, block_refused, head_bad}
use Rattle.reader.proofs.parser.Parser.+block_body_statement.Goals as goal

pub block-returns-in_err-inner-clause-read : goal.block-returns-in_err-inner-clause-read
block-returns-in_err-inner-clause-read t c =
    let a = c.args.self.now in
    let p = err_from_is_err_and c.from_residual.result c.from_residual.ensures.1 in
    let e = c.in_err-inner.field-0.0 in
    let m = c.in_err-inner.ensures in
    rw (p.1, p.2) (λ s x o. block_refused (text_of a) (pos_of a) c.args.level.depth a.counts.statements a.counts.loops c.args.place e o m.admitted.0 m.admitted.1)

pub block-returns-in_err-source-clause-read : goal.block-returns-in_err-source-clause-read
block-returns-in_err-source-clause-read t c =
    let a = c.args.self.now in
    let a₁ = c.admit.new.self in
    let p = err_from_is_err_and c.from_residual-in_err-source.result c.from_residual-in_err-source.ensures.1 in
    let e = c.in_err-source.field-0.0 in
    let m = c.in_ok-inner.ensures in
    let r = c.in_err-source.ensures in
    rw (p.1, p.2) (λ s x o. head_bad (text_of a) (pos_of a) c.args.level.depth a.counts.statements a.counts.loops c.args.place o m.admitted.0 e (halts_moved (text_of a) (text_of a₁) (pos_of a) (pos_of a₁) x e m.kept.text m.pos (r.read s x o)))

pub block-returns-in_err-follow-clause-read : goal.block-returns-in_err-follow-clause-read
block-returns-in_err-follow-clause-read t c =
    let a = c.args.self.now in
    let b = c.file-index.new.self in
    let m = c.in_ok-inner.ensures in
    let i = c.in_ok-source.source in
    let w = inside (opens c.args.kind).2 m c.in_ok-source.ensures c.file-index.ensures in
    let p = err_from_is_err_and c.from_residual-in_err-follow.result c.from_residual-in_err-follow.ensures.1 in
    let r = c.in_err-follow.ensures in
    let read = subst (λ l. BodyRead l b (Err c.in_err-follow.field-0.0) c.body.new.self) m.admitted.1 r.read in
    rw (p.1, p.2) (inside_refused c.args.level.depth c.args.place i (kind_of c.args.kind) a b w c.in_err-follow.field-0.0 read)

pub block-returns-in_err-expect_end-clause-read : goal.block-returns-in_err-expect_end-clause-read
block-returns-in_err-expect_end-clause-read t c =
    let a = c.args.self.now in
    let b = c.file-index.new.self in
    let m = c.in_ok-inner.ensures in
    let i = c.in_ok-source.source in
    let w = inside (opens c.args.kind).2 m c.in_ok-source.ensures c.file-index.ensures in
    let d = c.body.new.self in
    let p = err_from_is_err_and c.from_residual-in_err-expect_end.result c.from_residual-in_err-expect_end.ensures.1 in
    let r = c.in_ok-follow.ensures in
    let read = subst (λ l. BodyRead l b (Ok c.in_ok-follow.follow) d) m.admitted.1 r.read in
    let e = c.in_err-expect_end.ensures in
    rw (p.1, p.2) (inside_open c.args.level.depth c.args.place i (kind_of c.args.kind) a b w d (Unit {0}) c.in_ok-follow.follow c.in_err-expect_end.field-0.0 read r.kept e.closed)

pub block-returns-clause-read : goal.block-returns-clause-read
block-returns-clause-read t c =
    let a = c.args.self.now in
    let b = c.file-index.new.self in
    let m = c.in_ok-inner.ensures in
    let i = c.in_ok-source.source in
    let w = inside (opens c.args.kind).2 m c.in_ok-source.ensures c.file-index.ensures in
    let d = c.body.new.self in
    let z = c.amend.new.self in
    let r = c.in_ok-follow.ensures in
    let read = subst (λ l. BodyRead l b (Ok c.in_ok-follow.follow) d) m.admitted.1 r.read in
    let e = c.in_ok-expect_end.ensures in
    let n = c.amend.ensures in
    let k = kept_then a b d w.kept r.kept in
    block_done c.args.level.depth c.args.place i (kind_of c.args.kind) a b w d (Unit {0}) c.in_ok-expect_end.field-0 (memory_of z) z.counts.statements z.counts.loops (pos_of z) n.begun.0 n.begun.1 (n.pos ∙ e.pos) (amended_same (memory_of z) (memory_of d) c.file-index.result a.counts.statements c.args.place c.block-item.result (statement_of (kind_of c.args.kind) 0 i 0 d.counts.statements) (c.file-index.ensures.index ∙ (c.in_ok-source.ensures.begun.0 ∙ m.begun)) (c.block-item.ensures ∙ ap (λ k. statement_of k 0 i 0 d.counts.statements) c.from-2.ensures) n.amended) c.in_ok-follow.follow read e.closed

pub body-returns-in_err-found-clause-read : goal.body-returns-in_err-found-clause-read
body-returns-in_err-found-clause-read t c =
    let a = c.args.self.now in
    let s = c.loop-self.self in
    let z = c.statement.new.self in
    let k = kept_then a s z c.loop-self.invariant.3 c.in_ok-statement.ensures.kept in
    let all = all_so_far c.args.level.depth a s z c.loop-self.invariant c.in_ok-statement.ensures.read in
    let p = err_from_is_err_and c.from_residual-in_err-found.result c.from_residual-in_err-found.ensures.1 in
    let n = c.in_err-found.ensures in
    rw (p.1, p.2) (body_flawed c.args.level.depth a z all k.text c.next.new.self.pos c.in_err-found.field-0.0 n.read)

pub body-returns-in_default-clause-read : goal.body-returns-in_default-clause-read
body-returns-in_default-clause-read t c =
    let a = c.args.self.now in
    let s = c.loop-self.self in
    let z = c.statement.new.self in
    let k = kept_then a s z c.loop-self.invariant.3 c.in_ok-statement.ensures.kept in
    let all = all_so_far c.args.level.depth a s z c.loop-self.invariant c.in_ok-statement.ensures.read in
    let n = c.in_ok-found.ensures in
    (all.0, z.cursor.pos, all.1, all.2, body_ends c.args.level.depth a z all k.text c.next.new.self.pos c.in_ok-found.field-0 c.in_default.is n.read)

pub body-loop-self-smaller : goal.body-loop-self-smaller
body-loop-self-smaller t c =
    fewer c.args.level.depth c.args.self.now c.loop-self.self c.statement.new.self c.loop-self.invariant c.in_ok-statement.ensures.read

pub body-loop-self-preserved : goal.body-loop-self-preserved
body-loop-self-preserved t c =
    let a = c.args.self.now in
    let s = c.loop-self.self in
    let z = c.statement.new.self in
    let k = kept_then a s z c.loop-self.invariant.3 c.in_ok-statement.ensures.kept in
    let all = all_so_far c.args.level.depth a s z c.loop-self.invariant c.in_ok-statement.ensures.read in
    let n = c.in_ok-found.ensures in
    let g = some_read (text_of z) z.cursor.pos c.next.new.self.pos c.in_ok-found.field-0 c.in-Some.found c.in-Some.is n.read in
    let m = more_so_far c.args.level.depth a s z c.loop-self.invariant c.in_ok-statement.ensures.read c.in-Some.found c.next.new.self.pos g.0 k.text c.in-Semicolon.is in
    (m.0, m.1, m.2, record { text = ◌∙◌ {a = c.next.new.self.text.now} n.text k.text; room = k.room; loan = k.loan })

pub body-returns-in_default-item : goal.body-returns-in_default-item
body-returns-in_default-item t c =
    let a = c.args.self.now in
    let s = c.loop-self.self in
    let z = c.statement.new.self in
    let k = kept_then a s z c.loop-self.invariant.3 c.in_ok-statement.ensures.kept in
    let all = all_so_far c.args.level.depth a s z c.loop-self.invariant c.in_ok-statement.ensures.read in
    let n = c.in_ok-found.ensures in
    record {
      read = (all.0, z.cursor.pos, all.1, all.2, body_follows c.args.level.depth a z all k.text c.next.new.self.pos c.in_ok-found.field-0 c.in-Some.found c.in-Some.is n.read c.in_default-item.not-Semicolon);
      kept = record { text = ◌∙◌ {a = c.next.new.self.text.now} n.text k.text; room = k.room; loan = k.loan };
    }

pub statement-returns-in_err-first-clause-read : goal.statement-returns-in_err-first-clause-read
statement-returns-in_err-first-clause-read t c =
    let a = c.args.self.now in
    let p = err_from_is_err_and c.from_residual.result c.from_residual.ensures.1 in
    let r = c.in_err-first.ensures in
    rw (p.1, p.2) (none_begins (text_of a) (pos_of a) c.args.level.depth a.counts.statements a.counts.loops c.in_err-first.field-0.0 r.read)

pub statement-assignment-requires : goal.statement-assignment-requires
statement-assignment-requires t c =
    let a = c.args.self.now in
    first_small (text_of a) (pos_of a) c.require.new.self.pos c.in_ok-first.first c.in-Register.target c.in-Register.is c.in_ok-first.ensures.read

pub statement-returns-in-Register-clause-read : goal.statement-returns-in-Register-clause-read
statement-returns-in-Register-clause-read t c =
    let a = c.args.self.now in
    let x = c.in_ok-first.first in
    let r = c.in_ok-first.ensures in
    let s = moved_to a c.require.new.self in
    let z = c.assignment.new.self in
    first_read c.args.level.depth a s z (placed x.place (meant (lexeme.Register c.in-Register.target))) c.assignment.result (first-between (text_of a) (pos_of a) c.require.new.self.pos x (lexeme.Register c.in-Register.target) c.in-Register.is r.read) r.text refl refl refl (c.assignment.ensures.read c.args.level.depth)

pub statement-returns-in-Loop-clause-read : goal.statement-returns-in-Loop-clause-read
statement-returns-in-Loop-clause-read t c =
    let a = c.args.self.now in
    let x = c.in_ok-first.first in
    let r = c.in_ok-first.ensures in
    let s = moved_to a c.require.new.self in
    let z = c.block.new.self in
    first_read c.args.level.depth a s z (placed x.place (meant lexeme.Loop)) c.block.result (first-between (text_of a) (pos_of a) c.require.new.self.pos x lexeme.Loop c.in-Loop.is r.read) r.text refl refl refl (c.block.ensures.read LOOP loop_register opening_loop)

pub statement-returns-in-While-clause-read : goal.statement-returns-in-While-clause-read
statement-returns-in-While-clause-read t c =
    let a = c.args.self.now in
    let x = c.in_ok-first.first in
    let r = c.in_ok-first.ensures in
    let s = moved_to a c.require.new.self in
    let z = c.block-in-While.new.self in
    first_read c.args.level.depth a s z (placed x.place (meant lexeme.While)) c.block-in-While.result (first-between (text_of a) (pos_of a) c.require.new.self.pos x lexeme.While c.in-While.is r.read) r.text refl refl refl (c.block-in-While.ensures.read WHILE while_register opening_while)

pub statement-returns-in_default : goal.statement-returns-in_default
statement-returns-in_default t c =
    let a = c.args.self.now in
    let r = c.in_ok-first.ensures in
    let n = c.in_default in
    record {
      read = other_begins (text_of a) (pos_of a) c.args.level.depth a.counts.statements a.counts.loops c.require.new.self.pos c.in_ok-first.first c.out_of_order.result r.read n.not-Register n.not-Loop n.not-While c.out_of_order.ensures;
      kept = record { text = r.text; room = refl; loan = refl };
    }
