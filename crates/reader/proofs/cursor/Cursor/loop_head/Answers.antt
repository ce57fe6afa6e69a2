use Rattle.std.proofs.lemmas.Result.{err_from_is_err_and}
use Rattle.reader.specs.Symbols.{DO}
use Rattle.reader.specs.Machine.{loop_register, loop_do}
use Rattle.reader.proofs.Halting.{head_refused, no_loop_register, no_loop_do, behind_loop_register}
use Rattle.reader.proofs.cursor.Cursor.loop_head.Goals as goal

pub returns-in_err-source-clause-read : goal.returns-in_err-source-clause-read
returns-in_err-source-clause-read c =
    let p = err_from_is_err_and c.from_residual.result c.from_residual.ensures.1 in
    let a = c.in_err-source.ensures in
    rw (p.1, p.2) (no_loop_register c.args.self.now.text.now c.args.self.now.pos c.in_err-source.field-0.0 a.read)

pub returns-in_err-expect-clause-read : goal.returns-in_err-expect-clause-read
returns-in_err-expect-clause-read c =
    let p = err_from_is_err_and c.from_residual-in_err-expect.result c.from_residual-in_err-expect.ensures.1 in
    let text = c.args.self.now.text.now in
    let from = c.args.self.now.pos in
    let mid = c.expect_register.new.self.pos in
    let i = c.in_ok-source.source in
    let e = c.in_err-expect.field-0.0 in
    let a = c.in_ok-source.ensures in
    let b = c.in_err-expect.ensures in
    rw (p.1, p.2) (head_refused loop_register loop_do DO text c.expect_register.new.self.text.now from mid i e (behind_loop_register text from mid e i) (no_loop_do text mid e) a.read a.text b.read)
