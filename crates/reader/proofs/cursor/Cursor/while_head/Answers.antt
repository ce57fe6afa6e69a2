use Rattle.std.proofs.Common.{◌≡◌, ◌∙◌}
use Rattle.std.proofs.lemmas.Result.{err_from_is_err_and}
use Rattle.reader.specs.Symbols.{DO, unequal, number}
use Rattle.reader.specs.Machine.{while_register, while_unequal}
use Rattle.reader.specs.Expecting.{Refuses, Passes}
use Rattle.reader.proofs.Halting.{moved, head_refused, no_while_register, no_unequal, no_zero, no_while_do, behind_while_register, behind_unequal, behind-zero}
use Rattle.reader.proofs.cursor.Cursor.while_head.Goals as goal

pub returns-in_err-source-clause-read : goal.returns-in_err-source-clause-read
returns-in_err-source-clause-read c =
    let p = err_from_is_err_and c.from_residual.result c.from_residual.ensures.1 in
    let a = c.in_err-source.ensures in
    rw (p.1, p.2) (no_while_register c.args.self.now.text.now c.args.self.now.pos c.in_err-source.field-0.0 a.read)

pub returns-in_err-expect-clause-read : goal.returns-in_err-expect-clause-read
returns-in_err-expect-clause-read c =
    let p = err_from_is_err_and c.from_residual-in_err-expect.result c.from_residual-in_err-expect.ensures.1 in
    let text = c.args.self.now.text.now in
    let from = c.args.self.now.pos in
    let mid = c.expect_register.new.self.pos in
    let i = c.in_ok-source.source in
    let e = c.in_err-expect.field-0.0 in
    let a = c.in_ok-source.ensures in
    let b = c.in_err-expect.ensures in
    rw (p.1, p.2) (head_refused while_register while_unequal unequal text c.expect_register.new.self.text.now from mid i e (behind_while_register text from mid e i) (no_unequal text mid e) a.read a.text b.read)

pub returns-in_err-expect-2-clause-read : goal.returns-in_err-expect-2-clause-read
returns-in_err-expect-2-clause-read c =
    let p = err_from_is_err_and c.from_residual-in_err-expect-2.result c.from_residual-in_err-expect-2.ensures.1 in
    let text = c.args.self.now.text.now in
    let e = c.in_err-expect-2.field-0.0 in
    let a = c.in_ok-source.ensures in
    let b = c.in_ok-expect.ensures in
    let d = c.in_err-expect-2.ensures in
    let at1 = c.expect_register.new.self.pos in
    let at2 = c.expect.new.self.pos in
    let b-text : c.expect.new.self.text.now ≡ text = ◌∙◌ {a = c.expect.new.self.text.now} b.text a.text in
    rw (p.1, p.2) (behind_while_register text c.args.self.now.pos at1 e c.in_ok-source.source a.read
    (behind_unequal text at1 at2 e (moved (λ t. Passes t at1 at2 unequal) a.text b.read.0)
    (no_zero text at2 e (moved (λ t. Refuses (λ s. s ≡ number 0) t at2 e) b-text d.read))))

pub returns-in_err-expect-3-clause-read : goal.returns-in_err-expect-3-clause-read
returns-in_err-expect-3-clause-read c =
    let p = err_from_is_err_and c.from_residual-in_err-expect-3.result c.from_residual-in_err-expect-3.ensures.1 in
    let text = c.args.self.now.text.now in
    let e = c.in_err-expect-3.field-0.0 in
    let a = c.in_ok-source.ensures in
    let b = c.in_ok-expect.ensures in
    let d = c.in_ok-expect-2.ensures in
    let f = c.in_err-expect-3.ensures in
    let at1 = c.expect_register.new.self.pos in
    let at2 = c.expect.new.self.pos in
    let at3 = c.expect-2.new.self.pos in
    let b-text : c.expect.new.self.text.now ≡ text = ◌∙◌ {a = c.expect.new.self.text.now} b.text a.text in
    let d-text : c.expect-2.new.self.text.now ≡ text = ◌∙◌ {a = c.expect-2.new.self.text.now} d.text b-text in
    rw (p.1, p.2) (behind_while_register text c.args.self.now.pos at1 e c.in_ok-source.source a.read
    (behind_unequal text at1 at2 e (moved (λ t. Passes t at1 at2 unequal) a.text b.read.0)
    (behind-zero text at2 at3 e (moved (λ t. Passes t at2 at3 (number 0)) b-text d.read.0)
    (no_while_do text at3 e (moved (λ t. Refuses (λ s. s ≡ DO) t at3 e) d-text f.read)))))

pub returns-clause-read : goal.returns-clause-read
returns-clause-read c =
    let text = c.args.self.now.text.now in
    let a = c.in_ok-source.ensures in
    let b = c.in_ok-expect.ensures in
    let d = c.in_ok-expect-2.ensures in
    let f = c.in_ok-expect-3.ensures in
    let at1 = c.expect_register.new.self.pos in
    let at2 = c.expect.new.self.pos in
    let at3 = c.expect-2.new.self.pos in
    let at4 = c.expect-3.new.self.pos in
    let b-text : c.expect.new.self.text.now ≡ text = ◌∙◌ {a = c.expect.new.self.text.now} b.text a.text in
    let d-text : c.expect-2.new.self.text.now ≡ text = ◌∙◌ {a = c.expect-2.new.self.text.now} d.text b-text in
    let b-read = moved (λ t. Passes t at1 at2 unequal) a.text b.read.0 in
    let d-read = moved (λ t. Passes t at2 at3 (number 0)) b-text d.read.0 in
    let f-read = moved (λ t. Passes t at3 at4 DO) d-text f.read.0 in
    (a.read.0.0, b-read.0, d-read.0, f-read.0, (λ zs r. a.read.0.1 _ (b-read.1 _ (d-read.1 _ (f-read.1 zs r)))), a.read.1)
