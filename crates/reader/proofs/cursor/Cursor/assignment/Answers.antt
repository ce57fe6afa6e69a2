use Rattle.std.proofs.Common.{◌≡◌, Ok, ◌∙◌}
use Rattle.std.proofs.lemmas.Result.{err_from_is_err_and}
use Rattle.reader.specs.Expecting.{Refuses, IsRegister, IsSign, IsNumber, RegisterExpected, SignExpected, NumberExpected, assigned}
use Rattle.reader.proofs.Halting.{moved, no_assign, no_source, no_sign, no_constant, behind_assign, behind_source, behind_sign}
use Rattle.reader.proofs.cursor.Cursor.assignment.Goals as goal

pub returns-in_err-expect-clause-read : goal.returns-in_err-expect-clause-read
returns-in_err-expect-clause-read c =
    let p = err_from_is_err_and c.from_residual.result c.from_residual.ensures.1 in
    let a = c.in_err-expect.ensures in
    rw (p.1, p.2) (no_assign c.args.self.now.text.now c.args.self.now.pos c.in_err-expect.field-0.0 a.read)

pub returns-in_err-source-clause-read : goal.returns-in_err-source-clause-read
returns-in_err-source-clause-read c =
    let p = err_from_is_err_and c.from_residual-in_err-source.result c.from_residual-in_err-source.ensures.1 in
    let text = c.args.self.now.text.now in
    let e = c.in_err-source.field-0.0 in
    let a = c.in_ok-expect.ensures in
    let b = c.in_err-source.ensures in
    let at1 = c.expect.new.self.pos in
    rw (p.1, p.2) (behind_assign text c.args.self.now.pos at1 e a.read.0 (no_source text at1 e (moved (λ t. Refuses IsRegister t at1 e) a.text b.read)))

pub returns-in_err-kind-clause-read : goal.returns-in_err-kind-clause-read
returns-in_err-kind-clause-read c =
    let p = err_from_is_err_and c.from_residual-in_err-kind.result c.from_residual-in_err-kind.ensures.1 in
    let text = c.args.self.now.text.now in
    let e = c.in_err-kind.field-0.0 in
    let a = c.in_ok-expect.ensures in
    let b = c.in_ok-source.ensures in
    let d = c.in_err-kind.ensures in
    let at1 = c.expect.new.self.pos in
    let at2 = c.expect_register.new.self.pos in
    let j = c.in_ok-source.source in
    let b-text : c.expect_register.new.self.text.now ≡ text = ◌∙◌ {a = c.expect_register.new.self.text.now} b.text a.text in
    rw (p.1, p.2) (behind_assign text c.args.self.now.pos at1 e a.read.0
    (behind_source text at1 at2 e j (moved (λ t. RegisterExpected t at1 (Ok j) at2) a.text b.read)
    (no_sign text at2 e (moved (λ t. Refuses IsSign t at2 e) b-text d.read))))

pub returns-in_err-constant-clause-read : goal.returns-in_err-constant-clause-read
returns-in_err-constant-clause-read c =
    let p = err_from_is_err_and c.from_residual-in_err-constant.result c.from_residual-in_err-constant.ensures.1 in
    let text = c.args.self.now.text.now in
    let e = c.in_err-constant.field-0.0 in
    let a = c.in_ok-expect.ensures in
    let b = c.in_ok-source.ensures in
    let d = c.in_ok-kind.ensures in
    let f = c.in_err-constant.ensures in
    let at1 = c.expect.new.self.pos in
    let at2 = c.expect_register.new.self.pos in
    let at3 = c.expect_sign.new.self.pos in
    let j = c.in_ok-source.source in
    let k = c.in_ok-kind.kind in
    let b-text : c.expect_register.new.self.text.now ≡ text = ◌∙◌ {a = c.expect_register.new.self.text.now} b.text a.text in
    let d-text : c.expect_sign.new.self.text.now ≡ text = ◌∙◌ {a = c.expect_sign.new.self.text.now} d.text b-text in
    rw (p.1, p.2) (behind_assign text c.args.self.now.pos at1 e a.read.0
    (behind_source text at1 at2 e j (moved (λ t. RegisterExpected t at1 (Ok j) at2) a.text b.read)
    (behind_sign text at2 at3 e k (moved (λ t. SignExpected t at2 (Ok k) at3) b-text d.read)
    (no_constant text at3 e (moved (λ t. Refuses IsNumber t at3 e) d-text f.read)))))

pub returns-clause-read : goal.returns-clause-read
returns-clause-read c =
    let text = c.args.self.now.text.now in
    let a = c.in_ok-expect.ensures in
    let b = c.in_ok-source.ensures in
    let d = c.in_ok-kind.ensures in
    let f = c.in_ok-constant.ensures in
    let at1 = c.expect.new.self.pos in
    let at2 = c.expect_register.new.self.pos in
    let at3 = c.expect_sign.new.self.pos in
    let at4 = c.expect_number.new.self.pos in
    let j = c.in_ok-source.source in
    let k = c.in_ok-kind.kind in
    let n = c.in_ok-constant.constant in
    let b-text : c.expect_register.new.self.text.now ≡ text = ◌∙◌ {a = c.expect_register.new.self.text.now} b.text a.text in
    let d-text : c.expect_sign.new.self.text.now ≡ text = ◌∙◌ {a = c.expect_sign.new.self.text.now} d.text b-text in
    let b-read = moved (λ t. RegisterExpected t at1 (Ok j) at2) a.text b.read in
    let d-read = moved (λ t. SignExpected t at2 (Ok k) at3) b-text d.read in
    let f-read = moved (λ t. NumberExpected t at3 (Ok n) at4) d-text f.read in
    assigned d-read.1 b-read.1 f-read.1 (λ zs r. a.read.0.1 _ (b-read.0.1 _ (d-read.2.1 _ (f-read.0.1 zs r))))
