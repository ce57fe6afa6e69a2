use Rattle.std.proofs.Common.{length, Ok, Err, subst, arith}
use Rattle.std.proofs.lemmas.Result.{err_from_is_err_and}
use Rattle.reader.specs.Parsing.{BodyRead, memory_of}
use Rattle.reader.specs.Expecting.{Over}
use Rattle.reader.proofs.Sheets.{sheet_refused, sheet_followed, sheet_read, sheet_over}
use Rattle.reader.proofs.parser.Parser.sheet.Goals as goal

pub returns-in_err-follow-clause-read : goal.returns-in_err-follow-clause-read
returns-in_err-follow-clause-read c =
    let p = err_from_is_err_and c.from_residual.result c.from_residual.ensures.1 in
    let r = c.in_err-follow.ensures in
    let read = subst (λ l. BodyRead l c.args.self.now (Err c.in_err-follow.field-0.0) c.body.new.self) c.outermost.ensures r.read in
    rw (p.1, p.2) ((sheet_refused (length (memory_of c.args.self.now)) c.args.self.now c.requires c.in_err-follow.field-0.0 read, r.kept.room))

pub returns-in_err-end-clause-read : goal.returns-in_err-end-clause-read
returns-in_err-end-clause-read c =
    let a = c.args.self.now in
    let p = err_from_is_err_and c.from_residual-in_err-end.result c.from_residual-in_err-end.ensures.1 in
    let e = c.in_err-end.field-0.0 in
    let r = c.in_ok-follow.ensures in
    let n = c.in_err-end.ensures in
    let x = c.in_ok-follow.follow in
    let read = subst (λ l. BodyRead l a (Ok x) c.body.new.self) c.outermost.ensures r.read in
    rw (p.1, p.2) ((sheet_followed (length (memory_of c.args.self.now)) a c.requires c.body.new.self x e read (subst (λ t. Over (length t) x (Err e)) r.kept.text n.over), r.kept.room))

pub returns-then-self-clause-read : goal.returns-then-self-clause-read
returns-then-self-clause-read c =
    let a = c.args.self.now in
    let r = c.in_ok-follow.ensures in
    let n = c.in_ok-end.ensures in
    let x = c.in_ok-follow.follow in
    let read = subst (λ l. BodyRead l a (Ok x) c.body.new.self) c.outermost.ensures r.read in
    let end = c.in_ok-end.end in
    (sheet_over (length (memory_of c.args.self.now)) a c.requires c.body.new.self x read end (subst (λ t. Over (length t) x (Ok end)) r.kept.text n.over) (omega arith), r.kept.room)

pub returns-clause-read : goal.returns-clause-read
returns-clause-read c =
    let a = c.args.self.now in
    let r = c.in_ok-follow.ensures in
    let n = c.in_ok-end.ensures in
    let x = c.in_ok-follow.follow in
    let read = subst (λ l. BodyRead l a (Ok x) c.body.new.self) c.outermost.ensures r.read in
    let end = c.in_ok-end.end in
    sheet_read (length (memory_of c.args.self.now)) a c.requires c.body.new.self x read end (subst (λ t. Over (length t) x (Ok end)) r.kept.text n.over) (omega arith)
