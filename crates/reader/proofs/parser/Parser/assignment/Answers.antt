use Rattle.std.proofs.Common.{length, add-one, arith}
use Rattle.std.proofs.lemmas.Result.{err_from_is_err_and}
use Rattle.reader.proofs.Parsing.{assignment_read}
use Rattle.reader.proofs.Refusing.{assignment_many, assignment_bad}
use Rattle.reader.proofs.parser.Parser.assignment.Goals as goal

pub returns-then-self-ge-STATEMENTS-clause-read : goal.returns-then-self-ge-STATEMENTS-clause-read
returns-then-self-ge-STATEMENTS-clause-read c =
    let self = c.args.self.now in
    λ level. assignment_many self.cursor.text.now self.cursor.pos level self.counts.statements self.counts.loops c.args.place c.args.target c.requires (omega (arith, self.counts.few))

pub returns-in_err-item-clause-read : goal.returns-in_err-item-clause-read
returns-in_err-item-clause-read c =
    let self = c.args.self.now in
    let p = err_from_is_err_and c.from_residual.result c.from_residual.ensures.1 in
    let a = c.in_err-item.ensures in
    rw (p.1, p.2) (λ level. assignment_bad self.cursor.text.now self.cursor.pos level self.counts.statements self.counts.loops c.args.place c.args.target c.requires c.in_err-item.field-0.0 (omega arith) a.read)

pub returns-clause-read : goal.returns-clause-read
returns-clause-read c =
    let self = c.args.self.now in
    let a = c.in_ok-item.ensures in
    let f = c.file.ensures in
    let z = c.file.new.self in
    λ level. assignment_read (length self.cursor.text.now) level self.counts.statements self.counts.loops c.args.place z.counts.statements z.counts.loops z.cursor.pos self.records.now z.records.now
    (omega arith) c.requires (add-one self.counts.statements) a.read f.filed f.begun f.loops f.pos
