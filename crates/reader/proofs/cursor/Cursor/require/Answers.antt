use Rattle.std.proofs.Common.{length, ap}
use Rattle.std.proofs.lemmas.Result.{err_from_is_err_and}
use Rattle.reader.proofs.Expecting.{begins_flawed, required}
use Rattle.reader.proofs.cursor.Cursor.require.Goals as goal

pub returns-in_err-found-clause-read : goal.returns-in_err-found-clause-read
returns-in_err-found-clause-read c =
    let p = err_from_is_err_and c.from_residual.result c.from_residual.ensures.1 in
    rw (p.1, p.2) (begins_flawed c.args.self.now.text.now c.args.self.now.pos c.in_err-found.field-0.0 c.next.new.self.pos c.in_err-found.ensures.read)

pub returns-clause-read : goal.returns-clause-read
returns-clause-read c =
    required c.args.self.now.text.now c.args.self.now.pos c.next.new.self.pos c.in_ok-found.found c.in_ok-found.ensures.read c.out_of_order.result _ c.out_of_order.ensures (ap length c.next.ensures.text) c.ok_or.result c.ok_or.ensures.value
