use Rattle.std.proofs.lemmas.Result.{err_from_is_err_and}
use Rattle.reader.specs.Expecting.{Takes, not_picked}
use Rattle.reader.proofs.Expecting.{refuses_all, found_picked}
use Rattle.reader.proofs.cursor.Cursor.pick.Goals as goal
use Rattle.reader.proofs.cursor.Cursor.pick.Given as given

pub returns-in_err-found-clause-read : goal.returns-in_err-found-clause-read
returns-in_err-found-clause-read g c =
    let p = err_from_is_err_and c.from_residual.result c.from_residual.ensures.1 in
    rw (p.1, p.2) (not_picked (refuses_all c.args.self.now.text.now c.args.self.now.pos (Takes (given.F-post g c.args.pick)) c.in_err-found.field-0.0 c.in_err-found.ensures.read))

pub returns-clause-read : goal.returns-clause-read
returns-clause-read g c =
    found_picked c.args.self.now.text.now c.args.self.now.pos c.require.new.self.pos (given.F-post g c.args.pick) c.in_ok-found.found c.in_ok-found.ensures.read c.pick.result c.pick.ensures c.out_of_order.result c.out_of_order.ensures c.ok_or.result c.ok_or.ensures.value
