use Rattle.std.proofs.Common.{rules}
use Rattle.reader.proofs.Expecting.{wanted_picked}
use Rattle.reader.proofs.cursor.Cursor.expect.Goals as goal

pub returns-clause-read : goal.returns-clause-read
returns-clause-read c =
    wanted_picked c.args.self.now.text.now c.args.self.now.pos c.pick.new.self.pos c.args.wanted c.pick.ensures.read (λ l o t. search rules)
