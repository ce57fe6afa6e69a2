use Rattle.reader.proofs.Expecting.{register_picked}
use Rattle.reader.proofs.cursor.Cursor.expect_register.Goals as goal

pub returns-clause-read : goal.returns-clause-read
returns-clause-read c =
    register_picked c.args.self.now.text.now c.args.self.now.pos c.pick.new.self.pos c.pick.ensures.read (λ l o t. t.1)
