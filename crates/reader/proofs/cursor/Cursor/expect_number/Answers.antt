use Rattle.reader.proofs.Expecting.{number_picked}
use Rattle.reader.proofs.cursor.Cursor.expect_number.Goals as goal

pub returns-clause-read : goal.returns-clause-read
returns-clause-read c =
    number_picked c.args.self.now.text.now c.args.self.now.pos c.pick.new.self.pos c.pick.ensures.read (λ l o t. t.1)
