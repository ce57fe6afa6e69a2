use Rattle.std.proofs.Common.{refl, ap}
use Rattle.reader.specs.Parsing.{kind_of}
use Rattle.reader.proofs.Parsing.{loop_head, while_head}
use Rattle.reader.proofs.parser.Parser.head.Goals as goal

pub returns-in-Loop : goal.returns-in-Loop
returns-in-Loop c =
    let e = c.loop_head.ensures in
    record {
      read = λ s x o. loop_head (kind_of c.args.kind) (ap kind_of c.in-Loop.is) c.args.self.now.cursor.text.now c.args.self.now.cursor.pos c.loop_head.result c.loop_head.new.self.pos s x o e.read;
      begun = (refl, refl);
      memory = refl;
      kept = record { text = e.text; room = refl; loan = refl };
    }

pub returns-in-While : goal.returns-in-While
returns-in-While c =
    let e = c.while_head.ensures in
    record {
      read = λ s x o. while_head (kind_of c.args.kind) (ap kind_of c.in-While.is) c.args.self.now.cursor.text.now c.args.self.now.cursor.pos c.while_head.result c.while_head.new.self.pos s x o e.read;
      begun = (refl, refl);
      memory = refl;
      kept = record { text = e.text; room = refl; loan = refl };
    }
