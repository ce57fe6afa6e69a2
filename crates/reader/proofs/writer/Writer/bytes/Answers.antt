use Rattle.reader.specs.Pages.{on_page}
use Rattle.reader.proofs.Pages.{bytes_room}
use Rattle.reader.proofs.writer.Writer.bytes.Goals as goal

pub byte-requires : goal.byte-requires
byte-requires c =
    bytes_room c.args.text.now c.loop-b.b-index (on_page c.loop-b.self) (on_page c.args.self.now) c.loop-b-test.true c.loop-b.invariant c.requires
