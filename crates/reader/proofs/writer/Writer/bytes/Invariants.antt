use Rattle.std.proofs.Common.{◌≡◌, drop}
use Rattle.reader.specs.Pages.{on_page, put_bytes}
use Rattle.reader.proofs.writer.Writer.bytes.Given as goal

abbrev pub invariant-loop-b : goal.invariant-loop-b
invariant-loop-b l = put_bytes (drop l.b-index l.text) (on_page l.self) ≡ put_bytes l.text (on_page l.initial.self)
