use Rattle.std.proofs.Common.{◌≡◌, ◌+◌, ◌*◌, ◌≤◌, drop}
use Rattle.reader.specs.Pages.{on_page, put_symbols, meanings}
use Rattle.reader.proofs.writer.Writer.tokens.Given as goal

abbrev pub invariant-loop-t : goal.invariant-loop-t
invariant-loop-t l =
    (put_symbols (meanings (drop l.t-index l.tokens)) (on_page l.self) ≡ put_symbols (meanings l.tokens) (on_page l.initial.self))
    × (l.self.written ≤ l.initial.self.written + 22 * l.t-index)
