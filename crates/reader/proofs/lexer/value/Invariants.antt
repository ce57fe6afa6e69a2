use Rattle.std.proofs.Common.{◌≡◌, ◌≤◌, true, drop}
use Rattle.std.specs.Str.{all_ascii_digits}
use Rattle.reader.specs.Text.{read_on}
use Rattle.reader.proofs.lexer.value.Given as goal

abbrev pub invariant-loop-d : goal.invariant-loop-d
invariant-loop-d l = (l.value ≤ 999999) × (all_ascii_digits (drop l.d-index l.digits) ≡ true) × (read_on l.value (drop l.d-index l.digits) ≡ read_on 0 l.digits)
