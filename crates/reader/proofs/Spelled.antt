-- A sheet that symbols spell has statements, and no empty body.
use Rattle.reader.specs.Sheet.{Sheet, done, plus, minus, loop, while, then, Some, Whole}
use Rattle.std.proofs.Common.{List}
use Rattle.reader.specs.Symbols.{Symbol}
use Rattle.reader.specs.Grammar.{Spells, adds, subtracts, sequence, loops, whiles}
use Rattle.reader.proofs.WrittenRules.{some_then}

pub whole_then : (p q : Sheet) → Whole p → Whole q → Whole (then p q)
whole_then done q h g = g
whole_then (plus i j c p) q h g = whole_then p q h g
whole_then (minus i j c p) q h g = whole_then p q h g
whole_then (loop i b p) q h g = (h.0, h.1, whole_then p q h.2 g)
whole_then (while i b p) q h g = (h.0, h.1, whole_then p q h.2 g)

pub spelled_some : (xs : List Symbol) (p : Sheet) → Spells xs p → Some p
spelled_some _ _ adds = tt
spelled_some _ _ subtracts = tt
spelled_some _ _ (sequence {xs} {ys} {p} {q} h g) = some_then p q (spelled_some xs p h)
spelled_some _ _ (loops h) = tt
spelled_some _ _ (whiles h) = tt

pub spelled_whole : (xs : List Symbol) (p : Sheet) → Spells xs p → Whole p
spelled_whole _ _ adds = tt
spelled_whole _ _ subtracts = tt
spelled_whole _ _ (sequence {xs} {ys} {p} {q} h g) = whole_then p q (spelled_whole xs p h) (spelled_whole ys q g)
spelled_whole _ _ (loops {i} {xs} {b} h) = (spelled_some xs b h, spelled_whole xs b h, tt)
spelled_whole _ _ (whiles {i} {xs} {b} h) = (spelled_some xs b h, spelled_whole xs b h, tt)
