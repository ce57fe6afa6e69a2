use Rattle.std.proofs.Common.{◌≡◌, ℕ, Result, ◌+◌, Some, None, sym, refl, ap, subst, add-one, arith}
use Rattle.std.proofs.lemmas.Result.{err_from_is_err_and}
use Rattle.reader.specs.declared.parser.Parser.{Parser}
use Rattle.reader.specs.declared.level.Level.{Level}
use Rattle.reader.specs.declared.types.Kind.{Kind}
use Rattle.reader.specs.declared.types.Placed.{Placed}
use Rattle.reader.specs.declared.types.Refusal.{Refusal}
use Rattle.reader.specs.declared.types.Refusal.TheVariants.{TooDeep, TooMany}
use Rattle.reader.specs.declared.types.Kind.TheVariants.{Loop as loop}
use Rattle.reader.specs.Symbols.{placed}
use Rattle.reader.specs.Parsing.{kind_of, Admitted, Admits, BlockAdmitted, admits_loop, admits_while, too_deep, too_many, too_many_loops}
use Rattle.reader.proofs.Parsing.{entered, not_entered}
use Rattle.reader.proofs.parser.Parser.admit.Goals as goal

as_it_was : {level place : ℕ} {k : Kind} {a : Parser} {r : Result Level (Placed Refusal)} → Admits level a.counts.statements a.counts.loops k place r a.counts.loops → BlockAdmitted level k place a r a
as_it_was h = record { admitted = h; begun = refl; memory = refl; kept = record { text = refl; room = refl; loan = refl }; pos = refl }

pub returns-in_err-inner : goal.returns-in_err-inner
returns-in_err-inner c =
    let p = err_from_is_err_and c.from_residual.result c.from_residual.ensures.1 in
    let n = c.args.self.now.counts.statements in
    let m = c.args.self.now.counts.loops in
    let d = c.args.level.depth in
    let l = not_entered d c.inner.result (placed c.args.place TooDeep) c.inner.ensures c.in_err-inner.field-0.0 c.in_err-inner.ensures.value in
    rw (p.1, p.2) (as_it_was (subst (λ (e : Placed Refusal). Admitted d n m (kind_of c.args.kind) (Some e.item) m × (e.place ≡ c.args.place)) (sym l.1) (too_deep l.0, refl)))

pub returns-then-self-ge-STATEMENTS : goal.returns-then-self-ge-STATEMENTS
returns-then-self-ge-STATEMENTS c =
    let l = entered c.args.level.depth c.inner.result _ c.inner.ensures c.in_ok-inner.inner c.in_ok-inner.ensures.value in
    as_it_was (too_many l.0 (omega (arith, c.args.self.now.counts.few)), refl)

pub returns-then-self-ge-LOOPS : goal.returns-then-self-ge-LOOPS
returns-then-self-ge-LOOPS c =
    let n = c.args.self.now.counts.statements in
    let m = c.args.self.now.counts.loops in
    let l = entered c.args.level.depth c.inner.result _ c.inner.ensures c.in_ok-inner.inner c.in_ok-inner.ensures.value in
    as_it_was (subst (λ k. Admitted c.args.level.depth n m k (Some TooMany) m) (sym (ap kind_of c.in-Loop.is)) (too_many_loops l.0 (omega arith) (omega (arith, c.args.self.now.counts.looped))), refl)

pub returns-else-self-ge-LOOPS : goal.returns-else-self-ge-LOOPS
returns-else-self-ge-LOOPS c =
    let n = c.args.self.now.counts.statements in
    let m = c.args.self.now.counts.loops in
    let d = c.args.level.depth in
    let l = entered d c.inner.result _ c.inner.ensures c.in_ok-inner.inner c.in_ok-inner.ensures.value in
    let a = subst (λ j. Admitted d n m loop None j) (sym (add-one m)) (admits_loop l.0 (omega arith) (omega arith)) in
    record { admitted = (subst (λ k. Admitted d n m k None (m + 1)) (sym (ap kind_of c.in-Loop.is)) a, l.1); begun = refl; memory = refl; kept = record { text = refl; room = refl; loan = refl }; pos = refl }

pub returns-in-While : goal.returns-in-While
returns-in-While c =
    let n = c.args.self.now.counts.statements in
    let m = c.args.self.now.counts.loops in
    let l = entered c.args.level.depth c.inner.result _ c.inner.ensures c.in_ok-inner.inner c.in_ok-inner.ensures.value in
    as_it_was (subst (λ k. Admitted c.args.level.depth n m k None m) (sym (ap kind_of c.in-While.is)) (admits_while l.0 (omega arith)), l.1)
