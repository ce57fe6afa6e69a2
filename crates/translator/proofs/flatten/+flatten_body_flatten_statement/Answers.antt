use Rattle.std.proofs.Common.{◌≡◌, ◌+◌, ◌<◌, ◌≤◌, ◌∙◌, subst, arith, rules}
use Rattle.reader.specs.declared.types.Statement.{Statement}
use Rattle.reader.specs.declared.types.Kind.TheVariants as kind
use Rattle.reader.specs.Symbols.{placed}
use Rattle.reader.specs.Records.{statement_of}
use Rattle.filing.specs.Tables.{count}
use Rattle.translator.specs.declared.types.Role.TheVariants as role
use Rattle.translator.specs.Flattening.{flat_of, OneFiled}
use Rattle.translator.proofs.Results.{handed_up}
use Rattle.translator.proofs.FlatFiled.{record_at, end_at, span_below, end_within, assigns, loops-at, whiles-at, after_assignment, past_while, after_loop, all_filed, more_filed, over_later, counters_later, assignment_over, while_over, loop_over, while_body_over, loop_body_over}
use Rattle.translator.proofs.flatten.+flatten_body_flatten_statement.Goals as goal

pub flatten_body-flatten_statement-requires : goal.flatten_body-flatten_statement-requires
flatten_body-flatten_statement-requires t c =
    let P = c.requires.sheet in
    let w = c.loop-at.invariant.1 P.0 P.1 P.2 in
    let low : c.args.from ≤ c.loop-at.at = c.loop-at.invariant.0 in
    let less = c.loop-at-test.true in
    let high = end_within c.args.records.now c.loop-at.at c.args.to w.rest w.places w.spans less in
    let own = counters_later c.args.records.now c.loop-at.at c.args.to P.0 P.1 c.args.counter.now c.loop-at.counter c.args.flats.now c.loop-at.flats w P.3 in
    (search rules, ((c.args.to, w.rest, w.places, w.spans, less, own), omega (arith, c.loop-at.invariant.2, c.requires.small)))

pub flatten_body-returns-in_err-at-clause-filed : goal.flatten_body-returns-in_err-at-clause-filed
flatten_body-returns-in_err-at-clause-filed t c =
    let E = c.in_err-at.ensures.filed in
    handed_up _ _ c.from_residual.result c.from_residual.ensures.1 (
      E.0,
      λ p xs s.
          let w = c.loop-at.invariant.1 p xs s in
          over_later c.args.records.now c.loop-at.at c.args.to p xs c.args.counter.now c.loop-at.counter c.args.flats.now c.loop-at.flats w c.loop-at.invariant.2
          (E.1 c.args.to w.rest w.places w.spans c.loop-at-test.true),
    )

pub flatten_body-loop-at-preserved : goal.flatten_body-loop-at-preserved
flatten_body-loop-at-preserved t c =
    let E = c.in_ok-at.ensures in (
      omega (arith, c.loop-at.invariant.0, E.filed.0),
      λ p xs s.
          let w = c.loop-at.invariant.1 p xs s in
          more_filed c.args.records.now c.loop-at.at c.in_ok-at.at c.args.to p xs c.args.counter.now c.loop-at.counter c.flatten_statement.new.counter c.args.flats.now
          c.loop-at.flats c.flatten_statement.new.flats w (E.filed.1 c.args.to w.rest w.places w.spans c.loop-at-test.true),
      E.room ∙ c.loop-at.invariant.2,
      E.lent ∙ c.loop-at.invariant.3,
    )

pub flatten_body-returns-clause-filed : goal.flatten_body-returns-clause-filed
flatten_body-returns-clause-filed t c =
    λ p xs s.
    all_filed c.args.records.now c.loop-at.at c.args.to p xs c.args.counter.now c.loop-at.counter c.args.flats.now c.loop-at.flats c.loop-at-test.false
    (c.loop-at.invariant.1 p xs s)

pub flatten_statement-offset_bounds-records-at : goal.flatten_statement-offset_bounds-records-at
flatten_statement-offset_bounds-records-at t c =
    let P = c.requires.sheet in
    let h = span_below c.args.records.now c.args.at P.0 P.1 P.2 P.3 P.4 in
    search rules

pub flatten_statement-bounds-records-at : goal.flatten_statement-bounds-records-at
flatten_statement-bounds-records-at t c = let P = c.requires.sheet in span_below c.args.records.now c.args.at P.0 P.1 P.2 P.3 P.4

pub flatten_statement-returns-in_err-head-in-Loop-clause-filed : goal.flatten_statement-returns-in_err-head-in-Loop-clause-filed
flatten_statement-returns-in_err-head-in-Loop-clause-filed t c =
    let E = c.in_err-head-in-Loop.ensures.opened in
    handed_up _ _ c.from_residual.result c.from_residual.ensures.1 (
      E.0,
      λ b p xs s l.
          loop_over c.args.records.now c.args.at b p xs c.args.counter.now c.args.flats.now (loops-at c.args.records.now c.args.at b p xs c.in-Loop.is s l) E.1,
    )

pub flatten_statement-flatten_body-requires : goal.flatten_statement-flatten_body-requires
flatten_statement-flatten_body-requires t c =
    let P = c.requires.sheet in
    let v = loops-at c.args.records.now c.args.at P.0 P.1 P.2 c.in-Loop.is P.3 P.4 in
    let more : c.args.at < end_at c.args.records.now c.args.at = v.nested.more in
    let k = v.counters in
    let h = P.5 in
    (search rules, ((v.body, v.inside, v.nested.inner, omega arith), omega (arith, c.in_ok-head-in-Loop.ensures.room, c.requires.small)))

pub flatten_statement-returns-in_err-flatten_body-in-Loop-clause-filed : goal.flatten_statement-returns-in_err-flatten_body-in-Loop-clause-filed
flatten_statement-returns-in_err-flatten_body-in-Loop-clause-filed t c =
    let rs = c.args.records.now in
    let O = c.in_ok-head-in-Loop.ensures in
    let E = c.in_err-flatten_body-in-Loop.ensures.filed in
    handed_up _ _ c.from_residual-in_err-flatten_body-in-Loop.result c.from_residual-in_err-flatten_body-in-Loop.ensures.1 (
      E.0,
      λ b p xs s l.
          let v = loops-at rs c.args.at b p xs c.in-Loop.is s l in
          loop_body_over rs c.args.at b p xs c.args.counter.now c.in_ok-head-in-Loop.head (record_at rs c.args.at).place (record_at rs c.args.at).item.source c.args.flats.now
          c.open_loop.new.flats v O.opened O.room (E.1 v.body v.inside v.nested.inner),
    )

pub flatten_statement-end_while-requires : goal.flatten_statement-end_while-requires
flatten_statement-end_while-requires t c =
    let P = c.requires.sheet in
    let v = loops-at c.args.records.now c.args.at P.0 P.1 P.2 c.in-Loop.is P.3 P.4 in
    let O = c.in_ok-head-in-Loop.ensures.opened in
    let w = c.in_ok-flatten_body-in-Loop.ensures.filed v.body v.inside v.nested.inner in
    let a = O.test in
    let b = O.counted in
    let d = w.counted in
    omega arith

pub flatten_statement-returns-in_ok-flatten_body-in-Loop-clause-filed : goal.flatten_statement-returns-in_ok-flatten_body-in-Loop-clause-filed
flatten_statement-returns-in_ok-flatten_body-in-Loop-clause-filed t c =
    let rs = c.args.records.now in
    let a = c.args.at in
    let P = c.requires.sheet in
    let B = c.in_ok-flatten_body-in-Loop.ensures in
    let Z = c.end_while.ensures in (
      (loops-at rs a P.0 P.1 P.2 c.in-Loop.is P.3 P.4).nested.more,
      λ b p xs s l.
          let v = loops-at rs a b p xs c.in-Loop.is s l in
          record {
            rest = v.rest;
            places = v.places;
            spans = v.nested.span;
            left = after_loop rs a b p xs c.args.counter.now c.in_ok-head-in-Loop.head c.flatten_body.new.counter c.args.flats.now
                c.open_loop.new.flats c.flatten_body.new.flats c.end_while.new.flats v c.in_ok-head-in-Loop.ensures.opened (B.filed v.body v.inside v.nested.inner) Z.count
                Z.memory;
          },
    )

pub flatten_statement-returns-in_err-head-in-While-clause-filed : goal.flatten_statement-returns-in_err-head-in-While-clause-filed
flatten_statement-returns-in_err-head-in-While-clause-filed t c =
    let E = c.in_err-head-in-While.ensures.filed in
    handed_up _ _ c.from_residual-in_err-head-in-While.result c.from_residual-in_err-head-in-While.ensures.1 (
      E.0,
      λ b p xs s l.
          while_over c.args.records.now c.args.at b p xs c.args.counter.now c.args.flats.now (whiles-at c.args.records.now c.args.at b p xs c.in-While.is s l) E.1,
    )

pub flatten_statement-flatten_body-requires-in-While : goal.flatten_statement-flatten_body-requires-in-While
flatten_statement-flatten_body-requires-in-While t c =
    let P = c.requires.sheet in
    let v = whiles-at c.args.records.now c.args.at P.0 P.1 P.2 c.in-While.is P.3 P.4 in
    let more : c.args.at < end_at c.args.records.now c.args.at = v.nested.more in
    let k = v.counters in
    let h = P.5 in
    (search rules, ((v.body, v.inside, v.nested.inner, omega arith), omega (arith, c.in_ok-head-in-While.ensures.room, c.requires.small)))

pub flatten_statement-returns-in_err-flatten_body-in-While-clause-filed : goal.flatten_statement-returns-in_err-flatten_body-in-While-clause-filed
flatten_statement-returns-in_err-flatten_body-in-While-clause-filed t c =
    let rs = c.args.records.now in
    let F = c.in_ok-head-in-While.ensures in
    let E = c.in_err-flatten_body-in-While.ensures.filed in
    let x = placed (record_at rs c.args.at).place (flat_of c.block-opened.result role.Written) in
    handed_up _ _ c.from_residual-in_err-flatten_body-in-While.result c.from_residual-in_err-flatten_body-in-While.ensures.1 (
      E.0,
      λ b p xs s l.
          let v = whiles-at rs c.args.at b p xs c.in-While.is s l in
          while_body_over rs c.args.at b p xs c.args.counter.now x c.args.flats.now c.file.new.flats v F.filed.1
          (E.1 v.body v.inside v.nested.inner),
    )

pub flatten_statement-end_while-requires-in-While : goal.flatten_statement-end_while-requires-in-While
flatten_statement-end_while-requires-in-While t c =
    let P = c.requires.sheet in
    let v = whiles-at c.args.records.now c.args.at P.0 P.1 P.2 c.in-While.is P.3 P.4 in
    let F = c.in_ok-head-in-While.ensures.filed in
    let w = c.in_ok-flatten_body-in-While.ensures.filed v.body v.inside v.nested.inner in
    let a = F.0 in
    let b = F.1.counted in
    let d = w.counted in
    omega arith

pub flatten_statement-returns-in_ok-flatten_body-in-While-clause-filed : goal.flatten_statement-returns-in_ok-flatten_body-in-While-clause-filed
flatten_statement-returns-in_ok-flatten_body-in-While-clause-filed t c =
    let rs = c.args.records.now in
    let a = c.args.at in
    let P = c.requires.sheet in
    let F = c.in_ok-head-in-While.ensures in
    let B = c.in_ok-flatten_body-in-While.ensures in
    let Z = c.end_while-in-While.ensures in
    let put : OneFiled (placed (record_at rs a).place (flat_of (statement_of kind.While 0 (record_at rs a).item.source 0 0) role.Written)) c.args.flats.now c.file.new.flats =
    subst (λ (z : Statement). OneFiled (placed (record_at rs a).place (flat_of z role.Written)) c.args.flats.now c.file.new.flats) c.block-opened.ensures F.filed.1 in (
      (whiles-at rs a P.0 P.1 P.2 c.in-While.is P.3 P.4).nested.more,
      λ b p xs s l.
          let v = whiles-at rs a b p xs c.in-While.is s l in
          record {
            rest = v.rest;
            places = v.places;
            spans = v.nested.span;
            left = past_while rs a b p xs c.args.counter.now c.in_ok-head-in-While.head c.flatten_body-in-While.new.counter
                c.args.flats.now c.file.new.flats c.flatten_body-in-While.new.flats c.end_while-in-While.new.flats v F.filed.0 put
                (B.filed v.body v.inside v.nested.inner) Z.count Z.memory;
          },
    )

pub flatten_statement-returns-in_err-file-in_default : goal.flatten_statement-returns-in_err-file-in_default
flatten_statement-returns-in_err-file-in_default t c =
    let E = c.in_err-file-in_default.ensures in
    record {
      filed = handed_up _ _ c.from_residual-in_err-file-in_default.result c.from_residual-in_err-file-in_default.ensures.1 (
        E.filed.0,
        λ b p xs s l.
            assignment_over c.args.records.now c.args.at b p xs c.args.counter.now c.args.flats.now
            (assigns c.args.records.now c.args.at b p xs c.in_default.not-Loop c.in_default.not-While s l) E.filed.1,
      );
      room = E.room;
      lent = E.lent;
    }

pub flatten_statement-returns-in_ok-file-in_default : goal.flatten_statement-returns-in_ok-file-in_default
flatten_statement-returns-in_ok-file-in_default t c =
    let rs = c.args.records.now in
    let a = c.args.at in
    let P = c.requires.sheet in
    let E = c.in_ok-file-in_default.ensures in
    let n = c.len-end.result + 1 in
    let e : n ≡ count c.args.flats.now + 1 = omega (arith, c.len-end.ensures) in
    record {
      filed = (
        (assigns rs a P.0 P.1 P.2 c.in_default.not-Loop c.in_default.not-While P.3 P.4).more,
        λ b p xs s l.
            let v = assigns rs a b p xs c.in_default.not-Loop c.in_default.not-While s l in
            record {
              rest = v.rest;
              places = v.places;
              spans = v.span;
              left = after_assignment rs a b n p xs c.args.counter.now c.args.flats.now c.file-in_default.new.flats v e E.filed.1;
            },
      );
      room = E.room;
      lent = E.lent;
    }
