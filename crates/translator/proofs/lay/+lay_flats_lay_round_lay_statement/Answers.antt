use Rattle.std.proofs.Common.{◌<◌, ◌≤◌, length, ap, ◌∙◌, subst, arith, rules}
use Rattle.std.proofs.lemmas.Result.{MatchResult-weaker}
use Rattle.translator.specs.declared.types.Operation.TheVariants.{If}
use Rattle.translator.specs.JumpCode.{instruction}
use Rattle.translator.specs.declared.types.Operation.{Operation}
use Rattle.translator.specs.Drafts.{Appended}
use Rattle.translator.proofs.Results.{handed_up}
use Rattle.translator.proofs.CodeLaid.{flat_at, end_at, operation_at, span_below, end_within, single, looped, appended_room, after_single, past_while, still_open, all_laid, more_laid, no_room_later, single_no_room, test_no_room, round_no_room, jump_no_room}
use Rattle.translator.proofs.lay.+lay_flats_lay_round_lay_statement.Goals as goal

pub lay_flats-lay_statement-requires : goal.lay_flats-lay_statement-requires
lay_flats-lay_statement-requires t c =
    let w = c.loop-at.invariant.1 c.requires.0 c.requires.1 in
    let low : c.args.from ≤ c.loop-at.at = c.loop-at.invariant.0 in
    let less = c.loop-at-test.true in
    let high = end_within c.args.flats.now c.loop-at.at c.args.to w.rest w.spans less in
    (search rules, (c.args.to, w.rest, w.spans, less))

pub lay_flats-returns-in_err-at-clause-laid : goal.lay_flats-returns-in_err-at-clause-laid
lay_flats-returns-in_err-at-clause-laid t c =
    let E = c.in_err-at.ensures.laid in
    handed_up _ _ c.from_residual.result c.from_residual.ensures.1 (
      E.0,
      λ f s.
          let w = c.loop-at.invariant.1 f s in
          no_room_later c.args.flats.now c.loop-at.at c.args.to f c.args.draft.now c.loop-at.draft w c.loop-at.invariant.2 (E.1 c.args.to w.rest w.spans c.loop-at-test.true),
    )

pub lay_flats-loop-at-preserved : goal.lay_flats-loop-at-preserved
lay_flats-loop-at-preserved t c =
    let E = c.in_ok-at.ensures in (
      omega (arith, c.loop-at.invariant.0, E.laid.0),
      λ f s.
          let w = c.loop-at.invariant.1 f s in
          more_laid c.args.flats.now c.loop-at.at c.in_ok-at.at c.args.to f c.args.draft.now c.loop-at.draft c.lay_statement.new.draft w
          (E.laid.1 c.args.to w.rest w.spans c.loop-at-test.true),
      E.room ∙ c.loop-at.invariant.2,
      E.lent ∙ c.loop-at.invariant.3,
    )

pub lay_flats-returns-clause-laid : goal.lay_flats-returns-clause-laid
lay_flats-returns-clause-laid t c =
    λ f s. all_laid c.args.flats.now c.loop-at.at c.args.to f c.args.draft.now c.loop-at.draft c.loop-at-test.false (c.loop-at.invariant.1 f s)

pub lay_round-returns-clause-laid : goal.lay_round-returns-clause-laid
lay_round-returns-clause-laid t c =
    let B = c.in_ok-lay_flats.ensures in
    MatchResult-weaker c.lay.result c.lay.ensures.laid
    (λ x h. λ f s. record { between = c.lay_flats.new.draft; body = B.laid f s; back = h })
    (λ e h. (h.0, λ f s. jump_no_room f c.args.draft.now c.lay_flats.new.draft (B.laid f s) B.room h.1))

pub lay_statement-offset_bounds-flats-at : goal.lay_statement-offset_bounds-flats-at
lay_statement-offset_bounds-flats-at t c =
    let h = span_below c.args.flats.now c.args.at c.requires.0 c.requires.1 c.requires.2 c.requires.3 in
    search rules

pub lay_statement-bounds-flats-at : goal.lay_statement-bounds-flats-at
lay_statement-bounds-flats-at t c = span_below c.args.flats.now c.args.at c.requires.0 c.requires.1 c.requires.2 c.requires.3

pub lay_statement-returns-in_err-jump-in-While-clause-laid : goal.lay_statement-returns-in_err-jump-in-While-clause-laid
lay_statement-returns-in_err-jump-in-While-clause-laid t c =
    let E = c.in_err-jump-in-While.ensures.laid in
    handed_up _ _ c.from_residual.result c.from_residual.ensures.1 (E.0, λ b f s l. test_no_room c.args.flats.now c.args.at b f c.args.draft.now (looped c.args.flats.now c.args.at b f c.in-While.is s l) E.1)

pub lay_statement-lay_round-requires : goal.lay_statement-lay_round-requires
lay_statement-lay_round-requires t c =
    let v = looped c.args.flats.now c.args.at c.requires.0 c.requires.1 c.in-While.is c.requires.2 c.requires.3 in
    let more : c.args.at < end_at c.args.flats.now c.args.at = v.more in
    (search rules, (v.body, v.inner))

pub lay_statement-returns-in_err-close-in-Ok-clause-laid : goal.lay_statement-returns-in_err-close-in-Ok-clause-laid
lay_statement-returns-in_err-close-in-Ok-clause-laid t c =
    let rs = c.args.flats.now in
    let a = c.args.at in
    let v = looped c.args.flats.now c.args.at c.requires.0 c.requires.1 c.in-While.is c.requires.2 c.requires.3 in
    let T = c.in_ok-jump-in-While.ensures in
    absurd (c.in_err-close-in-Ok.ensures.closed.1
    (still_open (flat_at rs a).statement.source c.in_ok-jump-in-While.jump.at c.next_label-label.result (flat_at rs a).role v.body c.args.draft.now c.test.new.self c.lay_round.new.draft
    (record { here = T.laid.0; top = c.next_label-label.ensures; test = T.laid.1; round = c.in-Ok.ensures.laid v.body v.inner })))

pub lay_statement-returns-in-Err-clause-laid : goal.lay_statement-returns-in-Err-clause-laid
lay_statement-returns-in-Err-clause-laid t c =
    let x = instruction (flat_at c.args.flats.now c.args.at).role (If (flat_at c.args.flats.now c.args.at).statement.source 0) in
    let E = c.in-Err.ensures.laid in (
      E.0,
      λ b f s l.
          let v = looped c.args.flats.now c.args.at b f c.in-While.is s l in
          round_no_room c.args.flats.now c.args.at b f x c.args.draft.now c.test.new.self v c.in_ok-jump-in-While.ensures.laid.1 (E.1 v.body v.inner),
    )

pub lay_statement-returns-in_ok-close-in-Ok-clause-laid : goal.lay_statement-returns-in_ok-close-in-Ok-clause-laid
lay_statement-returns-in_ok-close-in-Ok-clause-laid t c =
    let rs = c.args.flats.now in
    let a = c.args.at in
    let T = c.in_ok-jump-in-While.ensures in (
      (looped rs a c.requires.0 c.requires.1 c.in-While.is c.requires.2 c.requires.3).more,
      λ b f s l.
          let v = looped rs a b f c.in-While.is s l in
          record {
            rest = v.rest;
            spans = v.span;
            left = past_while rs a b c.in_ok-jump-in-While.jump.at c.next_label-label.result f c.args.draft.now c.test.new.self c.lay_round.new.draft c.close.new.draft v
                (record { here = T.laid.0; top = c.next_label-label.ensures; test = T.laid.1; round = c.in-Ok.ensures.laid v.body v.inner })
                c.in_ok-close-in-Ok.ensures.closed.1;
          },
    )

pub lay_statement-returns-in_err-lay-in_default : goal.lay_statement-returns-in_err-lay-in_default
lay_statement-returns-in_err-lay-in_default t c =
    let E = c.in_err-lay-in_default.ensures in
    record {
      laid = handed_up _ _ c.from_residual-in_err-lay-in_default.result c.from_residual-in_err-lay-in_default.ensures.1 (
        E.laid.0,
        λ b f s l. single_no_room c.args.flats.now c.args.at b f c.args.draft.now (single c.args.flats.now c.args.at b f c.in_default.not-While s l) E.laid.1,
      );
      room = ap length E.laid.2.filled;
      lent = E.lent;
    }

pub lay_statement-returns-in_ok-lay-in_default : goal.lay_statement-returns-in_ok-lay-in_default
lay_statement-returns-in_ok-lay-in_default t c =
    let rs = c.args.flats.now in
    let a = c.args.at in
    let E = c.in_ok-lay-in_default.ensures in
    let put : Appended (operation_at rs a) c.args.draft.now c.lay.new.self =
    subst (λ (o : Operation). Appended (instruction (flat_at rs a).role o) c.args.draft.now c.lay.new.self) c.assignment.ensures E.laid in
    record {
      laid = (
        (single rs a c.requires.0 c.requires.1 c.in_default.not-While c.requires.2 c.requires.3).more,
        λ b f s l.
            let v = single rs a b f c.in_default.not-While s l in
            record { rest = v.rest; spans = v.span; left = after_single rs a b f c.args.draft.now c.lay.new.self v put },
      );
      room = appended_room (operation_at rs a) c.args.draft.now c.lay.new.self put;
      lent = E.lent;
    }
