use Rattle.std.proofs.Common.{◌≡◌, ◌+◌, length, sym, refl, subst, ◌∙◌, ap, ⊎_elim, arith, rules}
use Rattle.std.proofs.lemmas.Result.{err_from_is_err_and}
use Rattle.std.specs.List.{prefix_len, between}
use Rattle.std.specs.Char.{is_ascii_alphanumeric}
use Rattle.reader.specs.Lexing.{is_blank, Stray}
use Rattle.reader.specs.Symbols.{placed}
use Rattle.reader.specs.declared.types.Placed.{Placed}
use Rattle.reader.specs.declared.types.Refusal.{Refusal}
use Rattle.reader.specs.declared.types.Refusal.TheVariants.{StrayByte}
use Rattle.reader.proofs.Tokens.{skip_fits, skipped, skip_stops, read_at_end, run_part, mark_found, mark_missed, stray_here}
use Rattle.reader.proofs.lexer.next_token.Goals as goal

pub overflow_add-place : goal.overflow_add-place
overflow_add-place c =
    let n = c.blanks.ensures ∙ ap (prefix_len is_blank) c.tail.ensures in
    let h = skip_fits c.args.text.now c.args.from c.blanks.result n in
    ⊎_elim (λ a. search rules) (λ a. search rules) h

pub returns-then-place-text : goal.returns-then-place-text
returns-then-place-text c =
    let n = c.blanks.ensures ∙ ap (prefix_len is_blank) c.tail.ensures in
    read_at_end c.args.text.now c.args.from _ (skipped c.args.text.now c.args.from c.blanks.result n) c.if-place-text.true

pub returns-then-length-gt0 : goal.returns-then-length-gt0
returns-then-length-gt0 c =
    let text = c.args.text.now in
    let place = c.args.from + c.blanks.result in
    let n = c.blanks.ensures ∙ ap (prefix_len is_blank) c.tail.ensures in
    let w = c.word_token-item.ensures in
    (skipped text c.args.from c.blanks.result n, w.stands _ (run_part text place (omega arith) c.word_length-length.result c.word_length-length.ensures (omega arith)), w.sorted)

pub returns-in_err-item : goal.returns-in_err-item
returns-in_err-item c =
    let text = c.args.text.now in
    let place = c.args.from + c.blanks.result in
    let n = c.blanks.ensures ∙ ap (prefix_len is_blank) c.tail.ensures in
    let p = err_from_is_err_and c.from_residual.result c.from_residual.ensures.1 in
    let e = c.in_err-item.field-0.0 in
    let m = mark_missed text place (omega arith) c.mark.result (placed place StrayByte) e c.mark.ensures c.in_err-item.ensures.value in
    let z : 0 ≡ prefix_len is_ascii_alphanumeric (between place (length text) text) = let l = c.word_length-length.ensures in omega arith in
    let s = stray_here text place (omega arith) (skipped text c.args.from c.blanks.result n) (skip_stops text c.args.from c.blanks.result n (omega arith)) z m.0 in
    rw (p.1, p.2) (subst (λ (f : Placed Refusal). Stray text c.args.from f.place × (f.item ≡ StrayByte)) (sym m.1) (s, refl))

pub returns : goal.returns
returns c =
    let text = c.args.text.now in
    let place = c.args.from + c.blanks.result in
    let n = c.blanks.ensures ∙ ap (prefix_len is_blank) c.tail.ensures in
    let m = mark_found text place (omega arith) c.mark.result _ c.in_ok-item.item c.mark.ensures c.in_ok-item.ensures.value in
    (skipped text c.args.from c.blanks.result n, m.0, m.1)
