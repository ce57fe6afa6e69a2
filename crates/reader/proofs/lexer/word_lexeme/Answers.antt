use Rattle.std.proofs.Common.{ap, codes, nat_eq, ◌∙◌}
use Rattle.std.specs.Cmp.Lexicographic.{pointwise}
use Rattle.reader.specs.Text.{word_loop, word_while, word_do, word_end}
use Rattle.reader.proofs.Words.{is_word, not_word, told_register}
use Rattle.reader.proofs.lexer.word_lexeme.Goals as goal

pub returns-then-eq : goal.returns-then-eq
returns-then-eq c =
    let w = c.args.word.now in
    (is_word w (codes "LOOP") c.eq.result (c.eq.ensures ∙ ap (pointwise nat_eq w) c.as_slice.ensures) word_loop c.if-eq.true, λ n f. elim f [ ])

pub returns-then-eq-2 : goal.returns-then-eq-2
returns-then-eq-2 c =
    let w = c.args.word.now in
    (is_word w (codes "WHILE") c.eq-else-eq.result (c.eq-else-eq.ensures ∙ ap (pointwise nat_eq w) c.as_slice-else-eq.ensures) word_while c.if-eq-2.true, λ n f. elim f [ ])

pub returns-then-eq-3 : goal.returns-then-eq-3
returns-then-eq-3 c =
    let w = c.args.word.now in
    (is_word w (codes "DO") c.eq-else-eq-2.result (c.eq-else-eq-2.ensures ∙ ap (pointwise nat_eq w) c.as_slice-else-eq-2.ensures) word_do c.if-eq-3.true, λ n f. elim f [ ])

pub returns-then-eq-4 : goal.returns-then-eq-4
returns-then-eq-4 c =
    let w = c.args.word.now in
    (is_word w (codes "END") c.eq-else-eq-3.result (c.eq-else-eq-3.ensures ∙ ap (pointwise nat_eq w) c.as_slice-else-eq-3.ensures) word_end c.if-eq-4.true, λ n f. elim f [ ])

pub returns-else-eq-4 : goal.returns-else-eq-4
returns-else-eq-4 c =
    let w = c.args.word.now in
    told_register c.requires
    (not_word w (codes "LOOP") c.eq.result (c.eq.ensures ∙ ap (pointwise nat_eq w) c.as_slice.ensures) c.if-eq.false)
    (not_word w (codes "WHILE") c.eq-else-eq.result (c.eq-else-eq.ensures ∙ ap (pointwise nat_eq w) c.as_slice-else-eq.ensures) c.if-eq-2.false)
    (not_word w (codes "DO") c.eq-else-eq-2.result (c.eq-else-eq-2.ensures ∙ ap (pointwise nat_eq w) c.as_slice-else-eq-2.ensures) c.if-eq-3.false)
    (not_word w (codes "END") c.eq-else-eq-3.result (c.eq-else-eq-3.ensures ∙ ap (pointwise nat_eq w) c.as_slice-else-eq-3.ensures) c.if-eq-4.false)
    c.register.ensures
