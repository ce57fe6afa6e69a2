use Rattle.std.proofs.Common.{refl}
use Rattle.reader.specs.Words.{a_word}
use Rattle.reader.proofs.Tokens.{word_part}
use Rattle.reader.proofs.word.word_at.Goals as goal

pub returns-then-begins_word : goal.returns-then-begins_word
returns-then-begins_word c =
    let b = c.begins_word.ensures.0 c.if-begins_word.true in
    let p = word_part c.args.text.now c.args.place b.inside c.word_length-length.result b.alnum c.word_length-length.ensures in
    a_word b p.0 refl p.1
