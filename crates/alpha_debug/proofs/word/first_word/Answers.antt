use Rattle.alpha_debug.proofs.LineWords.{words-first_word}
use Rattle.alpha_debug.proofs.word.first_word.Goals as goal

pub returns : goal.returns
returns c =
    words-first_word c.args.line.now c.without_blanks-line.result.now c.split_at.result.0.now c.split_at.result.1.now
    c.word_len-len.result c.without_blanks-line.ensures.value c.word_len-len.ensures.value c.split_at.ensures.front
    c.split_at.ensures.back
