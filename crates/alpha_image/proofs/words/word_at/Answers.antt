use Rattle.std.proofs.Common.{sym, ◌∙◌}
use Rattle.alpha_image.proofs.CodeWords.{get_or-words_of}
use Rattle.alpha_image.proofs.words.word_at.Goals as goal

pub returns : goal.returns
returns c =
    record { value = c.longword_at.ensures.value ∙ sym (get_or-words_of c.args.code.now c.args.place c.requires) }
