use Rattle.std.proofs.Common.{◌≡◌, slice_index, subst, sym, ◌∙◌, arith}
use Rattle.std.proofs.lemmas.List.Elements.{All-get_or}
use Rattle.alpha_image.specs.Parts.{IsCodeWord}
use Rattle.alpha_image.proofs.image.code_word.Goals as goal

pub returns-then-n-words-clause-table : goal.returns-then-n-words-clause-table
returns-then-n-words-clause-table c =
    let p = c.args.image.now in
    let same : slice_index p.words c.args.n ≡ c.encode.result.0 = c.insn_at.ensures.word ∙ sym c.encode.ensures.value in
    subst (IsCodeWord p.level) same
    (All-get_or (IsCodeWord p.level) p.words c.args.n 0 (omega arith) c.insn_at.ensures.good.words)
