use Rattle.std.proofs.Common.{◌≡◌, ℕ, ap, sym, ◌∙◌, get_or, arith, below_more, true, false, not}
use Rattle.alpha_table.specs.Decoded.{decoded}
use Rattle.alpha_image.specs.Reading.{words_of}
use Rattle.alpha_image.specs.ImageFault.{is_there}
use Rattle.alpha_image.proofs.CodeWords.{length-words_of, word_fault-first, word_fault-none}
use Rattle.alpha_image.proofs.words.fault_without_memory.Goals as goal

pub returns-then-is_none : goal.returns-then-is_none
returns-then-is_none c =
    let words = words_of c.args.code.now in
    let same : c.word_at-word.result.0 ≡ get_or words c.loop-place.place 0 = c.word_at-word.ensures.value in
    let here : is_there c.args.level (decoded (get_or words c.loop-place.place 0)) ≡ false =
    ap (λ (w : ℕ). is_there c.args.level (decoded w)) (sym same)
    ∙ (sym c.insn_at.ensures.value ∙ (c.is_none.ensures ∙ ap not c.if-is_none.true)) in
    rw same
    (word_fault-first c.args.level words _ (omega (arith, length-words_of c.args.code.now)) c.loop-place.invariant here)

pub loop-place-preserved : goal.loop-place-preserved
loop-place-preserved c =
    let words = words_of c.args.code.now in
    let same : c.word_at-word.result.0 ≡ get_or words c.loop-place.place 0 = c.word_at-word.ensures.value in
    let here : is_there c.args.level (decoded (get_or words c.loop-place.place 0)) ≡ true =
    ap (λ (w : ℕ). is_there c.args.level (decoded w)) (sym same)
    ∙ (sym c.insn_at.ensures.value ∙ (c.is_none.ensures ∙ ap not c.if-is_none.false)) in
    below_more _ _ c.loop-place.invariant here

pub returns : goal.returns
returns c =
    let words = words_of c.args.code.now in
    word_fault-none c.args.level words
    (λ k h. c.loop-place.invariant k (omega (arith, length-words_of c.args.code.now)))
