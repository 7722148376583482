use Rattle.std.proofs.Common.{◌≡◌, ◌+◌, ℕ, Some, map, take, ap, sym, ◌∙◌, get_or, arith, below_more, true, false}
use Rattle.std.proofs.lemmas.Grind.{common_steps}
use Rattle.alpha_table.specs.Decoded.{decoded}
use Rattle.alpha_image.specs.Reading.{words_of}
use Rattle.alpha_image.specs.ImageFault.{is_there}
use Rattle.alpha_image.proofs.CodeWords.{length-words_of, word_fault-first, word_fault-none}
use Rattle.alpha_image.proofs.CodeInsns.{decoded-next_word}
use Rattle.alpha_image.proofs.words.read_words.Goals as goal

pub returns-in_default-insn_at-clause-fault : goal.returns-in_default-insn_at-clause-fault
returns-in_default-insn_at-clause-fault c =
    let words = words_of c.args.code.now in
    let same : c.word_at-word.result.0 ≡ get_or words c.loop-place.place 0 = c.word_at-word.ensures.value in
    let here : is_there c.args.level (decoded (get_or words c.loop-place.place 0)) ≡ false =
    ap (λ (w : ℕ). is_there c.args.level (decoded w)) (sym same) ∙ sym c.in_default-insn_at.ensures.value in
    rw (c.bad_word.ensures, same)
    (word_fault-first c.args.level words _
    (omega (arith, length-words_of c.args.code.now)) c.loop-place.invariant.inside here)

pub loop-place-preserved : goal.loop-place-preserved
loop-place-preserved c =
    let words = words_of c.args.code.now in
    let at = c.loop-place.place in
    let same : c.word_at-word.result.0 ≡ get_or words at 0 = c.word_at-word.ensures.value in
    let there : is_there c.args.level (decoded (get_or words at 0)) ≡ true =
    ap (λ (w : ℕ). is_there c.args.level (decoded w)) (sym same) ∙ sym c.in-Some.ensures.value in
    let here : decoded (get_or words at 0) ≡ Some c.in-Some.insn = ap decoded (sym same) ∙ c.in-Some.ensures.found in
    record {
      inside = below_more _ _ c.loop-place.invariant.inside there;
      read =
          decoded-next_word words c.loop-place.insns.items at c.in-Some.insn
          (omega (arith, length-words_of c.args.code.now)) c.loop-place.invariant.read here
          ∙ ap (map Some) (sym c.push_reserved.ensures.items);
      count = c.push_reserved.ensures.len ∙ ap (λ (n : ℕ). n + 1) c.loop-place.invariant.count;
      room = rw c.push_reserved.ensures.capacity c.loop-place.invariant.room;
    }

pub returns-clause-fault : goal.returns-clause-fault
returns-clause-fault c =
    let words = words_of c.args.code.now in
    word_fault-none c.args.level words
    (λ k h. c.loop-place.invariant.inside k (omega (arith, length-words_of c.args.code.now)))

pub returns-clause-insns : goal.returns-clause-insns
returns-clause-insns c =
    let words = words_of c.args.code.now in
    let size = length-words_of c.args.code.now in
    let whole : take c.loop-place.place words ≡ words = grind (arith, common_steps) in
    ap (map decoded) (sym whole) ∙ c.loop-place.invariant.read
