use Rattle.alpha_text.specs.declared.head.Head.TheVariants as heads
use Rattle.alpha_text.specs.SuffixWords.{Says}
use Rattle.alpha_quick.specs.Parts.{SaysNamed}
use Rattle.alpha_quick.specs.InsnPrefix.{PrefixSays}
use Rattle.alpha_quick.proofs.LexemeMeanings.{IfSome-implied, PrefixSays-insn, PrefixSays-weaker, SaysBy-insn}
use Rattle.alpha_quick.proofs.LexemeMeanings.{SaysBy-pseudo_op}
use Rattle.alpha_quick.proofs.line.insn_prefix_of.Goals as goal

pub returns-in-Some : goal.returns-in-Some
returns-in-Some c =
    IfSome-implied (PrefixSays (Says c.in-Some.row c.in_ok-words.words.now))
    (PrefixSays (SaysNamed c.args.lexeme.now.name.now c.args.lexeme.now.rest.now)) c.of_row.result
    (λ l h. PrefixSays-weaker (Says c.in-Some.row c.in_ok-words.words.now)
    (SaysNamed c.args.lexeme.now.name.now c.args.lexeme.now.rest.now) l
    (λ s k. (
      heads.Insn c.in-Some.row,
      c.in-Some.ensures,
      c.in_ok-words.ensures.0,
      SaysBy-insn c.in-Some.row c.args.lexeme.now.rest.now c.in_ok-words.words.now s c.in_ok-words.ensures.1 k,
    )) h) c.of_row.ensures

pub returns-in_ok-insn-in-None : goal.returns-in_ok-insn-in-None
returns-in_ok-insn-in-None c =
    PrefixSays-insn (SaysNamed c.args.lexeme.now.name.now c.args.lexeme.now.rest.now) c.without_label.result
    c.in_ok-insn-in-None.insn c.without_label.ensures.insn c.without_label.ensures.whole (
      heads.PseudoOp c.in_ok-pseudo_op-in-None.pseudo_op,
      c.in_ok-pseudo_op-in-None.ensures,
      c.in_ok-words.ensures.0,
      SaysBy-pseudo_op c.in_ok-pseudo_op-in-None.pseudo_op c.args.lexeme.now.rest.now c.in_ok-words.words.now
          c.in_ok-insn-in-None.insn
          c.in_ok-words.ensures.1 c.in_ok-insn-in-None.ensures,
    )
