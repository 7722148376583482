use Rattle.std.proofs.Common.{◌≡◌, ◌++◌, refl, ap}
use Rattle.alpha_token.specs.Tokens.{tokens}
use Rattle.alpha_table.specs.Names.{name_of}
use Rattle.alpha_text.specs.declared.head.Head.TheVariants as heads
use Rattle.alpha_text.specs.Heads.{pseudo_op_name}
use Rattle.alpha_text.specs.SuffixWords.{Says}
use Rattle.alpha_text.specs.Statements.{code}
use Rattle.alpha_quick.specs.InsnPrefix.{PrefixSays, HasStatement}
use Rattle.alpha_quick.specs.TerminatedLine.{rest_from}
use Rattle.alpha_quick.proofs.LexemeMeanings.{IfSome-implied, PrefixSays-weaker, PrefixSays-insn, SaysBy-insn}
use Rattle.alpha_quick.proofs.LexemeMeanings.{SaysBy-pseudo_op}
use Rattle.alpha_quick.proofs.Parts.{line_of-named}
use Rattle.alpha_quick.proofs.terminated_line.TerminatedLine.insn_prefix.Goals as goal

pub returns-in-Some : goal.returns-in-Some
returns-in-Some c =
    let s = c.args.self.now in
    let row = c.in-Some.row in
    let end = c.in_ok-end.end in
    let words = rest_from s c.in_ok-words.words in
    let line : tokens (rest_from c.args.self.now c.args.start)
    ≡ tokens (name_of c.in-Some.row ++ rest_from c.args.self.now c.in_ok-end.end) =
    ap tokens (c.in_ok-end.ensures.key (name_of row) c.in-Some.ensures) in
    IfSome-implied (PrefixSays (Says row words)) (PrefixSays (HasStatement (rest_from s c.args.start))) c.of_row.result
    (λ l h. PrefixSays-weaker (Says row words) (HasStatement (rest_from s c.args.start)) l
    (λ t k. line_of-named (rest_from s c.args.start) (name_of row) (rest_from s end) t line (
      heads.Insn row,
      refl,
      c.in_ok-words.ensures.apart,
      SaysBy-insn row (rest_from s end) words t c.in_ok-words.ensures.line k,
    )) h) c.of_row.ensures

pub returns-in_ok-insn-in-None : goal.returns-in_ok-insn-in-None
returns-in_ok-insn-in-None c =
    let s = c.args.self.now in
    let end = c.in_ok-end.end in
    let words = rest_from s c.in_ok-words.words in
    let (pseudo_op, is, stands) = c.in_ok-insn-in-None.ensures in
    PrefixSays-insn (HasStatement (rest_from s c.args.start)) c.without_label.result c.in_ok-insn-in-None.insn
    c.without_label.ensures.insn
    c.without_label.ensures.whole
    (line_of-named (rest_from s c.args.start) (pseudo_op_name pseudo_op) (rest_from s end)
    (code c.in_ok-insn-in-None.insn)
    (ap tokens is) (
      heads.PseudoOp pseudo_op,
      refl,
      c.in_ok-words.ensures.apart,
      SaysBy-pseudo_op pseudo_op (rest_from s end) words c.in_ok-insn-in-None.insn c.in_ok-words.ensures.line stands,
    ))
