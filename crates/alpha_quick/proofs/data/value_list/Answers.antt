use Rattle.std.proofs.Common.{sym, subst}
use Rattle.alpha_text.specs.declared.head.Head.TheVariants as heads
use Rattle.alpha_text.specs.Statements.{values}
use Rattle.alpha_text.specs.SuffixWords.{SaysBy}
use Rattle.alpha_quick.proofs.Directives.{says_values}
use Rattle.alpha_quick.proofs.data.value_list.Goals as goal

pub returns : goal.returns
returns c =
    subst (λ l. SaysBy (heads.PseudoOp c.args.pseudo_op) c.args.text.now (values c.in_ok-bytes.bytes l))
    (sym c.list_in-list.ensures)
    (says_values c.args.pseudo_op c.in_ok-bytes.bytes c.in_ok-bytes.piece c.args.text.now c.args.words.now
    c.in_ok-rest.rest.now (sym c.in_ok-bytes.ensures) c.requires c.in_ok-rest.ensures)
