use Rattle.std.proofs.Common.{sym, subst}
use Rattle.alpha_text.specs.declared.head.Head.TheVariants as heads
use Rattle.alpha_text.specs.declared.head.PseudoOp.TheVariants as owns
use Rattle.alpha_text.specs.Statements.{values}
use Rattle.alpha_text.specs.SuffixWords.{SaysBy}
use Rattle.alpha_quick.proofs.Directives.{says_address}
use Rattle.alpha_quick.proofs.data.address_list.Goals as goal

pub returns-then-is_end : goal.returns-then-is_end
returns-then-is_end c =
    subst (λ l. SaysBy (heads.PseudoOp owns.Quad) c.args.text.now (values 8 l)) (sym c.list_in-list.ensures)
    (says_address c.args.text.now c.args.words.now c.in_ok-rest.rest.now _ _ c.requires c.in_ok-rest.ensures
    (c.is_end.ensures c.if-is_end.true))
