use Rattle.std.proofs.Common.{Some, None, sym}
use Rattle.alpha_text.proofs.NameLookups.{head_of-insn, head_of-pseudo_op}
use Rattle.alpha_text.proofs.head.Head.of.Goals as goal

pub returns-in-Some : goal.returns-in-Some
returns-in-Some c = sym (head_of-insn c.args.name.now c.in-Some.found c.in-Some.ensures.found)

pub returns-in-Some-of : goal.returns-in-Some-of
returns-in-Some-of c =
    sym
    (head_of-pseudo_op c.args.name.now (Some c.in-Some-of.pseudo_op) c.in-None.ensures.none (sym c.in-Some-of.ensures))

pub returns-in-None-of : goal.returns-in-None-of
returns-in-None-of c = sym (head_of-pseudo_op c.args.name.now None c.in-None.ensures.none (sym c.in-None-of.ensures))
