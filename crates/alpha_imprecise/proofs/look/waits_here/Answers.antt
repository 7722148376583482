use Rattle.std.proofs.Common.{ap, [], ⊎_elim}
use Rattle.alpha_imprecise.proofs.NextInsns.{insn_while_pending, waits-found, waits-none}
use Rattle.alpha_imprecise.proofs.look.waits_here.Goals as goal

pub returns-in-Outside : goal.returns-in-Outside
returns-in-Outside c =
    let m = c.args.machine.now in
    record {
      found = tt;
      none = waits-none m c.next.result (c.next.ensures.value [])
          (⊎_elim (λ e. ap insn_while_pending e)
          (⊎_elim (λ (i, e). ap insn_while_pending e) (λ (end, e). ap insn_while_pending e)) c.in-Outside.is);
    }

pub returns-in-Plain-clause-found : goal.returns-in-Plain-clause-found
returns-in-Plain-clause-found c =
    let m = c.args.machine.now in
    waits-found m c.next.result c.in-Plain.insn (c.next.ensures.value [])
    (⊎_elim (λ e. ap insn_while_pending e) (λ e. ap insn_while_pending e) c.in-Plain.is)
