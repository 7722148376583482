use Rattle.std.proofs.Common.{true, false, Some, ap, sym, ◌∙◌}
use Rattle.alpha_seq.proofs.ExecutedInsns.{class_here-insn}
use Rattle.alpha_imprecise.specs.Step.{trap_destination}
use Rattle.alpha_imprecise.proofs.NextInsns.{triggers-here}
use Rattle.alpha_imprecise.proofs.look.overflow_of.Goals as goal

pub returns-in_err-rc-clause-none : goal.returns-in_err-rc-clause-none
returns-in_err-rc-clause-none c =
    rw c.from_residual.ensures
    (triggers-here c.args.machine.now (Some c.args.insn.now) false c.requires c.in_err-rc.ensures.none)

pub returns-clause-found : goal.returns-clause-found
returns-clause-found c =
    let m = c.args.machine.now in
    record {
      at = sym c.place_of.ensures.value ∙ c.in_ok-place.was;
      overflows = triggers-here m (Some c.args.insn.now) true c.requires c.in_ok-rc.ensures.found;
      into = ap trap_destination (class_here-insn m (Some c.args.insn.now) c.requires) ∙ c.in_ok-rc.ensures.into;
    }
