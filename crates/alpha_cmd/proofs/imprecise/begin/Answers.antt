use Rattle.std.proofs.Common.{◌≡◌, ◌∙◌, sym, ap, subst}
use Rattle.alpha_seq.specs.declared.machine.Machine.{Machine}
use Rattle.alpha_seq.specs.State.{Program}
use Rattle.alpha_seq.specs.Start.{start}
use Rattle.alpha_seq.specs.Machine.{program_of, state_of}
use Rattle.alpha_cmd.specs.Chooser.{ahead_in}
use Rattle.alpha_cmd.specs.Commands.Imprecise.{plan_by}
use Rattle.alpha_cmd.proofs.imprecise.begin.Goals as goal

pub returns-in-Ok-clause-ok : goal.returns-in-Ok-clause-ok
returns-in-Ok-clause-ok c =
    let image : c.with_rows-wild.result.machine.image ≡ c.args.plan.image =
    ap (λ (m : Machine). m.image) c.with_rows-wild.ensures.machine
    ∙ ap (λ (p : Program). p.image) c.in-Ok.ensures.program in
    λ i. plan_by (image i) (ahead_in (c.new-chooser.ensures.chooser i))

pub returns-in-Ok-clause-begun : goal.returns-in-Ok-clause-begun
returns-in-Ok-clause-begun c =
    let m = c.with_rows-wild.ensures.machine in
    record {
      fresh = record {
        nothing_pending = c.with_rows-wild.ensures.pending;
        start = subst (λ (m : Machine). state_of m ≡ start (program_of m)) (sym m) c.in-Ok.ensures.start;
      };
      completion = ap (λ (m : Machine). m.completion) m ∙ ap (λ (p : Program). p.completion) c.in-Ok.ensures.program;
      none = c.new-chooser.ensures.drawn;
    }
