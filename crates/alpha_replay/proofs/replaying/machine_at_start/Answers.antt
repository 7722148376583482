use Rattle.std.proofs.Common.{◌≡◌, sym, subst}
use Rattle.alpha_seq.specs.declared.machine.Machine.{Machine}
use Rattle.alpha_seq.specs.Start.{start}
use Rattle.alpha_seq.specs.Machine.{program_of, state_of}
use Rattle.alpha_replay.proofs.replaying.machine_at_start.Goals as goal

pub returns-in-Ok-clause-fresh : goal.returns-in-Ok-clause-fresh
returns-in-Ok-clause-fresh c = record {
  nothing_pending = c.with_rows-wild.ensures.pending;
  start =
      subst (λ (m : Machine). state_of m ≡ start (program_of m)) (sym c.with_rows-wild.ensures.machine)
      c.in-Ok.ensures.start;
}
