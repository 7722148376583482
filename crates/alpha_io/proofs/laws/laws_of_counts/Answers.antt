use Rattle.alpha_io.proofs.FaultCounts.{Faulted-next_count, Faulted-later, Faulted-earlier, Faulted-not_NoFault}
use Rattle.alpha_io.proofs.FaultCounts.{NoFault-from_same, NoFault-first, NoFault-second, NoFault-trans}
use Rattle.alpha_io.proofs.laws.laws_of_counts.Goals as goal

pub returns : goal.returns
returns c = record {
  next = Faulted-next_count;
  later = Faulted-later;
  earlier = Faulted-earlier;
  apart = Faulted-not_NoFault;
  one_of_two = NoFault-from_same;
  first = NoFault-first;
  second = NoFault-second;
  both = NoFault-trans;
}
