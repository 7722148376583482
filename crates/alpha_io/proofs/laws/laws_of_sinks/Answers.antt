use Rattle.alpha_io.proofs.Sinks.{Puts-none, Puts-then, WritesPartly-then, WritesPartly-whole, WritesPartly-more}
use Rattle.alpha_io.proofs.Sinks.{HasFailed-not_HasNoFault}
use Rattle.alpha_io.proofs.laws.laws_of_sinks.Goals as goal

pub returns : goal.returns
returns c = record {
  none = Puts-none;
  whole = Puts-then;
  part = WritesPartly-then;
  front = WritesPartly-whole;
  more = WritesPartly-more;
  apart = HasFailed-not_HasNoFault;
}
