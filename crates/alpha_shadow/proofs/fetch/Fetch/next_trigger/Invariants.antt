use Rattle.std.proofs.Common.{◌≡◌, ◌+◌, ◌≤◌, length}
use Rattle.alpha_shadow.specs.NoTrigger.{AreNoTriggers}
use Rattle.alpha_shadow.proofs.fetch.Fetch.next_trigger.Given as goal

abbrev pub invariant-loop-place : goal.invariant-loop-place
invariant-loop-place g l = record {
  same : g.Self.Fetch.code l.self ≡ g.Self.Fetch.code l.initial.self;
  words : l.place-end ≡ length (g.Self.Fetch.code l.self);
  quiet : AreNoTriggers (g.Self.Fetch.code l.self) l.from l.place;
  looked : g.Self.Fetch.fetches l.self + l.from ≤ g.Self.Fetch.fetches l.initial.self + l.place;
}
