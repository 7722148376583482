use Rattle.std.proofs.Common.{ℕ, List, take}
use Rattle.alpha_debug.specs.declared.debugger.SessionState.TheVariants.{Continues}
use Rattle.alpha_debug.specs.Effects.{Remains, IsPendingLine, FeedsBytes, Carries}
use Rattle.alpha_debug.specs.OutputChange.{output_change}
use Rattle.alpha_debug.proofs.script.feed.Given as goal

-- the bytes so far were heard
abbrev pub invariant-loop-byte : goal.invariant-loop-byte
invariant-loop-byte g l = record {
  same : Remains l.initial.debugger l.debugger;
  hears : (begun : List ℕ) → IsPendingLine begun l.initial.pending.items
      → FeedsBytes (take l.byte-index l.bytes) begun Continues l.initial.debugger l.debugger l.pending.items
      (output_change g.K.Sink l.initial.out l.initial.debugger.watcher.block l.out l.debugger.watcher.block);
  carries : (begun : List ℕ) → IsPendingLine begun l.initial.pending.items
      → Carries g.K.Sink (take l.byte-index l.bytes) begun Continues l.initial.debugger l.debugger l.pending.items
      l.initial.out l.out;
}
