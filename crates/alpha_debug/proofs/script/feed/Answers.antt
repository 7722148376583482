use Rattle.std.proofs.Common.{◌≡◌, ◌∙◌, ◌+◌, ◌<◌, ◌≤◌, ◌++◌, ℕ, suc, List, [], ◌∷◌, length, get_or, take, drop, refl}
use Rattle.std.proofs.Common.{sym, ap, subst, add-one, arith}
use Rattle.std.proofs.Math.Seq.{take-suc}
use Rattle.std.proofs.lemmas.List.{take_all}
use Rattle.alpha_debug.specs.declared.debugger.SessionState.{SessionState}
use Rattle.alpha_debug.specs.declared.debugger.SessionState.TheVariants.{Continues, Quits}
use Rattle.alpha_debug.specs.Effects.{FeedsBytes, FeedFails, Carries, CarryFails}
use Rattle.alpha_debug.proofs.SinkEffects.{AppendsOutput-none}
use Rattle.alpha_debug.proofs.Scripts.{FeedsBytes-none, FeedsBytes-then, FeedFails-then, FeedsBytes-quit}
use Rattle.alpha_debug.proofs.Scripts.{FeedFails-more, take-get_or-drop}
use Rattle.alpha_debug.proofs.HandedLines.{carries_none, carries_then, carries_quit, carry_fails_then, carry_fails_more}
use Rattle.alpha_debug.specs.OutputChange.{output_change, output_change_by}
use Rattle.alpha_debug.proofs.script.feed.Goals as goal
use Rattle.alpha_io.proofs.FileReplacementLaws.{OnErr-always}

pub loop-byte-init : goal.loop-byte-init
loop-byte-init g c = record {
  same = record { setting = refl; mode = refl };
  hears = λ begun is_held.
      FeedsBytes-none begun c.args.pending.now.items c.args.debugger.now
      (output_change g.K.Sink c.args.out.now c.args.debugger.now.watcher.block
      c.args.out.now c.args.debugger.now.watcher.block)
      is_held
      (AppendsOutput-none g.K.Sink c.args.out.now c.args.debugger.now.watcher.block);
  carries = λ begun is_held.
      carries_none g.K.Sink begun c.args.pending.now.items c.args.debugger.now c.args.out.now is_held;
}

pub returns-in_err-feed_byte-clause-refused : goal.returns-in_err-feed_byte-clause-refused
returns-in_err-feed_byte-clause-refused g c =
    let written = g.K.Sink.written in
    let faults = g.K.Sink.faults in
    let bytes = c.args.bytes.now in
    let i = c.loop-byte.byte-index in
    let b : ℕ = get_or bytes i 0 in
    let less : i < length bytes = omega arith in
    let old = c.args.debugger.now in
    let out = output_change_by written faults (c.args.out.now, c.args.debugger.now.watcher.block)
    (c.feed_byte.new.out, c.feed_byte.new.debugger.watcher.block) in
    λ begun is_held.
    let first = c.loop-byte.invariant.hears begun is_held in
    OnErr-always c.from_residual.result
    (subst (λ (l : List ℕ). FeedFails l begun old out) (take-get_or-drop bytes i less)
    (FeedFails-more (take i bytes ++ b ∷ []) (drop (suc i) bytes) begun old out
    (FeedFails-then written faults (c.args.out.now, c.args.debugger.now.watcher.block)
    (c.loop-byte.out, c.loop-byte.debugger.watcher.block) (c.feed_byte.new.out, c.feed_byte.new.debugger.watcher.block)
    (take i bytes) (b ∷ []) begun old c.loop-byte.debugger c.feed_byte.new.debugger c.loop-byte.pending.items first
    (c.in_err-feed_byte.ensures.refused first.line first.pending_is))))

pub returns-in-Quits-clause-ok : goal.returns-in-Quits-clause-ok
returns-in-Quits-clause-ok g c =
    let written = g.K.Sink.written in
    let faults = g.K.Sink.faults in
    let bytes = c.args.bytes.now in
    let i = c.loop-byte.byte-index in
    let b : ℕ = get_or bytes i 0 in
    let less : i < length bytes = omega arith in
    let old = c.args.debugger.now in
    let new = c.feed_byte.new.debugger in
    let held = c.feed_byte.new.pending.items in
    let out = output_change_by written faults (c.args.out.now, c.args.debugger.now.watcher.block)
    (c.feed_byte.new.out, c.feed_byte.new.debugger.watcher.block) in
    λ begun is_held.
    let first = c.loop-byte.invariant.hears begun is_held in
    let second : FeedsBytes (b ∷ []) first.line Quits c.loop-byte.debugger new held (output_change_by written faults (
      c.loop-byte.out,
      c.loop-byte.debugger.watcher.block,
    ) (c.feed_byte.new.out, c.feed_byte.new.debugger.watcher.block)) =
    subst (λ (talk : SessionState). FeedsBytes (b ∷ []) first.line talk c.loop-byte.debugger new held
    (output_change_by written faults (c.loop-byte.out, c.loop-byte.debugger.watcher.block)
    (c.feed_byte.new.out, c.feed_byte.new.debugger.watcher.block)))
    c.in-Quits.is
    (c.in_ok-feed_byte.ensures.ok first.line first.pending_is) in
    subst (λ (l : List ℕ). FeedsBytes l begun Quits old new held out) (take-get_or-drop bytes i less)
    (FeedsBytes-quit (take i bytes ++ b ∷ []) (drop (suc i) bytes) begun old new held out
    (FeedsBytes-then written faults (c.args.out.now, c.args.debugger.now.watcher.block)
    (c.loop-byte.out, c.loop-byte.debugger.watcher.block) (c.feed_byte.new.out, c.feed_byte.new.debugger.watcher.block)
    (take i bytes) (b ∷ []) begun old c.loop-byte.debugger new c.loop-byte.pending.items first Quits held second))

pub loop-byte-preserved : goal.loop-byte-preserved
loop-byte-preserved g c =
    let written = g.K.Sink.written in
    let faults = g.K.Sink.faults in
    let bytes = c.args.bytes.now in
    let i = c.loop-byte.byte-index in
    let b : ℕ = get_or bytes i 0 in
    let less : i < length bytes = omega arith in
    let old = c.args.debugger.now in
    let new = c.feed_byte.new.debugger in
    let held = c.feed_byte.new.pending.items in
    let out = output_change_by written faults (c.args.out.now, c.args.debugger.now.watcher.block)
    (c.feed_byte.new.out, c.feed_byte.new.debugger.watcher.block) in
    let more : take (i + 1) bytes ≡ take i bytes ++ b ∷ [] =
    ap (λ (n : ℕ). take n bytes) (add-one i) ∙ take-suc bytes i 0 less in
    record {
      same = record {
        setting = c.feed_byte.ensures.same.setting ∙ c.loop-byte.invariant.same.setting;
        mode = c.feed_byte.ensures.same.mode ∙ c.loop-byte.invariant.same.mode;
      };
      hears = λ begun is_held.
          let first = c.loop-byte.invariant.hears begun is_held in
          let second :
          FeedsBytes (b ∷ []) first.line Continues c.loop-byte.debugger new held (output_change_by written faults (
            c.loop-byte.out,
            c.loop-byte.debugger.watcher.block,
          ) (c.feed_byte.new.out, c.feed_byte.new.debugger.watcher.block)) =
          subst (λ (talk : SessionState). FeedsBytes (b ∷ []) first.line talk c.loop-byte.debugger new held
          (output_change_by written faults (c.loop-byte.out, c.loop-byte.debugger.watcher.block)
          (c.feed_byte.new.out, c.feed_byte.new.debugger.watcher.block)))
          c.in-Continues.is
          (c.in_ok-feed_byte.ensures.ok first.line first.pending_is) in
          subst (λ (l : List ℕ). FeedsBytes l begun Continues old new held out) (sym more)
          (FeedsBytes-then written faults (c.args.out.now, c.args.debugger.now.watcher.block)
          (c.loop-byte.out, c.loop-byte.debugger.watcher.block) (
            c.feed_byte.new.out,
            c.feed_byte.new.debugger.watcher.block,
          ) (take i bytes)
          (b ∷ []) begun old c.loop-byte.debugger new c.loop-byte.pending.items first Continues held second);
      carries = λ begun is_held.
          let first = c.loop-byte.invariant.carries begun is_held in
          let second = subst (λ (talk : SessionState). Carries g.K.Sink (b ∷ []) first.line talk c.loop-byte.debugger
          new held c.loop-byte.out c.feed_byte.new.out) c.in-Continues.is
          (c.in_ok-feed_byte.ensures.handed first.line first.pending_is) in
          subst (λ (l : List ℕ).
          Carries g.K.Sink l begun Continues old new held c.args.out.now c.feed_byte.new.out) (sym more)
          (carries_then g.K.Sink c.args.out.now c.loop-byte.out c.feed_byte.new.out (take i bytes) (b ∷ []) begun old
          c.loop-byte.debugger new c.loop-byte.pending.items first Continues held second);
    }

pub returns-clause-ok : goal.returns-clause-ok
returns-clause-ok g c =
    let bytes = c.args.bytes.now in
    let i = c.loop-byte.byte-index in
    let end : length bytes ≤ i = omega arith in
    λ begun is_held.
    subst
    (λ (l : List ℕ). FeedsBytes l begun Continues c.args.debugger.now c.loop-byte.debugger c.loop-byte.pending.items
    (output_change g.K.Sink c.args.out.now c.args.debugger.now.watcher.block c.loop-byte.out
    c.loop-byte.debugger.watcher.block))
    (take_all i bytes end) (c.loop-byte.invariant.hears begun is_held)

pub returns-in_err-feed_byte-clause-stopped : goal.returns-in_err-feed_byte-clause-stopped
returns-in_err-feed_byte-clause-stopped g c =
    let bytes = c.args.bytes.now in
    let i = c.loop-byte.byte-index in
    let b : ℕ = get_or bytes i 0 in
    let less : i < length bytes = omega arith in
    let old = c.args.debugger.now in
    let o = c.args.out.now in
    let q = c.feed_byte.new.out in
    λ begun is_held.
    let first = c.loop-byte.invariant.carries begun is_held in
    OnErr-always c.from_residual.result
    (subst (λ (l : List ℕ). CarryFails g.K.Sink l begun old o q) (take-get_or-drop bytes i less)
    (carry_fails_more g.K.Sink o q (take i bytes ++ b ∷ []) (drop (suc i) bytes) begun old
    (carry_fails_then g.K.Sink o c.loop-byte.out q (take i bytes) (b ∷ []) begun old c.loop-byte.debugger
    c.feed_byte.new.debugger c.loop-byte.pending.items first
    (c.in_err-feed_byte.ensures.stopped first.line first.pending_is))))

pub returns-in-Quits-clause-handed : goal.returns-in-Quits-clause-handed
returns-in-Quits-clause-handed g c =
    let bytes = c.args.bytes.now in
    let i = c.loop-byte.byte-index in
    let b : ℕ = get_or bytes i 0 in
    let less : i < length bytes = omega arith in
    let old = c.args.debugger.now in
    let new = c.feed_byte.new.debugger in
    let held = c.feed_byte.new.pending.items in
    let o = c.args.out.now in
    let q = c.feed_byte.new.out in
    λ begun is_held.
    let first = c.loop-byte.invariant.carries begun is_held in
    let second = subst (λ (talk : SessionState). Carries g.K.Sink (b ∷ []) first.line talk c.loop-byte.debugger new held
    c.loop-byte.out q) c.in-Quits.is (c.in_ok-feed_byte.ensures.handed first.line first.pending_is) in
    subst (λ (l : List ℕ). Carries g.K.Sink l begun Quits old new held o q) (take-get_or-drop bytes i less)
    (carries_quit g.K.Sink o q (take i bytes ++ b ∷ []) (drop (suc i) bytes) begun old new held
    (carries_then g.K.Sink o c.loop-byte.out q (take i bytes) (b ∷ []) begun old c.loop-byte.debugger new
    c.loop-byte.pending.items first Quits held second))

pub returns-clause-handed : goal.returns-clause-handed
returns-clause-handed g c =
    let bytes = c.args.bytes.now in
    let i = c.loop-byte.byte-index in
    let end : length bytes ≤ i = omega arith in
    λ begun is_held.
    subst (λ (l : List ℕ). Carries g.K.Sink l begun Continues c.args.debugger.now c.loop-byte.debugger
    c.loop-byte.pending.items c.args.out.now c.loop-byte.out)
    (take_all i bytes end) (c.loop-byte.invariant.carries begun is_held)
