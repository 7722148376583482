use Rattle.std.proofs.Common.{ℕ, List, [], subst}
use Rattle.alpha_debug.specs.OutputChange.{output_change}
use Rattle.alpha_debug.specs.Effects.{FeedsBytes}
use Rattle.alpha_debug.proofs.ScriptPieces.{FeedsBytes-put, FeedsBytes-stopped}
use Rattle.alpha_debug.proofs.HandedLines.{carries_put, carries_stopped}
use Rattle.alpha_debug.proofs.transcript.feed_piece.Goals as goal
use Rattle.alpha_io.proofs.FileReplacementLaws.{OnErr-always}

pub returns-in_err-flush-clause-refused : goal.returns-in_err-flush-clause-refused
returns-in_err-flush-clause-refused g c = λ begun is_held.
    let bytes = c.args.bytes.now in
    let talk = c.in_ok-talk.talk in
    let old = c.args.debugger.now in
    let new = c.feed.new in
    let hears : FeedsBytes bytes begun talk old new.debugger new.pending.items
    (output_change g.K.Sink c.args.out.now [] new.out new.debugger.watcher.block) =
    subst (λ (l : List ℕ). FeedsBytes bytes begun talk old new.debugger new.pending.items
    (output_change g.K.Sink c.args.out.now l new.out new.debugger.watcher.block))
    c.requires.block (c.in_ok-talk.ensures.ok begun is_held) in
    OnErr-always c.from_residual-in_err-flush.result
    (FeedsBytes-stopped g.K.Sink c.args.out.now new.out c.flush.new.out new.debugger.watcher.block c.flush.new.self
    bytes
    begun talk old new.debugger new.pending.items hears c.in_err-flush.ensures.refused)

pub returns-clause-ok : goal.returns-clause-ok
returns-clause-ok g c = λ begun is_held.
    let bytes = c.args.bytes.now in
    let talk = c.in_ok-talk.talk in
    let old = c.args.debugger.now in
    let new = c.feed.new in
    let hears : FeedsBytes bytes begun talk old new.debugger new.pending.items
    (output_change g.K.Sink c.args.out.now [] new.out new.debugger.watcher.block) =
    subst (λ (l : List ℕ). FeedsBytes bytes begun talk old new.debugger new.pending.items
    (output_change g.K.Sink c.args.out.now l new.out new.debugger.watcher.block))
    c.requires.block (c.in_ok-talk.ensures.ok begun is_held) in
    FeedsBytes-put g.K.Sink c.args.out.now new.out c.flush.new.out new.debugger.watcher.block c.flush.new.self bytes
    begun
    talk old new.debugger new.pending.items hears c.in_ok-flush.ensures.ok

pub returns-in_err-flush-clause-stopped : goal.returns-in_err-flush-clause-stopped
returns-in_err-flush-clause-stopped g c = λ begun is_held.
    OnErr-always c.from_residual-in_err-flush.result
    (carries_stopped g.K.Sink c.flush.new.self c.args.bytes.now begun c.in_ok-talk.talk c.args.debugger.now
    c.feed.new.debugger c.feed.new.pending.items c.args.out.now c.feed.new.out c.flush.new.out
    (c.in_ok-talk.ensures.handed begun is_held) c.in_err-flush.ensures.refused)

pub returns-clause-handed : goal.returns-clause-handed
returns-clause-handed g c = λ begun is_held.
    carries_put g.K.Sink c.flush.new.self c.args.bytes.now begun c.in_ok-talk.talk c.args.debugger.now
    c.feed.new.debugger c.feed.new.pending.items c.args.out.now c.feed.new.out c.flush.new.out
    c.in_ok-flush.ensures.empty c.in_ok-flush.ensures.ok (c.in_ok-talk.ensures.handed begun is_held)
