use Rattle.std.specs.Prelude.{◌==◌}
use Rattle.std.proofs.Common.{◌≡◌, ◌∙◌, ◌<◌, ℕ, List, [], ◌∷◌, length, false, sym, ap, subst, arith}
use Rattle.std.proofs.lemmas.Bool.{ne_eqb}
use Rattle.std.proofs.lemmas.Bool.Decides.{nat_tests}
use Rattle.std.specs.Str.Lines.{strip_carriage_return}
use Rattle.alpha_debug.specs.Effects.{FeedsBytes, FeedFails, Carries, CarryFails}
use Rattle.alpha_debug.proofs.SinkEffects.{AppendsOutput-none}
use Rattle.alpha_debug.proofs.Scripts.{FeedsBytes-line_feed, line_feed-FeedFails, FeedsBytes-other_byte}
use Rattle.alpha_debug.proofs.Scripts.{IsPendingLine-other_byte}
use Rattle.alpha_debug.proofs.Scripts.{held_prefix-push, held_prefix-full}
use Rattle.alpha_debug.proofs.HandedLines.{carries_feed, carry_feed_fails, carries_other}
use Rattle.alpha_debug.specs.OutputChange.{output_change}
use Rattle.alpha_debug.proofs.script.feed_byte.Goals as goal
use Rattle.alpha_io.proofs.FileReplacementLaws.{OnErr-always}

pub returns-in_err-talk-clause-refused : goal.returns-in_err-talk-clause-refused
returns-in_err-talk-clause-refused g c =
    let out = output_change g.K.Sink c.args.out.now c.args.debugger.now.watcher.block c.answer_line.new.out
    c.answer_line.new.debugger.watcher.block in
    let held = c.args.pending.now.items in
    let line : c.without_return.result.now ≡ strip_carriage_return held =
    c.without_return.ensures ∙ ap strip_carriage_return c.as_slice.ensures.value in
    let feed : c.args.byte ≡ 10 = omega (arith, c.if-byte-eq10.true) in
    λ begun is_held.
    OnErr-always c.from_residual.result
    (subst (λ (b : ℕ). FeedFails (b ∷ []) begun c.args.debugger.now out) (sym feed)
    (line_feed-FeedFails begun held c.without_return.result.now c.args.debugger.now out is_held line
    c.in_err-talk.ensures.refused))

pub returns-in_ok-talk-clause-ok : goal.returns-in_ok-talk-clause-ok
returns-in_ok-talk-clause-ok g c =
    let out = output_change g.K.Sink c.args.out.now c.args.debugger.now.watcher.block c.answer_line.new.out
    c.answer_line.new.debugger.watcher.block in
    let held = c.args.pending.now.items in
    let old = c.args.debugger.now in
    let new = c.answer_line.new.debugger in
    let talk = c.in_ok-talk.talk in
    let line : c.without_return.result.now ≡ strip_carriage_return held =
    c.without_return.ensures ∙ ap strip_carriage_return c.as_slice.ensures.value in
    let feed : c.args.byte ≡ 10 = omega (arith, c.if-byte-eq10.true) in
    λ begun is_held.
    subst (λ (b : ℕ). FeedsBytes (b ∷ []) begun talk old new c.clear.new.self.items out) (sym feed)
    (subst (λ (l : List ℕ). FeedsBytes (10 ∷ []) begun talk old new l out) (sym c.clear.ensures)
    (FeedsBytes-line_feed begun held c.without_return.result.now talk old new out is_held line
    c.answer_line.ensures.same.setting
    c.in_ok-talk.ensures.ok))

pub returns-then-not-is_full-clause-ok : goal.returns-then-not-is_full-clause-ok
returns-then-not-is_full-clause-ok g c =
    let out = output_change g.K.Sink c.args.out.now c.args.debugger.now.watcher.block c.args.out.now
    c.args.debugger.now.watcher.block in
    let held = c.args.pending.now.items in
    let other : (c.args.byte == 10) ≡ false = ne_eqb c.args.byte 10 (λ e. omega (arith, c.if-byte-eq10.false)) in
    let room : length held < 1026 = grind (arith, nat_tests) in
    λ begun is_held.
    FeedsBytes-other_byte c.args.byte begun c.push.new.self.items c.args.debugger.now out other is_held.line
    (held_prefix-push c.args.byte begun held c.push.new.self.items is_held.front room c.push.ensures.items)
    (AppendsOutput-none g.K.Sink c.args.out.now c.args.debugger.now.watcher.block)

pub returns-else-not-is_full-clause-ok : goal.returns-else-not-is_full-clause-ok
returns-else-not-is_full-clause-ok g c =
    let out = output_change g.K.Sink c.args.out.now c.args.debugger.now.watcher.block c.args.out.now
    c.args.debugger.now.watcher.block in
    let held = c.args.pending.now.items in
    let other : (c.args.byte == 10) ≡ false = ne_eqb c.args.byte 10 (λ e. omega (arith, c.if-byte-eq10.false)) in
    let full : length held ≡ 1026 = grind (arith, nat_tests) in
    λ begun is_held.
    FeedsBytes-other_byte c.args.byte begun held c.args.debugger.now out other is_held.line
    (held_prefix-full c.args.byte begun held is_held.front full)
    (AppendsOutput-none g.K.Sink c.args.out.now c.args.debugger.now.watcher.block)

pub returns-in_err-talk-clause-stopped : goal.returns-in_err-talk-clause-stopped
returns-in_err-talk-clause-stopped g c =
    let held = c.args.pending.now.items in
    let line : c.without_return.result.now ≡ strip_carriage_return held =
    c.without_return.ensures ∙ ap strip_carriage_return c.as_slice.ensures.value in
    let feed : c.args.byte ≡ 10 = omega (arith, c.if-byte-eq10.true) in
    λ begun is_held.
    OnErr-always c.from_residual.result
    (subst (λ (b : ℕ). CarryFails g.K.Sink (b ∷ []) begun c.args.debugger.now c.args.out.now c.answer_line.new.out)
    (sym feed)
    (carry_feed_fails g.K.Sink begun held c.without_return.result.now c.args.debugger.now c.args.out.now
    c.answer_line.new.out c.answer_line.new.debugger.watcher.block is_held line c.in_err-talk.ensures.refused))

pub returns-in_ok-talk-clause-handed : goal.returns-in_ok-talk-clause-handed
returns-in_ok-talk-clause-handed g c =
    let held = c.args.pending.now.items in
    let old = c.args.debugger.now in
    let new = c.answer_line.new.debugger in
    let talk = c.in_ok-talk.talk in
    let o = c.args.out.now in
    let p = c.answer_line.new.out in
    let line : c.without_return.result.now ≡ strip_carriage_return held =
    c.without_return.ensures ∙ ap strip_carriage_return c.as_slice.ensures.value in
    let feed : c.args.byte ≡ 10 = omega (arith, c.if-byte-eq10.true) in
    λ begun is_held.
    subst (λ (b : ℕ). Carries g.K.Sink (b ∷ []) begun talk old new c.clear.new.self.items o p) (sym feed)
    (subst (λ (l : List ℕ). Carries g.K.Sink (10 ∷ []) begun talk old new l o p) (sym c.clear.ensures)
    (carries_feed g.K.Sink begun held c.without_return.result.now talk old new o p is_held line
    c.answer_line.ensures.same.setting c.in_ok-talk.ensures.ok c.in_ok-talk.ensures.handed))

pub returns-then-not-is_full-clause-handed : goal.returns-then-not-is_full-clause-handed
returns-then-not-is_full-clause-handed g c =
    let held = c.args.pending.now.items in
    let other : (c.args.byte == 10) ≡ false = ne_eqb c.args.byte 10 (λ e. omega (arith, c.if-byte-eq10.false)) in
    let room : length held < 1026 = grind (arith, nat_tests) in
    λ begun is_held.
    carries_other g.K.Sink c.args.byte begun c.push.new.self.items c.args.debugger.now c.args.out.now
    (IsPendingLine-other_byte c.args.byte begun c.push.new.self.items other is_held.line
    (held_prefix-push c.args.byte begun held c.push.new.self.items is_held.front room c.push.ensures.items))

pub returns-else-not-is_full-clause-handed : goal.returns-else-not-is_full-clause-handed
returns-else-not-is_full-clause-handed g c =
    let held = c.args.pending.now.items in
    let other : (c.args.byte == 10) ≡ false = ne_eqb c.args.byte 10 (λ e. omega (arith, c.if-byte-eq10.false)) in
    let full : length held ≡ 1026 = grind (arith, nat_tests) in
    λ begun is_held.
    carries_other g.K.Sink c.args.byte begun held c.args.debugger.now c.args.out.now
    (IsPendingLine-other_byte c.args.byte begun held other is_held.line
    (held_prefix-full c.args.byte begun held is_held.front full))
