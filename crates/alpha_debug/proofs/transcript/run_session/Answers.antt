use Rattle.std.proofs.Common.{◌≡◌, ◌≢◌, ◌∙◌, ◌≤◌, ◌-◌, ℕ, List, [], ◌∷◌, length, get_or, take, refl, ap, subst, arith}
use Rattle.std.proofs.lemmas.List.{length-take}
use Rattle.std.proofs.Math.Seq.{take-suc}
use Rattle.std.proofs.KnownBytes.{Consumes-nil}
use Rattle.alpha_io.specs.Supply.{supply}
use Rattle.alpha_io.proofs.Takes.{HasGiven-none, HasGiven-one, HasGiven-failed}
use Rattle.alpha_seq.specs.Devices.{drawn}
use Rattle.alpha_debug.specs.declared.debugger.SessionState.{SessionState}
use Rattle.alpha_debug.specs.declared.debugger.SessionState.TheVariants.{Continues, Quits}
use Rattle.alpha_debug.specs.Effects.{FeedsBytes, Gets, Carries}
use Rattle.alpha_debug.proofs.ScriptUnderway.{Gets-one, Gets-failed, underway_start, underway_more, underway_quit}
use Rattle.alpha_debug.proofs.ScriptUnderway.{underway_fails, underway_unread, underway_closed, underway_large}
use Rattle.alpha_debug.proofs.HandedSessions.{handing_start, handing_more, handing_quit, handing_fails, handing_unread}
use Rattle.alpha_debug.proofs.HandedSessions.{handing_large, handing_closed}
use Rattle.alpha_io.specs.History.{HasGiven}
use Rattle.alpha_debug.proofs.SinkEffects.{AppendsOutput-none}
use Rattle.alpha_debug.specs.OutputChange.{output_change}
use Rattle.alpha_debug.proofs.transcript.run_session.Goals as goal

pub loop-most-init : goal.loop-most-init
loop-most-init g c = record {
  underway =
      underway_start c.args.debugger.now c.new-held.result.items (drawn g.S.Source c.args.script.now c.args.script.now)
      (output_change g.K.Sink c.args.out.now [] c.args.out.now [])
      c.new-held.ensures (record {
        consumed = Consumes-nil (g.S.Source.left c.args.script.now);
        calls = HasGiven-none (g.S.Source.replies c.args.script.now);
      }) refl (AppendsOutput-none g.K.Sink c.args.out.now []);
  handing =
      handing_start g.K.Sink c.args.debugger.now c.new-held.result.items (g.S.Source.replies c.args.script.now)
      c.args.out.now c.new-held.ensures (HasGiven-none (g.S.Source.replies c.args.script.now));
  block = c.requires.block;
}

pub returns-in-Err-clause-told : goal.returns-in-Err-clause-told
returns-in-Err-clause-told g c =
    let l = c.loop-most in
    underway_unread (supply g.S.Source) g.S.Source.faults g.K.Sink.written g.K.Sink.faults
    c.args.script.now l.script c.take.new.self (c.args.out.now, []) (l.out, [])
    (l.out, []) c.args.debugger.now l.debugger l.held.items l.most l.invariant.underway
    (Gets-failed (supply g.S.Source l.script) (supply g.S.Source c.take.new.self) (length c.take.new.buf)
    c.in-Err.ensures.failed c.in-Err.ensures.replies) c.in-Err.ensures.cause.later c.in-Err.ensures.cause.err

pub returns-then-count-eq0-clause-told : goal.returns-then-count-eq0-clause-told
returns-then-count-eq0-clause-told g c =
    let l = c.loop-most in
    let none : c.in-Ok.count ≡ 0 = omega (arith, c.if-count-eq0.true) in
    let old = supply g.S.Source l.script in
    let new = supply g.S.Source c.take.new.self in
    let took : Gets old new [] =
    subst (λ (n : ℕ). Gets old new (take n c.take.new.buf)) none
    (Gets-one old new (length c.take.new.buf)
    (take c.in-Ok.count c.take.new.buf) c.in-Ok.ensures.bytes c.in-Ok.ensures.replies) in
    underway_closed (supply g.S.Source) g.S.Source.faults g.K.Sink.written g.K.Sink.faults
    c.args.script.now l.script c.take.new.self (c.args.out.now, []) (l.out, [])
    (c.close.new.out, []) c.args.debugger.now l.debugger l.held.items l.most l.invariant.underway
    c.close.result took (c.in-Ok.ensures.end none) c.in-Ok.ensures.cause.ok
    (c.close.ensures.told l.invariant.underway.line l.invariant.underway.pending_is)

pub returns-in-Ok-Quits-clause-told : goal.returns-in-Ok-Quits-clause-told
returns-in-Ok-Quits-clause-told g c =
    let l = c.loop-most in
    let bytes : List ℕ = take c.in-Ok.count c.take.new.buf in
    let fits : length bytes ≤ l.most = omega (
      arith,
      length-take c.in-Ok.count c.take.new.buf,
      c.in-Ok.ensures.bound,
      c.take.auto.buf,
      length-take c.min.result c.loop-most.space,
      c.min.ensures,
    ) in
    let hears : FeedsBytes bytes l.invariant.underway.line Quits l.debugger c.feed_piece.new.debugger
    c.feed_piece.new.pending.items (output_change g.K.Sink l.out [] c.feed_piece.new.out []) =
    subst (λ (talk : SessionState). FeedsBytes bytes l.invariant.underway.line talk l.debugger c.feed_piece.new.debugger
    c.feed_piece.new.pending.items (output_change g.K.Sink l.out [] c.feed_piece.new.out []))
    c.in-Ok-Quits.field-0-is
    (c.in-Ok-Quits.ensures.ok l.invariant.underway.line l.invariant.underway.pending_is) in
    underway_quit (supply g.S.Source) g.S.Source.faults g.K.Sink.written g.K.Sink.faults
    c.args.script.now l.script c.take.new.self (c.args.out.now, []) (l.out, [])
    (c.feed_piece.new.out, []) c.args.debugger.now l.debugger l.held.items l.most l.invariant.underway
    bytes c.feed_piece.new.debugger c.feed_piece.new.pending.items
    (Gets-one (supply g.S.Source l.script) (supply g.S.Source c.take.new.self)
    (length c.take.new.buf) bytes c.in-Ok.ensures.bytes c.in-Ok.ensures.replies)
    c.in-Ok.ensures.cause.ok fits hears

pub returns-in-Err-feed_piece-clause-told : goal.returns-in-Err-feed_piece-clause-told
returns-in-Err-feed_piece-clause-told g c =
    let l = c.loop-most in
    let bytes : List ℕ = take c.in-Ok.count c.take.new.buf in
    let fits : length bytes ≤ l.most = omega (
      arith,
      length-take c.in-Ok.count c.take.new.buf,
      c.in-Ok.ensures.bound,
      c.take.auto.buf,
      length-take c.min.result c.loop-most.space,
      c.min.ensures,
    ) in
    underway_fails (supply g.S.Source) g.S.Source.faults g.K.Sink.written g.K.Sink.faults
    c.args.script.now l.script c.take.new.self (c.args.out.now, []) (l.out, [])
    (c.feed_piece.new.out, []) c.args.debugger.now l.debugger l.held.items l.most l.invariant.underway
    bytes (Gets-one (supply g.S.Source l.script) (supply g.S.Source c.take.new.self)
    (length c.take.new.buf) bytes c.in-Ok.ensures.bytes c.in-Ok.ensures.replies)
    c.in-Ok.ensures.cause.ok fits
    (c.in-Err-feed_piece.ensures.refused l.invariant.underway.line l.invariant.underway.pending_is)

pub loop-most-preserved : goal.loop-most-preserved
loop-most-preserved g c =
    let l = c.loop-most in
    let bytes : List ℕ = take c.in-Ok.count c.take.new.buf in
    let fits : length bytes ≤ l.most = omega (
      arith,
      length-take c.in-Ok.count c.take.new.buf,
      c.in-Ok.ensures.bound,
      c.take.auto.buf,
      length-take c.min.result c.loop-most.space,
      c.min.ensures,
    ) in
    let left : l.most - c.in-Ok.count ≡ l.most - length bytes =
    omega (arith, length-take c.in-Ok.count c.take.new.buf, c.in-Ok.ensures.bound) in
    let hears : FeedsBytes bytes l.invariant.underway.line Continues l.debugger c.feed_piece.new.debugger
    c.feed_piece.new.pending.items (output_change g.K.Sink l.out [] c.feed_piece.new.out []) =
    subst (λ (talk : SessionState). FeedsBytes bytes l.invariant.underway.line talk l.debugger c.feed_piece.new.debugger
    c.feed_piece.new.pending.items (output_change g.K.Sink l.out [] c.feed_piece.new.out []))
    c.in-Ok-Continues.field-0-is
    (c.in-Ok-Continues.ensures.ok l.invariant.underway.line l.invariant.underway.pending_is) in
    record {
      underway =
          underway_more (supply g.S.Source) g.S.Source.faults g.K.Sink.written g.K.Sink.faults
          c.args.script.now l.script c.take.new.self (c.args.out.now, []) (l.out, [])
          (c.feed_piece.new.out, []) c.args.debugger.now l.debugger l.held.items l.most l.invariant.underway
          bytes c.feed_piece.new.debugger c.feed_piece.new.pending.items (l.most - c.in-Ok.count)
          (Gets-one (supply g.S.Source l.script) (supply g.S.Source c.take.new.self)
          (length c.take.new.buf) bytes c.in-Ok.ensures.bytes c.in-Ok.ensures.replies)
          c.in-Ok.ensures.cause.ok fits left hears c.feed_piece.ensures.same;
      handing =
          handing_more g.K.Sink c.args.debugger.now l.debugger l.held.items l.most
          (drawn g.S.Source c.args.script.now c.take.new.self) (g.S.Source.replies l.script) c.args.out.now l.out
          l.invariant.handing bytes c.feed_piece.new.debugger c.feed_piece.new.pending.items (l.most - c.in-Ok.count)
          c.feed_piece.new.out
          (HasGiven-one (g.S.Source.replies l.script) (g.S.Source.replies c.take.new.self) (length c.take.new.buf) bytes
          c.in-Ok.ensures.replies) fits left
          (subst (λ (talk : SessionState). Carries g.K.Sink bytes l.invariant.handing.line talk l.debugger
          c.feed_piece.new.debugger c.feed_piece.new.pending.items l.out c.feed_piece.new.out)
          c.in-Ok-Continues.field-0-is
          (c.in-Ok-Continues.ensures.handed l.invariant.handing.line l.invariant.handing.pending_is));
      block = c.in-Ok-Continues.ensures.block;
    }

pub returns-in-Ok-eq0-clause-told : goal.returns-in-Ok-eq0-clause-told
returns-in-Ok-eq0-clause-told g c =
    let l = c.loop-most in
    let none : c.in-Ok-eq0.field-0 ≡ 0 = c.in-Ok-eq0.field-0-test in
    let old = supply g.S.Source l.script in
    let new = supply g.S.Source c.take-2.new.self in
    let took : Gets old new [] =
    subst (λ (n : ℕ). Gets old new (take n c.take-2.new.buf)) none
    (Gets-one old new (length c.take-2.new.buf)
    (take c.in-Ok-eq0.field-0 c.take-2.new.buf) c.in-Ok-eq0.ensures.bytes c.in-Ok-eq0.ensures.replies) in
    underway_closed (supply g.S.Source) g.S.Source.faults g.K.Sink.written g.K.Sink.faults
    c.args.script.now l.script c.take-2.new.self (c.args.out.now, []) (l.out, [])
    (c.close-in-Ok-eq0.new.out, []) c.args.debugger.now l.debugger l.held.items l.most l.invariant.underway
    c.close-in-Ok-eq0.result took (c.in-Ok-eq0.ensures.end none) c.in-Ok-eq0.ensures.cause.ok
    (c.close-in-Ok-eq0.ensures.told l.invariant.underway.line l.invariant.underway.pending_is)

pub returns-in-Ok-take-clause-told : goal.returns-in-Ok-take-clause-told
returns-in-Ok-take-clause-told g c =
    let l = c.loop-most in
    let buf : List ℕ = c.take-2.new.buf in
    let size : length buf ≡ 1 = omega (arith, c.take-2.auto.buf) in
    let some : c.in-Ok-take.field-0 ≢ 0 = c.in-Ok-take.field-0-test.1 in
    let one : c.in-Ok-take.field-0 ≡ 1 = omega (arith, size, some, c.in-Ok-take.ensures.bound) in
    let byte : take c.in-Ok-take.field-0 buf ≡ get_or buf 0 0 ∷ [] =
    ap (λ (n : ℕ). take n buf) one ∙ take-suc buf 0 0 (omega (arith, size)) in
    let old = supply g.S.Source l.script in
    let new = supply g.S.Source c.take-2.new.self in
    let took : Gets old new (get_or buf 0 0 ∷ []) =
    subst (Gets old new) byte
    (Gets-one old new (length buf)
    (take c.in-Ok-take.field-0 buf) c.in-Ok-take.ensures.bytes c.in-Ok-take.ensures.replies) in
    underway_large (supply g.S.Source) g.S.Source.faults g.K.Sink.written g.K.Sink.faults
    c.args.script.now l.script c.take-2.new.self (c.args.out.now, []) (l.out, [])
    (l.out, []) c.args.debugger.now l.debugger l.held.items l.most l.invariant.underway
    (get_or buf 0 0) (omega (arith, c.loop-most-test.false)) took c.in-Ok-take.ensures.cause.ok

pub returns-in-Err-take-clause-told : goal.returns-in-Err-take-clause-told
returns-in-Err-take-clause-told g c =
    let l = c.loop-most in
    underway_unread (supply g.S.Source) g.S.Source.faults g.K.Sink.written g.K.Sink.faults
    c.args.script.now l.script c.take-2.new.self (c.args.out.now, []) (l.out, [])
    (l.out, []) c.args.debugger.now l.debugger l.held.items l.most l.invariant.underway
    (Gets-failed (supply g.S.Source l.script) (supply g.S.Source c.take-2.new.self)
    (length c.take-2.new.buf) c.in-Err-take.ensures.failed c.in-Err-take.ensures.replies)
    c.in-Err-take.ensures.cause.later c.in-Err-take.ensures.cause.err

-- ---- what is handed over

pub returns-in-Err-clause-handed : goal.returns-in-Err-clause-handed
returns-in-Err-clause-handed g c =
    let l = c.loop-most in
    handing_unread g.K.Sink c.args.debugger.now l.debugger l.held.items l.most
    (drawn g.S.Source c.args.script.now c.take.new.self) (g.S.Source.replies l.script) c.args.out.now l.out
    l.invariant.handing
    (HasGiven-failed (g.S.Source.replies l.script) (g.S.Source.replies c.take.new.self) (length c.take.new.buf)
    c.in-Err.ensures.replies) l.invariant.block

pub returns-then-count-eq0-clause-handed : goal.returns-then-count-eq0-clause-handed
returns-then-count-eq0-clause-handed g c =
    let l = c.loop-most in
    let none : c.in-Ok.count ≡ 0 = omega (arith, c.if-count-eq0.true) in
    let old = g.S.Source.replies l.script in
    let new = g.S.Source.replies c.take.new.self in
    handing_closed g.K.Sink c.args.debugger.now l.debugger l.held.items l.most
    (drawn g.S.Source c.args.script.now c.take.new.self) (g.S.Source.replies l.script) c.args.out.now l.out
    l.invariant.handing
    c.close.result c.close.new.out (output_change g.K.Sink l.out [] c.close.new.out [])
    (subst (λ (n : ℕ). HasGiven old new (take n c.take.new.buf)) none
    (HasGiven-one old new (length c.take.new.buf) (take c.in-Ok.count c.take.new.buf) c.in-Ok.ensures.replies))
    (c.close.ensures.told l.invariant.handing.line l.invariant.handing.pending_is)
    (c.close.ensures.handed l.invariant.handing.line l.invariant.handing.pending_is)

pub returns-in-Ok-Quits-clause-handed : goal.returns-in-Ok-Quits-clause-handed
returns-in-Ok-Quits-clause-handed g c =
    let l = c.loop-most in
    let bytes : List ℕ = take c.in-Ok.count c.take.new.buf in
    let fits : length bytes ≤ l.most = omega (
      arith,
      length-take c.in-Ok.count c.take.new.buf,
      c.in-Ok.ensures.bound,
      c.take.auto.buf,
      length-take c.min.result c.loop-most.space,
      c.min.ensures,
    ) in
    handing_quit g.K.Sink c.args.debugger.now l.debugger l.held.items l.most
    (drawn g.S.Source c.args.script.now c.take.new.self) (g.S.Source.replies l.script) c.args.out.now l.out
    l.invariant.handing
    bytes c.feed_piece.new.debugger c.feed_piece.new.pending.items c.feed_piece.new.out
    (HasGiven-one (g.S.Source.replies l.script) (g.S.Source.replies c.take.new.self) (length c.take.new.buf) bytes
    c.in-Ok.ensures.replies) fits c.in-Ok-Quits.ensures.block
    (subst (λ (talk : SessionState). Carries g.K.Sink bytes l.invariant.handing.line talk l.debugger
    c.feed_piece.new.debugger c.feed_piece.new.pending.items l.out c.feed_piece.new.out) c.in-Ok-Quits.field-0-is
    (c.in-Ok-Quits.ensures.handed l.invariant.handing.line l.invariant.handing.pending_is))

pub returns-in-Err-feed_piece-clause-handed : goal.returns-in-Err-feed_piece-clause-handed
returns-in-Err-feed_piece-clause-handed g c =
    let l = c.loop-most in
    let bytes : List ℕ = take c.in-Ok.count c.take.new.buf in
    let fits : length bytes ≤ l.most = omega (
      arith,
      length-take c.in-Ok.count c.take.new.buf,
      c.in-Ok.ensures.bound,
      c.take.auto.buf,
      length-take c.min.result c.loop-most.space,
      c.min.ensures,
    ) in
    handing_fails g.K.Sink c.args.debugger.now l.debugger l.held.items l.most
    (drawn g.S.Source c.args.script.now c.take.new.self) (g.S.Source.replies l.script) c.args.out.now l.out
    l.invariant.handing
    bytes c.feed_piece.new.out
    (HasGiven-one (g.S.Source.replies l.script) (g.S.Source.replies c.take.new.self) (length c.take.new.buf) bytes
    c.in-Ok.ensures.replies) fits
    (c.in-Err-feed_piece.ensures.stopped l.invariant.handing.line l.invariant.handing.pending_is)

pub returns-in-Ok-eq0-clause-handed : goal.returns-in-Ok-eq0-clause-handed
returns-in-Ok-eq0-clause-handed g c =
    let l = c.loop-most in
    let none : c.in-Ok-eq0.field-0 ≡ 0 = c.in-Ok-eq0.field-0-test in
    let old = g.S.Source.replies l.script in
    let new = g.S.Source.replies c.take-2.new.self in
    handing_closed g.K.Sink c.args.debugger.now l.debugger l.held.items l.most
    (drawn g.S.Source c.args.script.now c.take-2.new.self) (g.S.Source.replies l.script) c.args.out.now l.out
    l.invariant.handing
    c.close-in-Ok-eq0.result c.close-in-Ok-eq0.new.out (output_change g.K.Sink l.out [] c.close-in-Ok-eq0.new.out [])
    (subst (λ (n : ℕ). HasGiven old new (take n c.take-2.new.buf)) none
    (HasGiven-one old new (length c.take-2.new.buf) (take c.in-Ok-eq0.field-0 c.take-2.new.buf)
    c.in-Ok-eq0.ensures.replies))
    (c.close-in-Ok-eq0.ensures.told l.invariant.handing.line l.invariant.handing.pending_is)
    (c.close-in-Ok-eq0.ensures.handed l.invariant.handing.line l.invariant.handing.pending_is)

pub returns-in-Ok-take-clause-handed : goal.returns-in-Ok-take-clause-handed
returns-in-Ok-take-clause-handed g c =
    let l = c.loop-most in
    let buf : List ℕ = c.take-2.new.buf in
    let size : length buf ≡ 1 = omega (arith, c.take-2.auto.buf) in
    let some : c.in-Ok-take.field-0 ≢ 0 = c.in-Ok-take.field-0-test.1 in
    let one : c.in-Ok-take.field-0 ≡ 1 = omega (arith, size, some, c.in-Ok-take.ensures.bound) in
    let byte : take c.in-Ok-take.field-0 buf ≡ get_or buf 0 0 ∷ [] =
    ap (λ (n : ℕ). take n buf) one ∙ take-suc buf 0 0 (omega (arith, size)) in
    let old = g.S.Source.replies l.script in
    let new = g.S.Source.replies c.take-2.new.self in
    handing_large g.K.Sink c.args.debugger.now l.debugger l.held.items l.most
    (drawn g.S.Source c.args.script.now c.take-2.new.self) (g.S.Source.replies l.script) c.args.out.now l.out
    l.invariant.handing
    (get_or buf 0 0) (omega (arith, c.loop-most-test.false))
    (subst (HasGiven old new) byte
    (HasGiven-one old new (length buf) (take c.in-Ok-take.field-0 buf) c.in-Ok-take.ensures.replies))
    l.invariant.block

pub returns-in-Err-take-clause-handed : goal.returns-in-Err-take-clause-handed
returns-in-Err-take-clause-handed g c =
    let l = c.loop-most in
    handing_unread g.K.Sink c.args.debugger.now l.debugger l.held.items l.most
    (drawn g.S.Source c.args.script.now c.take-2.new.self) (g.S.Source.replies l.script) c.args.out.now l.out
    l.invariant.handing
    (HasGiven-failed (g.S.Source.replies l.script) (g.S.Source.replies c.take-2.new.self) (length c.take-2.new.buf)
    c.in-Err-take.ensures.replies) l.invariant.block
