use Rattle.std.proofs.Common.{◌≡◌, ◌∙◌, List, ℕ, [], take, OnOk, sym, ap, subst}
use Rattle.alpha_io.specs.SinkChange.{sink_change, Puts}
use Rattle.alpha_seq.specs.Notes.{register_lines}
use Rattle.alpha_debug.specs.OutputChange.{output_change, AppendsOutput, SinkFailsWith}
use Rattle.alpha_debug.proofs.SinkEffects.{SinkFailsWith-more}
use Rattle.alpha_debug.proofs.BlockContents.{WritesPrefix-take_old, AppendsOutput-past, SinkFailsWith-past}
use Rattle.alpha_debug.proofs.print.print_registers.Goals as goal
use Rattle.alpha_io.proofs.FileReplacementLaws.{OnErr-always}

pub returns-in_err-flush-in-Err-clause-refused : goal.returns-in_err-flush-in-Err-clause-refused
returns-in_err-flush-in-Err-clause-refused g c =
    let waited = c.args.block.now in
    let lines = register_lines c.args.regs.now in
    let back : c.truncate.new.self ≡ waited =
    c.truncate.ensures ∙ (ap (λ (n : ℕ). take n c.write_registers.new.to) c.len-waiting.ensures.value
    ∙ WritesPrefix-take_old waited c.write_registers.new.to lines c.in-Err.ensures.prefix) in
    OnErr-always c.from_residual.result
    (SinkFailsWith-more (output_change g.K.Sink c.args.out.now waited c.flush.new.out c.flush.new.self) [] lines
    (subst (λ (l : List ℕ). SinkFailsWith (output_change g.K.Sink c.args.out.now l c.flush.new.out c.flush.new.self) [])
    back c.in_err-flush-in-Err.ensures.refused))

pub returns-in_ok-flush-in-Err-clause-ok : goal.returns-in_ok-flush-in-Err-clause-ok
returns-in_ok-flush-in-Err-clause-ok g c =
    let waited = c.args.block.now in
    let lines = register_lines c.args.regs.now in
    let out = c.args.out.now in
    let end = c.write_registers-in-Err.new.to in
    let wrote = c.write_registers-in-Err.ensures in
    let back : c.truncate.new.self ≡ waited =
    c.truncate.ensures ∙ (ap (λ (n : ℕ). take n c.write_registers.new.to) c.len-waiting.ensures.value
    ∙ WritesPrefix-take_old waited c.write_registers.new.to lines c.in-Err.ensures.prefix) in
    let first : Puts (sink_change g.K.Sink out c.flush.new.out) waited =
    subst (Puts (sink_change g.K.Sink out c.flush.new.out)) back c.in_ok-flush-in-Err.ensures.ok in
    subst (λ (l : List ℕ).
    OnOk c.write_registers-in-Err.result (AppendsOutput (output_change g.K.Sink out waited end l) lines))
    (sym c.in_ok-flush-in-Err.ensures.empty)
    (AppendsOutput-past g.K.Sink out c.flush.new.out end waited lines first c.write_registers-in-Err.result
    wrote.written wrote.cause)

pub returns-in_ok-flush-in-Err-clause-refused : goal.returns-in_ok-flush-in-Err-clause-refused
returns-in_ok-flush-in-Err-clause-refused g c =
    let waited = c.args.block.now in
    let lines = register_lines c.args.regs.now in
    let out = c.args.out.now in
    let wrote = c.write_registers-in-Err.ensures in
    let back : c.truncate.new.self ≡ waited =
    c.truncate.ensures ∙ (ap (λ (n : ℕ). take n c.write_registers.new.to) c.len-waiting.ensures.value
    ∙ WritesPrefix-take_old waited c.write_registers.new.to lines c.in-Err.ensures.prefix) in
    let first : Puts (sink_change g.K.Sink out c.flush.new.out) waited =
    subst (Puts (sink_change g.K.Sink out c.flush.new.out)) back c.in_ok-flush-in-Err.ensures.ok in
    SinkFailsWith-past g.K.Sink out c.flush.new.out c.write_registers-in-Err.new.to waited lines first
    c.write_registers-in-Err.result c.flush.new.self wrote.prefix wrote.cause
