use Rattle.std.proofs.Common.{◌≡◌, ◌<◌, ◌-◌, ◌++◌, ℕ, List, length, min, sym, ap, subst, ◌∙◌, arith}
use Rattle.alpha_debug.specs.Lines.{rows, code_row}
use Rattle.alpha_debug.proofs.SinkEffects.{AppendsOutput-both, SinkFailsWith-after}
use Rattle.alpha_debug.proofs.SinkEffects.{SinkFailsWith-more}
use Rattle.alpha_debug.proofs.RowTexts.{rows-rest, rows-more}
use Rattle.alpha_debug.specs.OutputChange.{output_change_by, AppendsOutput, SinkFailsWith}
use Rattle.alpha_debug.proofs.print.print_code_lines.Goals as goal
use Rattle.alpha_io.proofs.FileReplacementLaws.{OnErr-always}

pub returns-in_err-emit-clause-refused : goal.returns-in_err-emit-clause-refused
returns-in_err-emit-clause-refused g c =
    let written = g.K.Sink.written in
    let faults = g.K.Sink.faults in
    let row = code_row c.args.image.now c.args.place in
    let k = c.loop-k.k in
    let n = c.min-count.result in
    let less : k < n = omega arith in
    let rest = rows-rest row n k less in
    let count : n ≡ min c.args.count (length c.args.image.now.words - c.args.place) = cc in
    let line : c.as_bytes.result.now ≡ row k = c.as_bytes.ensures ∙ c.code_line-line.ensures in
    let stops : SinkFailsWith
    (output_change_by written faults (c.loop-k.out, c.loop-k.block) (c.emit.new.out, c.emit.new.block)) (row k) = subst
    (SinkFailsWith (output_change_by written faults (c.loop-k.out, c.loop-k.block) (c.emit.new.out, c.emit.new.block)))
    line c.in_err-emit.ensures.refused in
    let both = SinkFailsWith-after written faults (c.args.out.now, c.args.block.now) (c.loop-k.out, c.loop-k.block)
    (c.emit.new.out, c.emit.new.block) (rows row k) (row k) c.loop-k.invariant stops in
    let all = SinkFailsWith-more
    (output_change_by written faults (c.args.out.now, c.args.block.now) (c.emit.new.out, c.emit.new.block))
    (rows row k ++ row k) rest.more both in
    OnErr-always c.from_residual.result (subst (λ (t : List ℕ). SinkFailsWith (output_change_by written faults (
      c.args.out.now,
      c.args.block.now,
    ) (c.emit.new.out, c.emit.new.block)) t) (sym rest.is ∙ ap (rows row) count) all)

pub loop-k-preserved : goal.loop-k-preserved
loop-k-preserved g c =
    let written = g.K.Sink.written in
    let faults = g.K.Sink.faults in
    let row = code_row c.args.image.now c.args.place in
    let k = c.loop-k.k in
    let line : c.as_bytes.result.now ≡ row k = c.as_bytes.ensures ∙ c.code_line-line.ensures in
    let puts : AppendsOutput
    (output_change_by written faults (c.loop-k.out, c.loop-k.block) (c.emit.new.out, c.emit.new.block)) (row k) = subst
    (AppendsOutput (output_change_by written faults (c.loop-k.out, c.loop-k.block) (c.emit.new.out, c.emit.new.block)))
    line c.in_ok-emit.ensures.ok in
    subst (AppendsOutput (output_change_by written faults (
      c.args.out.now,
      c.args.block.now,
    ) (c.emit.new.out, c.emit.new.block))) (sym (rows-more row k))
    (AppendsOutput-both written faults (c.args.out.now, c.args.block.now) (c.loop-k.out, c.loop-k.block)
    (c.emit.new.out, c.emit.new.block) (rows row k) (row k) c.loop-k.invariant puts)
