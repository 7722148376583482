use Rattle.std.proofs.Common.{arith, map, sym}
use Rattle.std.proofs.lemmas.List.{length-map}
use Rattle.alpha_image.specs.declared.segment.Segment.{Segment}
use Rattle.alpha_image.proofs.SegmentsApart.{rise-not_falling, rises_more}
use Rattle.alpha_image.proofs.FieldRules.{increasing-rise}
use Rattle.alpha_image.proofs.rules.bases_rise.Goals as goal

pub returns-then-segments-n : goal.returns-then-segments-n
returns-then-segments-n c =
    let segments = c.args.segments.now in
    let n = c.loop-n.n in
    record { value = sym (rise-not_falling segments n (omega arith) (omega arith) c.if-segments-n.true) }

pub loop-n-preserved : goal.loop-n-preserved
loop-n-preserved c =
    rises_more c.args.segments.now c.loop-n.n (omega arith) (omega arith) c.loop-n.invariant c.if-segments-n.false

pub returns : goal.returns
returns c =
    record {
      value = sym (increasing-rise (map (λ s. s.base) c.args.segments.now)
          (λ k h. c.loop-n.invariant k (omega (arith, h, length-map c.args.segments.now (λ (s : Segment). s.base)))));
    }
