use Rattle.std.proofs.Common.{arith, sym, ap, ◌∙◌}
use Rattle.alpha_image.specs.FieldTests.{are_apart}
use Rattle.alpha_image.proofs.SegmentsApart.{meets_one, meets_none}
use Rattle.alpha_image.proofs.rules.are_all_apart.Goals as goal

pub returns-then-not-is_apart : goal.returns-then-not-is_apart
returns-then-not-is_apart c = record {
  value =
      sym (meets_one c.args.region c.args.segments.now c.loop-s.s-index _ (omega arith)
      (ap (are_apart c.args.region) (sym c.region.ensures.value) ∙ cc));
}

pub returns : goal.returns
returns c =
    record {
      value =
          sym (meets_none c.args.region c.args.segments.now c.loop-s.s-index (omega arith) c.loop-s.invariant);
    }
