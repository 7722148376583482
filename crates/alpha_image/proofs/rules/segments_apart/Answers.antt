use Rattle.std.proofs.Common.{◌≡◌, ◌≤◌, ◌+◌, ◌⊎◌, ◌^◌, arith, sym, ◌∙◌, get_or, inl, inr, ⊎_elim}
use Rattle.alpha_image.specs.Rules.{size_of_segment}
use Rattle.alpha_image.proofs.SegmentsApart.{empty_segment, are_above-zero, follow_more}
use Rattle.alpha_image.proofs.rules.segments_apart.Goals as goal

pub loop-s-init : goal.loop-s-init
loop-s-init c = record { bound = omega arith; same = sym (are_above-zero c.args.segments.now) }

pub loop-s-preserved : goal.loop-s-preserved
loop-s-preserved c =
    let i = c.loop-s.s-index in
    let s = get_or c.args.segments.now i empty_segment in
    let h = c.region-region.ensures.value in
    let small : s.base + size_of_segment s ≤ 2 ^ 30 = c.requires.sizes i empty_segment (omega arith) in
    let end = rw h at c.max-end.ensures in
    let clear : (size_of_segment s ≡ 0) ⊎ (c.loop-s.end ≤ s.base) =
    ⊎_elim (λ p. inr p.1) (λ q. inl (omega (arith, q))) (rw h at c.else-region-gt0.either) in
    record {
      bound = omega arith;
      same =
          c.loop-s.invariant.same
          ∙ follow_more c.args.segments.now i c.loop-s.end c.max-end.result empty_segment c.requires.rise
          (omega arith) clear end;
    }
