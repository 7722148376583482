use Rattle.std.proofs.Common.{ℕ, List, ◌∷◌, [], length, ap, sym, ◌∙◌, arith}
use Rattle.std.specs.Prelude.{slice_get}
use Rattle.std.proofs.lemmas.List.{length-append}
use Rattle.alpha_link.proofs.AreEntered.{push_start, next_symbols}
use Rattle.alpha_link.proofs.global_symbols.starts_of.Goals as goal

pub loop-located-preserved : goal.loop-located-preserved
loop-located-preserved c =
    let ls = c.args.places.now in
    let i = c.loop-located.located-index in
    let starts = c.loop-located.starts.items in
    let pushed = c.in_ok-push.ensures.items in
    let so_far = c.loop-located.invariant in
    let next = next_symbols ls i c.located-item.result c.loop-located-test.true c.located-item.is in
    record {
      size = omega (
        arith,
        ap (λ (xs : List ℕ). length xs) pushed,
        length-append starts (c.loop-located.count ∷ []),
        so_far.size,
      );
      counts =
          λ k s e. push_start ls starts i c.loop-located.count so_far.size so_far.count so_far.counts k s
          (ap (λ (xs : List ℕ). slice_get xs k) (sym pushed) ∙ e);
      count = omega (arith, c.in-Some.ensures.1, so_far.count, c.count_of.ensures, next);
    }
