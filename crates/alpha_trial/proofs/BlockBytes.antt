-- The bytes of blocks, and of those that are still to come.
use Rattle.std.proofs.Common.{◌≡◌, ◌<◌, ◌+◌, ◌-◌, ◌++◌, ℕ, suc, List, sym, ap, ◌∙◌, arith, append_assoc}
use Rattle.std.specs.List.{flat_map}
use Rattle.std.proofs.lemmas.Grind.{flat_map-append}
use Rattle.rand_pcg.specs.Lcg.{Lcg}
use Rattle.rand_pcg.specs.Pcg.{pcg32}
use Rattle.alpha_image.specs.Layout.{longword}
use Rattle.alpha_trial.specs.Words.{block_words, blocks_words}

-- the next block, and the rest
pub blocks_next : (n i : ℕ) (g : Lcg) (front : List ℕ) → i < n
    → front ++ flat_map longword (blocks_words (n - i) g)
    ≡ (front ++ flat_map longword (block_words (pcg32 g).0 (pcg32 (pcg32 g).1).0))
    ++ flat_map longword (blocks_words (n - (i + 1)) (pcg32 (pcg32 g).1).1)
blocks_next n i g front below =
    let one : n - i ≡ suc (n - (i + 1)) = omega arith in
    let block = block_words (pcg32 g).0 (pcg32 (pcg32 g).1).0 in
    let rest = blocks_words (n - (i + 1)) (pcg32 (pcg32 g).1).1 in
    ap (λ (m : ℕ). front ++ flat_map longword (blocks_words m g)) one
    ∙ (ap (λ (l : List ℕ). front ++ l) (flat_map-append longword block rest)
    ∙ sym (append_assoc front (flat_map longword block) (flat_map longword rest)))
