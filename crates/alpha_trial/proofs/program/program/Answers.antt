use Rattle.std.proofs.Common.{◌++◌, List, ℕ, sym, ap, ◌∙◌}
use Rattle.std.specs.List.{flat_map}
use Rattle.std.proofs.lemmas.Grind.{flat_map-append}
use Rattle.alpha_image.specs.Layout.{longword}
use Rattle.alpha_trial.specs.Program.{seeded}
use Rattle.alpha_trial.specs.Words.{blocks_words, ending_words, program_words}
use Rattle.alpha_trial.proofs.program.program.Goals as goal

pub returns : goal.returns
unfolding program_words
returns c =
    let blocks = blocks_words c.args.n (seeded c.args.n) in
    c.in_ok-push_words.ensures
    ∙ (ap (λ (l : List ℕ). l ++ flat_map longword c.exit_block.result)
    (c.in_ok-push_blocks.ensures ∙ ap (λ (l : List ℕ). l ++ flat_map longword blocks) c.in_ok-code.ensures.items)
    ∙ (ap (λ (l : List ℕ). flat_map longword blocks ++ flat_map longword l) c.exit_block.ensures
    ∙ sym (flat_map-append longword blocks ending_words)))
