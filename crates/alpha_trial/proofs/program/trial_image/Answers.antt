use Rattle.std.proofs.Common.{◌≡◌, ◌*◌, ℕ, List, length, ap, ◌∙◌, arith}
use Rattle.alpha_words.specs.declared.Level.TheVariants as levels
use Rattle.alpha_image.specs.Reading.{words_of}
use Rattle.alpha_image.proofs.CodeWords.{words_of-flat_map, length-flat_map_longword}
use Rattle.alpha_trial.specs.Words.{program_words, trial_image}
use Rattle.alpha_trial.proofs.DecodedProgram.{program_words-IsLevelOneWord}
use Rattle.alpha_trial.proofs.program.trial_image.Goals as goal

pub build-requires : goal.build-requires
build-requires c =
    let size : length c.deref.result.now ≡ 4 * length (program_words c.args.n) =
    ap length (c.deref.ensures.value ∙ c.in_ok-code.ensures) ∙ length-flat_map_longword (program_words c.args.n) in
    omega arith

pub returns-in-Ok-clause-parts : goal.returns-in-Ok-clause-parts
returns-in-Ok-clause-parts c =
    let words : words_of c.deref.result.now ≡ program_words c.args.n =
    ap words_of (c.deref.ensures.value ∙ c.in_ok-code.ensures)
    ∙ words_of-flat_map levels.One (program_words c.args.n) (program_words-IsLevelOneWord c.args.n) in
    c.in-Ok.ensures.parts ∙ ap (λ (ws : List ℕ). record (trial_image c.args.n) { words = ws }) words
