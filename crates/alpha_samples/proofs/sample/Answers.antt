use Rattle.std.proofs.Common.{◌≡◌, ◌*◌, ℕ, List, length, ap, ◌∙◌, arith}
use Rattle.std.proofs.lemmas.Result.{IfOk-weaker}
use Rattle.alpha_image.specs.Reading.{words_of}
use Rattle.alpha_image.specs.Parts.{Parts}
use Rattle.alpha_image.proofs.CodeWords.{length-flat_map_longword}
use Rattle.alpha_samples.specs.Sample.{sample}
use Rattle.alpha_samples.proofs.Words.{words_of-words}
use Rattle.alpha_samples.proofs.sample.Goals as goal

pub build-requires : goal.build-requires
build-requires c =
    let size : length c.deref.result.now ≡ 4 * length c.args.words.now =
    ap length (c.deref.ensures.value ∙ c.in_ok-code.ensures) ∙ length-flat_map_longword c.args.words.now in
    omega arith

pub returns : goal.returns
returns c =
    let words : words_of c.deref.result.now ≡ c.args.words.now =
    ap words_of (c.deref.ensures.value ∙ c.in_ok-code.ensures)
    ∙ words_of-words c.args.words.now (λ k. omega (arith, c.type_inv.words k)) in
    let code = c.deref.result.now in
    IfOk-weaker c.build.result
    (λ (image : Parts). image ≡ record (sample c.args.words.now c.args.zeroed) { words = words_of code })
    (λ (image : Parts). image ≡ sample c.args.words.now c.args.zeroed)
    (λ image is. is ∙ ap (λ (ws : List ℕ). record (sample c.args.words.now c.args.zeroed) { words = ws }) words)
    c.build.ensures.parts
