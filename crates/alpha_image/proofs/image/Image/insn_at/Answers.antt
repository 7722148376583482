use Rattle.std.proofs.Common.{◌≡◌, ℕ, List, Some, map, slice_get, slice_index, ap, sym, subst, ◌∙◌}
use Rattle.std.specs.Option.{option_and_then}
use Rattle.alpha_table.specs.declared.form.Form.{Form}
use Rattle.alpha_table.specs.Decoded.{decoded}
use Rattle.alpha_table.specs.Encoded.{encoded}
use Rattle.alpha_image.specs.Parts.{Parts}
use Rattle.alpha_table.proofs.CodeWords.{class_at-decoded_word, decoded_there, decoded_within}
use Rattle.alpha_image.proofs.CodeInsns.{get_or-map_encoded}
use Rattle.alpha_image.proofs.image.Image.insn_at.Goals as goal

pub returns-clause-found : goal.returns-clause-found
returns-clause-found c =
    let insns = c.self.inside.insns.items in
    let at : slice_get insns c.args.place ≡ Some c.insn_in.result =
    ap (λ (l : List Form). slice_get l c.args.place) (sym c.deref.ensures.value) ∙ c.insn_in.ensures in
    subst (λ (ws : List ℕ). option_and_then decoded (slice_get ws c.args.place) ≡ Some c.insn_in.result)
    (ap (λ (p : Parts). p.words) c.self.view_is)
    (decoded_there (map encoded insns) insns c.args.place c.insn_in.result c.self.invariant.insns at)

pub returns-clause-value : goal.returns-clause-value
returns-clause-value c =
    decoded_within c.args.self.now.words c.args.place c.insn_in.result c.requires (returns-clause-found c)

pub returns-clause-word : goal.returns-clause-word
returns-clause-word c =
    let insns = c.self.inside.insns.items in
    let at : slice_get insns c.args.place ≡ Some c.insn_in.result =
    ap (λ (l : List Form). slice_get l c.args.place) (sym c.deref.ensures.value) ∙ c.insn_in.ensures in
    subst (λ (ws : List ℕ). slice_index ws c.args.place ≡ encoded c.insn_in.result)
    (ap (λ (p : Parts). p.words) c.self.view_is)
    (get_or-map_encoded insns c.args.place c.insn_in.result at)

pub returns-clause-class : goal.returns-clause-class
returns-clause-class c =
    class_at-decoded_word c.args.self.now.words c.args.place c.insn_in.result (returns-clause-found c)
