use Rattle.std.proofs.Common.{◌≡◌, ap, sym, subst, ◌∙◌, rules}
use Rattle.std.specs.List.{filter_map}
use Rattle.alpha_table.specs.Decoded.{decoded}
use Rattle.alpha_asm.proofs.FinishedProgram.{filter_map-decoded}
use Rattle.alpha_link.specs.Parts.{ModuleParts, IsModule}
use Rattle.alpha_link.specs.Linked.{Located}
use Rattle.alpha_link.proofs.output.Output.append.Goals as goal

pub returns-clause-code : goal.returns-clause-code
returns-clause-code c =
    let words =
    ap (λ (m : ModuleParts). m.words) c.module.view_is ∙ ap (λ (l : Located). l.parts.words) c.located.view_is in
    let insns : filter_map decoded c.args.located.now.parts.words ≡ c.module.inside.insns.items =
    ap (filter_map decoded) (sym words) ∙ filter_map-decoded _ _ c.module.invariant.insns in
    rw insns (search rules)

pub returns-clause-good : goal.returns-clause-good
returns-clause-good c =
    subst IsModule (c.module.view_is ∙ ap (λ (l : Located). l.parts) c.located.view_is) c.module.invariant.good
