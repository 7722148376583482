use Rattle.std.proofs.Common.{ap, sym, ◌∙◌}
use Rattle.std.specs.List.{list_all}
use Rattle.alpha_link.specs.Parts.{ModuleParts}
use Rattle.alpha_link.specs.Symbols.{Named}
use Rattle.alpha_link.specs.Linked.{Located, is_defined}
use Rattle.alpha_link.specs.Names.{found_in}
use Rattle.alpha_link.proofs.OwnAddresses.{address_by_own-Knows, owned-all_defined}
use Rattle.alpha_link.proofs.table.Names.addresses.Goals as goal

pub returns-then-defines_all-clause-value : goal.returns-then-defines_all-clause-value
returns-then-defines_all-clause-value c =
    let same =
    ap (λ (m : ModuleParts). m.symbols) c.module.view_is ∙ ap (λ (l : Located). l.parts.symbols) c.located.view_is in
    c.of_module.ensures
    ∙ owned-all_defined (found_in c.args.self.now) c.args.located.now c.requires
    (ap (list_all (λ (s : Named). is_defined s.section)) (sym same)
    ∙ (sym c.defines_all.ensures ∙ c.if-defines_all.true))

pub returns-clause-value : goal.returns-clause-value
returns-clause-value c =
    c.new.ensures
    ∙ (c.in_ok-listed.ensures ∙ address_by_own-Knows (found_in c.args.self.now) c.args.located.now c.requires)
