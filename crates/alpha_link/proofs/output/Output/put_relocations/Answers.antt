use Rattle.std.proofs.Common.{ap, ◌∙◌, refl, not}
use Rattle.alpha_link.specs.declared.relocation.Relocation.{Relocation}
use Rattle.alpha_link.specs.Parts.{ModuleParts}
use Rattle.alpha_link.specs.Linked.{Located, is_in_range}
use Rattle.alpha_link.proofs.LoopLists.{position_begins}
use Rattle.alpha_link.proofs.output.Output.put_relocations.Goals as goal

pub loop-number-init : goal.loop-number-init
loop-number-init c = record {
  relocations =
      c.deref-relocation-items.ensures.value
      ∙ (ap (λ (m : ModuleParts). m.relocations) c.module.view_is
      ∙ ap (λ (l : Located). l.parts.relocations) c.located.view_is);
  met =
      position_begins {A = Relocation}
      (λ r. not (is_in_range c.args.addresses.now c.args.located.now r)) c.deref-relocation-items.result.now;
  code = refl;
  bytes = refl;
}
