use Rattle.std.proofs.Common.{sym, subst, ◌∙◌}
use Rattle.alpha_link.specs.Output.{AreAfterCode}
use Rattle.alpha_link.proofs.JoinedModules.{AreAfterCode-located}
use Rattle.alpha_link.proofs.linker.link.Goals as goal

pub link_with_entry-requires-clause-stand : goal.link_with_entry-requires-clause-stand
link_with_entry-requires-clause-stand c =
    subst (AreAfterCode 0 0) (sym (c.deref-in-Some-entry_of.ensures.value ∙ c.in_ok-places.ensures))
    (AreAfterCode-located c.args.modules.now 0 0 0)
