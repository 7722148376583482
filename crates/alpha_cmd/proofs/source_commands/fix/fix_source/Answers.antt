use Rattle.std.proofs.Common.{subst, inl}
use Rattle.alpha_fix.specs.Fix.{Refuses}
use Rattle.alpha_cmd.proofs.SourceCommands.Fix.{unfixable_at}
use Rattle.alpha_cmd.proofs.source_commands.fix.fix_source.Goals as goal

pub returns-in-Err-Unfixable : goal.returns-in-Err-Unfixable
returns-in-Err-Unfixable c =
    let is = subst (Refuses c.args.source.now) c.in-Err-Unfixable.field-0-is c.in-Err-Unfixable.ensures.refused in
    record {
      ok = tt;
      refused = inl (unfixable_at c.args.source.now c.in-Err-Unfixable.broken c.in-Err-Unfixable.base is);
    }
