use Rattle.std.proofs.Common.{List, ℕ, subst}
use Rattle.alpha_cmd.specs.SourceCommands.{Bytes}
use Rattle.alpha_cmd.specs.Outcome.{continues}
use Rattle.alpha_cmd.proofs.StageLaws.{IfOk-more}
use Rattle.alpha_cmd.proofs.source_commands.bytes_of_source.Goals as goal

pub returns-clause-read : goal.returns-clause-read
returns-clause-read g c =
    IfOk-more c.bytes_of.result (λ v is. (
      c.in_ok-source.source.items,
      c.in_ok-source.ensures.read,
      subst (λ (source : List ℕ). Bytes c.args.command source (continues v.items)) c.as_slice.ensures.value is,
    )) c.bytes_of.ensures.ok
