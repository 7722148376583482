use Rattle.std.proofs.Common.{map}
use Rattle.alpha_cmd.proofs.StageLaws.{IfOk-more}
use Rattle.alpha_cmd.proofs.link.read_and_link.Goals as goal

pub returns-clause-read : goal.returns-clause-read
returns-clause-read g c =
    IfOk-more c.link_files.result
    (λ v is. (map (λ file. file.items) c.in_ok-files.files.items, c.in_ok-files.ensures.read, is))
    c.link_files.ensures.ok
