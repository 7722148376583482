use Rattle.std.proofs.Common.{[], map}
use Rattle.std.specs.Str.Lines.{lines}
use Rattle.alpha_asm.specs.Assembled.{item_at}
use Rattle.alpha_asm.proofs.ModuleLines.{lines_unlinked, level_unset}
use Rattle.alpha_asm.proofs.unlinked.Unlinked.of.Goals as goal

pub returns-clause-good : goal.returns-clause-good
returns-clause-good c = lines_unlinked [] (lines c.args.source.now) c.in_ok-pass.ensures.taken

pub returns-clause-level : goal.returns-clause-level
returns-clause-level c =
    let is = map item_at (lines c.args.source.now) in
    c.in_ok-of_pass.ensures.level is c.in_ok-pass.ensures.stands
    (level_unset is (lines_unlinked [] (lines c.args.source.now) c.in_ok-pass.ensures.taken))
