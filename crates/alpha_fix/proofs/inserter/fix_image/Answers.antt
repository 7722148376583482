use Rattle.std.proofs.Common.{arith}
use Rattle.std.proofs.lemmas.Grind.{common_steps}
use Rattle.alpha_fix.proofs.SourcePrograms.{no_cuts-IsFixedSource}
use Rattle.alpha_fix.proofs.inserter.fix_image.Goals as goal

pub returns-then-is_empty-clause-ok : goal.returns-then-is_empty-clause-ok
returns-then-is_empty-clause-ok c =
    no_cuts-IsFixedSource c.args.source.now c.in-Ok.cuts.items c.in_ok-from_slice-in-Ok.field-0.items c.args.image.now
    (record {
      has_image = record { good = c.words-words.ensures.good; assembles = c.requires.image };
      sound = c.in-Ok.ensures.sound;
      are_cuts = c.in-Ok.ensures.ok;
    })
    (grind (arith, common_steps)) c.in_ok-from_slice-in-Ok.ensures.items
