use Rattle.std.proofs.Common.{refl}
use Rattle.alpha_quick.specs.Parts.{nothing_said}
use Rattle.alpha_asm.proofs.ItemsWithoutEffect.{adds_nothing}
use Rattle.alpha_asm.proofs.LineRefusals.{nothing_here}
use Rattle.alpha_asm.proofs.pass.Pass.take_blank.Goals as goal

pub returns-clause-ok : goal.returns-clause-ok
returns-clause-ok c = record {
  labels = λ name. refl;
  statement = adds_nothing nothing_said c.args.self.now _ refl refl;
}

pub returns-clause-taken : goal.returns-clause-taken
returns-clause-taken c = λ kind. nothing_here kind c.args.self.now
