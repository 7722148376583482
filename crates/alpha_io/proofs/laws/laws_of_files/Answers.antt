use Rattle.std.proofs.Common.{◌≡◌}
use Rattle.alpha_io.proofs.ShelfLaws.{KeepsFiles-refl, KeepsFiles-trans, KeepsFiles-sym, KeepsOtherFiles-kept}
use Rattle.alpha_io.proofs.ShelfLaws.{IfTold-kept, Lacks-kept, Lacks-not_told}
use Rattle.alpha_io.proofs.laws.laws_of_files.Goals as goal

pub returns : goal.returns
returns c = record {
  same = KeepsFiles-refl;
  joined = KeepsFiles-trans;
  turned = KeepsFiles-sym;
  others = KeepsOtherFiles-kept;
  there = λ a b name bytes. IfTold-kept a b name (λ file. file ≡ bytes);
  missing = Lacks-kept;
  apart = λ a name bytes. Lacks-not_told a name (λ file. file ≡ bytes);
}
