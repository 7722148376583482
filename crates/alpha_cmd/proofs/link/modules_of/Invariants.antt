use Rattle.std.proofs.Common.{◌≡◌, List, length, map, drop}
use Rattle.alpha_link.specs.Parts.{ModuleParts}
use Rattle.alpha_cmd.specs.Outcome.{Outcome, Each}
use Rattle.alpha_cmd.specs.Commands.Link.{ModuleOf, ModulesOf}
use Rattle.alpha_cmd.proofs.link.modules_of.Given as goal

abbrev pub invariant-loop-number : goal.invariant-loop-number
invariant-loop-number l = record {
  rest : (o : Outcome (List ModuleParts))
      → Each (λ before bytes. ModuleOf (length before) bytes) l.all.items
      (map (λ file. file.items) (drop l.number l.files)) o
      → ModulesOf (map (λ file. file.items) l.files) o;
  count : length l.all.items ≡ l.number;
}
