use Rattle.std.proofs.Common.{ℕ, List, ap, ◌∙◌}
use Rattle.std.specs.Prelude.{position, is_some}
use Rattle.std.specs.Borrow.{Bor}
use Rattle.std.specs.Str.{bytes_eq}
use Rattle.alpha_names.proofs.NameValues.{any_has_place, has_value}
use Rattle.alpha_asm.specs.Labels.{are_among}
use Rattle.alpha_asm.proofs.FinishedProgram.{IfOk-map}
use Rattle.alpha_asm.proofs.label.Labels.names.Goals as goal

pub returns-clause-defined : goal.returns-clause-defined
returns-clause-defined c = IfOk-map c.copy_names.result c.copy_names.ensures (λ names e name.
    ap (λ (ns : List (Bor (List ℕ))). are_among ns name) e
    ∙ (any_has_place c.names.result.now name
    ∙ (ap (λ (ns : List (List ℕ)). is_some (position (bytes_eq name) ns)) c.names.ensures
    ∙ has_value c.args.self.now.locations.items c.args.self.now.names name c.args.self.now.alike)))
