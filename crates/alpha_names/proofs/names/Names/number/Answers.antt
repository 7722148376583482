use Rattle.std.proofs.Common.{ap, ◌∙◌}
use Rattle.std.specs.Prelude.{position}
use Rattle.std.specs.Str.{bytes_eq}
use Rattle.alpha_names.proofs.NumberedNames.{number_in-position}
use Rattle.alpha_names.proofs.names.Names.number.Goals as goal

pub returns : goal.returns
returns c =
    c.number.ensures
    ∙ (number_in-position c.self.inside.names.items c.self.inside.numbers c.self.invariant c.args.name.now
    ∙ ap (position (bytes_eq c.args.name.now)) c.self.view_is)
