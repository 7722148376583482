use Rattle.std.proofs.Common.{ap, rules}
use Rattle.std.specs.Cmp.Lexicographic.{slice_cmp}
use Rattle.std.specs.Ordering.{nat_cmp, is_eq}
use Rattle.std.proofs.lemmas.Fn.{always_returns_same}
use Rattle.std.proofs.lemmas.Map.Lookups.{exact_bytes}
use Rattle.std.proofs.lemmas.Map.Views.{tells_apart}
use Rattle.alpha_table.specs.Names.{name_of}
use Rattle.alpha_table.proofs.NameSearches.{names-rise, name_of-none_equal}
use Rattle.alpha_table.proofs.names.find_name.Goals as goal

pub returns-in-Ok-clause-found : goal.returns-in-Ok-clause-found
returns-in-Ok-clause-found c =
    tells_apart exact_bytes _ c.args.name.now
    (ap is_eq
    (c.in-Ok.ensures.position (λ m. slice_cmp nat_cmp (name_of m) c.args.name.now)
    (always_returns_same _ _ _ (λ a r g called. search rules)) _))

pub returns-in-Err-clause-none : goal.returns-in-Err-clause-none
returns-in-Err-clause-none c =
    name_of-none_equal c.args.rows.now c.args.name.now _
    (c.in-Err.ensures.position (λ m. slice_cmp nat_cmp (name_of m) c.args.name.now)
    (always_returns_same _ _ _ (λ a r g called. search rules)) (names-rise c.args.rows.now c.requires c.args.name.now))
