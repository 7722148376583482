use Rattle.alpha_names.specs.declared.others.Others.{Others}
use Rattle.alpha_names.proofs.NumberLookups.{grows_other}
use Rattle.alpha_names.proofs.others.Others.add.Goals as goal

pub returns-clause-ok : goal.returns-clause-ok
returns-clause-ok g c = λ added.
    let old : Others = c.args.self.now in
    let new : Others = record { numbers = c.insert.new.self } in
    grows_other old new c.args.name.now c.args.number c.in_ok-insert.ensures.updates.0
