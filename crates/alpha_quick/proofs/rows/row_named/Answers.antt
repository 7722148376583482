use Rattle.alpha_table.specs.Names.{name_of}
use Rattle.alpha_quick.proofs.Keys.{IsKeyed-unique}
use Rattle.alpha_quick.proofs.rows.row_named.Goals as goal

pub returns-then-name-le8 : goal.returns-then-name-le8
returns-then-name-le8 c =
    IsKeyed-unique (name_of c.in_ok-row.row) c.args.name.now c.args.key.0 c.in_ok-row.ensures c.requires
    c.if-name-le8.true
