use Rattle.std.proofs.Common.{◌≡◌, map, drop}
use Rattle.alpha_operands.specs.Names.{named}
use Rattle.alpha_operands.proofs.names.find_number.Given as goal

-- the rows that are left decide
abbrev pub invariant-loop-row : goal.invariant-loop-row
invariant-loop-row l =
    named (map (λ r. (r.name.now, r.number)) (drop l.row-index l.rows)) l.name
    ≡ named (map (λ r. (r.name.now, r.number)) l.rows) l.name
