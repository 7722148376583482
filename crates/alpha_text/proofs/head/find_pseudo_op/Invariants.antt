use Rattle.std.proofs.Common.{◌≡◌, drop, find}
use Rattle.std.specs.Str.{bytes_eq}
use Rattle.alpha_text.specs.Heads.{pseudo_op_name}
use Rattle.alpha_text.proofs.head.find_pseudo_op.Given as goal

-- those that are left decide
abbrev pub invariant-loop-pseudo_op : goal.invariant-loop-pseudo_op
invariant-loop-pseudo_op l =
    find (λ o. bytes_eq (pseudo_op_name o) l.name) (drop l.pseudo_op-index l.pseudo_ops)
    ≡ find (λ o. bytes_eq (pseudo_op_name o) l.name) l.pseudo_ops
