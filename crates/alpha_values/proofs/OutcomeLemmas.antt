-- What an operate instruction leaves, against its result.
use Rattle.std.proofs.Common.{◌≡◌, ℕ, Bool, true, false, cond, Option, Some, None, refl, ◌∙◌}
use Rattle.std.specs.Option.{option_map_or}
use Rattle.alpha_words.specs.declared.Level.{Level}
use Rattle.alpha_words.specs.declared.Completion.TheVariants.{Wrap}
use Rattle.alpha_table.specs.declared.op.Op.{Op}
use Rattle.alpha_table.specs.declared.op.TrapOp.{TrapOp}
use Rattle.alpha_table.specs.Op.{trap_of}
use Rattle.alpha_values.specs.TrapOp.{overflow_of, completed_of}
use Rattle.alpha_values.specs.Op.{result_of}
use Rattle.alpha_values.specs.Outcome.{overflows_at, outcome_of}
use Rattle.alpha_values.proofs.LawLemmas.{completed-wrap}

-- where something is left it is the result
pub outcome-some : (level : Level) (op : Op) (a b old v : ℕ) → Some v ≡ outcome_of level op a b old
    → v ≡ result_of level op a b old
outcome-some level op a b old v e = by (overflows_at op a b) e
  where
    by : (over : Bool) → Some v ≡ cond over None (Some (result_of level op a b old)) → v ≡ result_of level op a b old
    by true h = absurd cc
    by false h = cc

-- where nothing is, the row has `/V`
pub outcome-none : (level : Level) (op : Op) (a b old v : ℕ) → None ≡ outcome_of level op a b old
    → ((trap : TrapOp) → trap_of op ≡ Some trap → v ≡ completed_of trap a b Wrap)
    → v ≡ result_of level op a b old
outcome-none level op a b old v e wraps = by (trap_of op) refl e
  where
    by : (o : Option TrapOp) → trap_of op ≡ o
        → None ≡ cond (option_map_or (λ trap. overflow_of trap a b) o false) None (Some (result_of level op a b old))
        → v ≡ result_of level op a b old
    by None is h = absurd cc
    by (Some trap) is h = wraps trap is ∙ completed-wrap level op trap a b old is
