-- A trigger, and its completed value by the registers.
use Rattle.std.specs.Prelude.{ℕ, List, Option, Some}
use Rattle.alpha_words.specs.declared.Completion.{Completion}
use Rattle.alpha_words.specs.Regs.{reg}
use Rattle.alpha_table.specs.declared.op.TrapOp.{TrapOp}
use Rattle.alpha_table.specs.declared.form.Src.{Src}
use Rattle.alpha_table.specs.Class.{Class, trigger}
use Rattle.alpha_values.specs.Source.{source_value}
use Rattle.alpha_values.specs.TrapOp.{completed_of}

-- its operation, its sources and its destination
pub record Trigger : Type 0 where
  pub op : TrapOp
  pub ra : ℕ
  pub src : Src
  pub rc : ℕ

abbrev pub trigger_word : Trigger → Option Class
trigger_word t = Some (trigger t.op t.ra t.src t.rc)

abbrev pub trigger_value : Completion → Trigger → List ℕ → ℕ
trigger_value completion t regs = completed_of t.op (reg regs t.ra) (source_value regs t.src) completion
