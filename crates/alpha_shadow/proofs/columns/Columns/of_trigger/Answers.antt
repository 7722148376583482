use Rattle.std.proofs.Common.{sym, refl}
use Rattle.alpha_table.specs.ClassOf.{class_of}
use Rattle.alpha_table.specs.declared.columns.InsnKind.TheVariants as kinds
use Rattle.alpha_table.proofs.CodeWords.{class_at-decoded_word}
use Rattle.alpha_shadow.proofs.WordColumns.{kind_at-class, kind_within}
use Rattle.alpha_shadow.proofs.columns.Columns.of_trigger.Goals as goal

pub returns-clause-columns : goal.returns-clause-columns
returns-clause-columns c = λ code at here.
    let e = class_at-decoded_word code at c.args.insn here in
    let kind = kind_at-class code at (class_of c.args.insn) kinds.Trigger e (sym c.requires) in
    record {
      within = kind_within code at kinds.Trigger kind;
      kind = kind;
      sets = rw e (sym c.trigger_destination.ensures);
      uses = λ r. rw e (c.trigger_sources.ensures r);
      access = rw e refl;
    }
