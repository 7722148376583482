use Rattle.std.proofs.Common.{sym, refl}
use Rattle.alpha_table.specs.ClassOf.{class_of}
use Rattle.alpha_table.proofs.CodeWords.{class_at-decoded_word}
use Rattle.alpha_shadow.proofs.WordColumns.{kind_at-class, kind_within}
use Rattle.alpha_shadow.proofs.columns.Columns.of.Goals as goal

pub returns-clause-columns : goal.returns-clause-columns
returns-clause-columns c = λ code at here.
    let e = class_at-decoded_word code at c.args.insn here in
    let kind = kind_at-class code at (class_of c.args.insn) c.kind.result e c.kind.ensures in
    record {
      within = kind_within code at c.kind.result kind;
      kind = kind;
      sets = rw e (sym c.sets.ensures.value);
      uses = λ r. rw e (c.uses.ensures r);
      access = rw e refl;
    }
