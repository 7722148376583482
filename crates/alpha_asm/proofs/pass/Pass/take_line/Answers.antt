use Rattle.std.proofs.Common.{[], ◌∷◌, ◌++◌, ◌∙◌, ap, refl, sym}
use Rattle.alpha_text.specs.Reading.{LineStmt}
use Rattle.alpha_quick.specs.Parts.{unlabelled, nothing_said}
use Rattle.alpha_asm.specs.LineKinds.{line_kind}
use Rattle.alpha_asm.proofs.LineRefusals.{long_line, read_insn, insn_at, read_item, item_at-same, item_line}
use Rattle.alpha_asm.proofs.LineRefusals.{PassSimulates-next_line}
use Rattle.alpha_asm.proofs.pass.Pass.take_line.Goals as goal

pub returns-then-line-gt-LONGEST_LINE-clause-refused : goal.returns-then-line-gt-LONGEST_LINE-clause-refused
returns-then-line-gt-LONGEST_LINE-clause-refused c =
    λ other is s. long_line c.args.kind is _ _ s c.if-line-gt-LONGEST_LINE.true

pub returns-in_ok-push_insn-in-Ok-take_code-clause-ok : goal.returns-in_ok-push_insn-in-Ok-take_code-clause-ok
returns-in_ok-push_insn-in-Ok-take_code-clause-ok c = λ is s.
    PassSimulates-next_line c.args.kind is c.args.line.now (unlabelled c.in-Ok.insn) _ _ s
    (read_insn c.args.line.now c.in-Ok.insn c.in-Ok.ensures.line)
    (c.in-Ok-take_code.ensures.taken c.args.kind) c.in-Ok-take_code.ensures.ok

pub returns-in_ok-push_insn-in-Ok-take_code-clause-taken : goal.returns-in_ok-push_insn-in-Ok-take_code-clause-taken
returns-in_ok-push_insn-in-Ok-take_code-clause-taken c = λ is s.
    item_line c.args.kind is c.args.line.now (unlabelled c.in-Ok.insn) _ s c.if-line-gt-LONGEST_LINE.false
    (read_insn c.args.line.now c.in-Ok.insn c.in-Ok.ensures.line)
    ∙ c.in-Ok-take_code.ensures.taken c.args.kind

pub returns-in_ok-push_insn-in-Ok-take_code-clause-kinds : goal.returns-in_ok-push_insn-in-Ok-take_code-clause-kinds
returns-in_ok-push_insn-in-Ok-take_code-clause-kinds c = λ gathers.
    c.in_ok-push_insn-in-Ok-take_code.ensures.items gathers
    ∙ ap (λ (i : LineStmt). c.args.kinds.now.items.items ++ (line_kind i ∷ []))
    (sym (insn_at c.args.line.now c.in-Ok.insn c.in-Ok.ensures.line))

pub returns-in-Err-take_code-clause-refused : goal.returns-in-Err-take_code-clause-refused
returns-in-Err-take_code-clause-refused c = λ other is s.
    item_line c.args.kind is c.args.line.now (unlabelled c.in-Ok.insn) _ s c.if-line-gt-LONGEST_LINE.false
    (read_insn c.args.line.now c.in-Ok.insn c.in-Ok.ensures.line)
    ∙ c.in-Err-take_code.ensures.refused other c.args.kind

pub returns-in_ok-push_blank-in-Err-clause-ok : goal.returns-in_ok-push_blank-in-Err-clause-ok
returns-in_ok-push_blank-in-Err-clause-ok c = λ is s.
    PassSimulates-next_line c.args.kind is c.args.line.now nothing_said _ _ s
    (read_item c.args.line.now nothing_said (c.if-is_blank.ensures refl c.args.line.now c.in-Err.ensures.left))
    (c.take_blank.ensures.taken c.args.kind) c.take_blank.ensures.ok

pub returns-in_ok-push_blank-in-Err-clause-taken : goal.returns-in_ok-push_blank-in-Err-clause-taken
returns-in_ok-push_blank-in-Err-clause-taken c = λ is s.
    item_line c.args.kind is c.args.line.now nothing_said _ s c.if-line-gt-LONGEST_LINE.false
    (read_item c.args.line.now nothing_said (c.if-is_blank.ensures refl c.args.line.now c.in-Err.ensures.left))
    ∙ c.take_blank.ensures.taken c.args.kind

pub returns-in_ok-push_blank-in-Err-clause-kinds : goal.returns-in_ok-push_blank-in-Err-clause-kinds
returns-in_ok-push_blank-in-Err-clause-kinds c = λ gathers.
    c.in_ok-push_blank-in-Err.ensures.items gathers
    ∙ ap (λ (i : LineStmt). c.args.kinds.now.items.items ++ (line_kind i ∷ []))
    (sym (item_at-same c.args.line.now nothing_said
    (c.if-is_blank.ensures refl c.args.line.now c.in-Err.ensures.left)))
