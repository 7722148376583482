use Rattle.std.proofs.Common.{◌≡◌, Option, Ok, IfSome, subst}
use Rattle.alpha_table.specs.declared.form.Form.{Form}
use Rattle.alpha_text.specs.Reading.{read}
use Rattle.alpha_quick.specs.Parts.{unlabelled}
use Rattle.alpha_asm.specs.KnownLines.{IsKnown}
use Rattle.alpha_asm.specs.declared.kind.SourceKind.TheVariants as source_kinds
use Rattle.alpha_asm.proofs.LineRefusals.{long_line}
use Rattle.alpha_asm.proofs.KnownLines.{ok_read, taken_read, refused_read, ok_of_program, err_of_program}
use Rattle.alpha_asm.proofs.pass.Pass.take_known.Goals as goal

pub returns-in-Some-clause-ok : goal.returns-in-Some-clause-ok
returns-in-Some-clause-ok c =
    let here : read c.args.line.now ≡ Ok (unlabelled c.in-Some.insn) =
    subst (λ (k : Option Form). IfSome k (IsKnown c.args.line.now)) c.in-Some.is c.requires.known in
    ok_read c.args.line.now (unlabelled c.in-Some.insn) here c.args.self.now c.take_code.new.self c.take_code.result
    c.take_code.ensures.ok
    (ok_of_program c.args.line.now (unlabelled c.in-Some.insn) here c.args.self.now c.take_code.new.self
    c.take_code.result c.take_code.ensures.taken)

pub returns-in-Some-clause-taken : goal.returns-in-Some-clause-taken
returns-in-Some-clause-taken c =
    let here : read c.args.line.now ≡ Ok (unlabelled c.in-Some.insn) =
    subst (λ (k : Option Form). IfSome k (IsKnown c.args.line.now)) c.in-Some.is c.requires.known in
    taken_read c.args.line.now (unlabelled c.in-Some.insn) here c.args.self.now c.take_code.new.self c.take_code.result
    c.if-line-gt-LONGEST_LINE.false
    (ok_of_program c.args.line.now (unlabelled c.in-Some.insn) here c.args.self.now c.take_code.new.self
    c.take_code.result c.take_code.ensures.taken)

pub returns-in-Some-clause-refused : goal.returns-in-Some-clause-refused
returns-in-Some-clause-refused c =
    let here : read c.args.line.now ≡ Ok (unlabelled c.in-Some.insn) =
    subst (λ (k : Option Form). IfSome k (IsKnown c.args.line.now)) c.in-Some.is c.requires.known in
    refused_read c.args.line.now (unlabelled c.in-Some.insn) here c.args.self.now c.take_code.new.self
    c.take_code.result c.if-line-gt-LONGEST_LINE.false
    (err_of_program c.args.line.now (unlabelled c.in-Some.insn) here c.args.self.now c.take_code.new.self
    c.take_code.result c.take_code.ensures.refused)

pub returns-then-line-gt-LONGEST_LINE-clause-refused : goal.returns-then-line-gt-LONGEST_LINE-clause-refused
returns-then-line-gt-LONGEST_LINE-clause-refused c =
    λ other is s. long_line source_kinds.Program is _ _ s c.if-line-gt-LONGEST_LINE.true
