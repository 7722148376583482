-- What a line is to whoever puts instructions before it.
use Rattle.std.specs.Prelude.{Bool, true, false, not, ◌&&◌, List, map, is_some, if◌then◌else◌}
use Rattle.alpha_table.specs.declared.form.Form.{Form}
use Rattle.alpha_text.specs.Statements.{Stmt}
use Rattle.alpha_text.specs.Statements as says
use Rattle.alpha_text.specs.Reading.{LineStmt}
use Rattle.alpha_asm.specs.declared.line_kind.LineKind.{LineKind}
use Rattle.alpha_asm.specs.declared.line_kind.LineKind.TheVariants.{Other, Insn, InsnAlone, PositionDependent}
use Rattle.alpha_asm.specs.declared.statement.RelocField.TheVariants.{Branch}
use Rattle.alpha_asm.specs.Statement.{applies_to, half_applies, is_zero}

-- an instruction, which names no place in its own way where this is so
abbrev pub insn_if : Bool → LineKind
insn_if free = if free then Insn else PositionDependent

-- an instruction alone, with no label
abbrev pub alone_if : Bool → LineKind
alone_if free = if free then InsnAlone else PositionDependent

-- an instruction that names no address, with a label or without one
abbrev pub code_kind : Bool → Form → LineKind
code_kind true insn = insn_if (not (applies_to Branch insn))
code_kind false insn = alone_if (not (applies_to Branch insn))

abbrev pub statement_kind : Bool → Stmt → LineKind
statement_kind labelled says.empty = Other
statement_kind labelled (says.code insn) = code_kind labelled insn
statement_kind labelled (says.target insn label offset) = insn_if (is_zero offset)
statement_kind labelled (says.high insn label offset) = insn_if (is_zero offset && half_applies insn)
statement_kind labelled (says.low insn label offset) = insn_if (is_zero offset && half_applies insn)
statement_kind labelled (says.level n) = Other
statement_kind labelled (says.segment base) = Other
statement_kind labelled (says.code_base n) = Other
statement_kind labelled (says.data_base n) = Other
statement_kind labelled (says.stack n) = Other
statement_kind labelled (says.entry_at n) = PositionDependent
statement_kind labelled (says.entry_label label offset) = PositionDependent
statement_kind labelled says.code_section = Other
statement_kind labelled says.data_section = Other
statement_kind labelled (says.zero n) = Other
statement_kind labelled (says.align n) = Other
statement_kind labelled (says.values bytes list) = PositionDependent
statement_kind labelled (says.text text) = Other

abbrev pub line_kind : LineStmt → LineKind
line_kind i = statement_kind (is_some i.label) i.statement

-- those of items
abbrev pub kinds_of : List LineStmt → List LineKind
kinds_of is = map line_kind is
