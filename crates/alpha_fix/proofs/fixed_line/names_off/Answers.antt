use Rattle.std.proofs.Common.{◌∙◌, sym, ap}
use Rattle.std.specs.List.{list_any}
use Rattle.alpha_text.specs.Statements.{stmt_of}
use Rattle.alpha_fix.specs.FixedLines.{items_of, has_offset, names_code, references}
use Rattle.alpha_fix.proofs.ValueOffsets.{none_in_text}
use Rattle.alpha_fix.proofs.fixed_line.names_off.Goals as goal

pub returns-in-Text : goal.returns-in-Text
returns-in-Text c =
    none_in_text (has_offset (names_code (items_of c.args.symbols.now))) c.in-Text.field-0.now
    ∙ ap (λ s. list_any (has_offset (names_code (items_of c.args.symbols.now))) (references (stmt_of s)))
    (sym c.in-Text.is)
