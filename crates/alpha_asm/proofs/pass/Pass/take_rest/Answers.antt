use Rattle.std.proofs.Common.{◌∙◌}
use Rattle.alpha_text.specs.Reading.{line_stmt_of}
use Rattle.alpha_text.proofs.StatementBounds.{read-within}
use Rattle.alpha_asm.proofs.LineRefusals.{bad_line, item_line, PassSimulates-next_line}
use Rattle.alpha_asm.proofs.pass.Pass.take_rest.Goals as goal

pub take_item-requires-clause-within : goal.take_item-requires-clause-within
take_item-requires-clause-within c = read-within c.args.line.now (line_stmt_of c.in-Ok.item) c.in-Ok.ensures

pub returns-in_ok-push-in-Ok-take_item-clause-ok : goal.returns-in_ok-push-in-Ok-take_item-clause-ok
returns-in_ok-push-in-Ok-take_item-clause-ok c = λ is s.
    PassSimulates-next_line c.args.kind is c.args.line.now
    (line_stmt_of c.in-Ok.item) _ _ s c.in-Ok.ensures c.in-Ok-take_item.ensures.taken c.in-Ok-take_item.ensures.ok

pub returns-in_ok-push-in-Ok-take_item-clause-taken : goal.returns-in_ok-push-in-Ok-take_item-clause-taken
returns-in_ok-push-in-Ok-take_item-clause-taken c = λ is s.
    item_line c.args.kind is c.args.line.now (line_stmt_of c.in-Ok.item) _ s c.requires.size c.in-Ok.ensures
    ∙ c.in-Ok-take_item.ensures.taken

pub returns-in-Err-take_item-clause-refused : goal.returns-in-Err-take_item-clause-refused
returns-in-Err-take_item-clause-refused c = λ other is s.
    item_line c.args.kind is c.args.line.now (line_stmt_of c.in-Ok.item) _ s c.requires.size c.in-Ok.ensures
    ∙ c.in-Err-take_item.ensures.refused other

pub returns-in-Err-clause-refused : goal.returns-in-Err-clause-refused
returns-in-Err-clause-refused c =
    λ other is s. bad_line c.args.kind is c.args.line.now c.in-Err.fault _ s c.requires.size c.in-Err.ensures
