use Rattle.alpha_table.proofs.DecodedInsns.{decoded-is_Row}
use Rattle.alpha_table.proofs.OpcodeTables.{rows_suit}
use Rattle.alpha_table.proofs.decoder.decode_inline.Goals as goal

pub row_in-requires-clause-rows : goal.row_in-requires-clause-rows
row_in-requires-clause-rows c = rows_suit

pub returns-clause-value : goal.returns-clause-value
returns-clause-value c = decoded-is_Row c.args.w.0 c.insn_by.result c.insn_by.ensures.row c.insn_by.ensures.none
