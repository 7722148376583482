use Rattle.std.proofs.Common.{ap, ⊎_elim}
use Rattle.alpha_table.proofs.DecodedInsns.{is_told, Decodes-matching_row}
use Rattle.alpha_table.proofs.decoder.row_by_rest.Goals as goal

pub returns-in-Mem-clause-found : goal.returns-in-Mem-clause-found
returns-in-Mem-clause-found c =
    Decodes-matching_row c.args.w.0 c.args.row c.requires
    (⊎_elim (λ (op, e). ap is_told e) (⊎_elim (λ (op, e). ap is_told e) (⊎_elim (λ e. ap is_told e)
    (⊎_elim (λ (op, e). ap is_told e) (⊎_elim (λ (modify, e). ap is_told e) (λ (call, e). ap is_told e)))))
    c.in-Mem.is)
