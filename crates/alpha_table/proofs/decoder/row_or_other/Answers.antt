use Rattle.alpha_table.proofs.DecodedInsns.{Decodes-other_none}
use Rattle.alpha_table.proofs.decoder.row_or_other.Goals as goal

pub returns-in-Some-clause-none : goal.returns-in-Some-clause-none
returns-in-Some-clause-none c = Decodes-other_none c.args.w.0 c.in-Some.told c.in-Some.ensures.found
