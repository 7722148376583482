use Rattle.alpha_fix.proofs.FixedText.{is_cut-not_first}
use Rattle.alpha_fix.proofs.barriers.take_cut.Goals as goal

pub returns-else-cut-place-clause-cut : goal.returns-else-cut-place-clause-cut
returns-else-cut-place-clause-cut c =
    is_cut-not_first c.args.cuts.now c.args.place c.requires c.in-len1-up.len_at_least c.if-cut-place.false
