use Rattle.alpha_shadow.proofs.verdict.judge.Goals as goal

pub judge_by-requires : goal.judge_by-requires
judge_by-requires g c = c.empty.ensures (g.F.Fetch.code c.args.code.now)
