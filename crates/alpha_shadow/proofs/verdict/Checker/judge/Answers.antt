use Rattle.alpha_shadow.proofs.verdict.Checker.judge.Goals as goal

pub judge_by-requires : goal.judge_by-requires
judge_by-requires g c = c.begin.ensures (g.F.Fetch.code c.args.code.now)
