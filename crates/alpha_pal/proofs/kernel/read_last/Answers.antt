use Rattle.std.proofs.lemmas.List.{take_rest}
use Rattle.alpha_pal.proofs.kernel.read_last.Goals as goal

pub returns-clause-bytes : goal.returns-clause-bytes
returns-clause-bytes c = take_rest c.args.stack.now 4048
