use Rattle.alpha_cmd.proofs.KeptReplay.{kept_replay, read_replay}
use Rattle.alpha_cmd.proofs.laws.laws_of_records.Goals as goal

pub returns-clause-kept : goal.returns-clause-kept
returns-clause-kept c = kept_replay

pub returns-clause-read : goal.returns-clause-read
returns-clause-read c = read_replay
