use Rattle.alpha_mem.proofs.LawLemmas.{little-bytes_at_lt, low_bytes-length, little-low_bytes}
use Rattle.alpha_mem.proofs.laws.laws_of_numbers.Goals as goal

pub returns-clause-read : goal.returns-clause-read
returns-clause-read c = little-bytes_at_lt

pub returns-clause-sized : goal.returns-clause-sized
returns-clause-sized c = low_bytes-length

pub returns-clause-read_back : goal.returns-clause-read_back
returns-clause-read_back c = little-low_bytes
