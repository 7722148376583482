use Rattle.alpha_io.proofs.ReadAnswers.{ReadCause-lacks, ReadCause-within, ReadCause-past}
use Rattle.alpha_io.proofs.laws.laws_of_reading.Goals as goal

pub returns : goal.returns
returns c = record { missing = ReadCause-lacks; within = ReadCause-within; past = ReadCause-past }
