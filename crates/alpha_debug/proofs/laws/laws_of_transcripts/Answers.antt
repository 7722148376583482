use Rattle.alpha_debug.proofs.Transcripts.{IsTranscript-exists, IsTranscript-unique}
use Rattle.alpha_debug.proofs.laws.laws_of_transcripts.Goals as goal

pub returns-clause-some : goal.returns-clause-some
returns-clause-some c image script = IsTranscript-exists image script

pub returns-clause-one : goal.returns-clause-one
returns-clause-one c image script t u p q same = IsTranscript-unique image script t u p q same
