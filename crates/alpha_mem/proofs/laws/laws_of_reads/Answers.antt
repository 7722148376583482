use Rattle.alpha_mem.proofs.LawLemmas.{memory-extensional, slice_index-bytes_at, length-bytes_at, bytes_at-agree}
use Rattle.alpha_mem.proofs.laws.laws_of_reads.Goals as goal

pub returns-clause-same : goal.returns-clause-same
returns-clause-same c = memory-extensional

pub returns-clause-each : goal.returns-clause-each
returns-clause-each c = slice_index-bytes_at

pub returns-clause-sized : goal.returns-clause-sized
returns-clause-sized c = length-bytes_at

pub returns-clause-agreeing : goal.returns-clause-agreeing
returns-clause-agreeing c = bytes_at-agree
