use Rattle.alpha_token.specs.Tokens.{tokens}
use Rattle.alpha_text.proofs.LineFaults.{read-fault, IsLine-no_fault}
use Rattle.alpha_text.proofs.Lines.{read-is}
use Rattle.alpha_text.proofs.CarriageReturns.{read-with_return}
use Rattle.alpha_text.proofs.CanonicalLines.{reads_back, canon-injective}
use Rattle.alpha_text.proofs.laws.laws_of_lines.Goals as goal

pub returns-clause-grammar : goal.returns-clause-grammar
returns-clause-grammar c = read-is

pub returns-clause-fault : goal.returns-clause-fault
returns-clause-fault c = read-fault

pub returns-clause-faultless : goal.returns-clause-faultless
returns-clause-faultless c = λ line. IsLine-no_fault (tokens line)

pub returns-clause-reads_back : goal.returns-clause-reads_back
returns-clause-reads_back c = reads_back

pub returns-clause-returned : goal.returns-clause-returned
returns-clause-returned c = read-with_return

pub returns-clause-different : goal.returns-clause-different
returns-clause-different c = canon-injective
