use Rattle.alpha_token.proofs.QuotedTexts.{first-string, IsTextOf-unique}
use Rattle.alpha_token.proofs.laws.laws_of_strings.Goals as goal

pub returns-clause-string : goal.returns-clause-string
returns-clause-string c = first-string

pub returns-clause-one : goal.returns-clause-one
returns-clause-one c = IsTextOf-unique
