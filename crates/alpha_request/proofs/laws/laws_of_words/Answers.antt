use Rattle.alpha_request.proofs.AskedBy.{asked-AsksBy_iff}
use Rattle.alpha_request.proofs.PlainWords.{plain_check, plain_run, plain_imprecise}
use Rattle.alpha_request.proofs.laws.laws_of_words.Goals as goal

pub returns : goal.returns
returns c = record { by_rows = asked-AsksBy_iff; check = plain_check; run = plain_run; imprecise = plain_imprecise }
