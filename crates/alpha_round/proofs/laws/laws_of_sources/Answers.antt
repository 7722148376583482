use Rattle.alpha_round.proofs.SameImage.{IsSourceOf-unique}
use Rattle.alpha_round.proofs.UnrefusedSources.{IsSourceOf-exists}
use Rattle.alpha_round.proofs.laws.laws_of_sources.Goals as goal

pub returns : goal.returns
returns c = record {
  some_image = IsSourceOf-exists;
  one_image = IsSourceOf-unique;
}
