use Rattle.alpha_round.proofs.SameImage.{IsSourceOf-listing, listing-injective}
use Rattle.alpha_round.proofs.ListingSizes.{length-listing}
use Rattle.alpha_round.proofs.laws.laws_of_listings.Goals as goal

pub returns : goal.returns
returns c = record {
  listing = IsSourceOf-listing;
  different = listing-injective;
  bound = length-listing;
}
