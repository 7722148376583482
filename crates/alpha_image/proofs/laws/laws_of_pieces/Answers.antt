use Rattle.alpha_image.proofs.SegmentShares.{length-pieces_of, flat_map-pieces_of}
use Rattle.alpha_image.proofs.laws.laws_of_pieces.Goals as goal

pub returns-clause-bytes : goal.returns-clause-bytes
returns-clause-bytes c = λ p good. flat_map-pieces_of p.segments p.bytes good.filled

pub returns-clause-count : goal.returns-clause-count
returns-clause-count c = λ p. length-pieces_of p.segments p.bytes
