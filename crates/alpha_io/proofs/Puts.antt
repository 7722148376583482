-- What a sink took by one call more.
use Rattle.std.proofs.Common.{◌≡◌, ℕ, List, [], ◌∷◌, ◌++◌, sym, ap, ◌∙◌, append_assoc, append-nil}
use Rattle.alpha_io.specs.History.{Reply, Put, bytes_put, all_put}

pub all_put-more : (replies : List Reply) (bytes : List ℕ)
    → all_put (replies ++ Put bytes ∷ []) ≡ all_put replies ++ bytes
all_put-more [] bytes = append-nil bytes
all_put-more (reply ∷ replies) bytes =
    ap (λ l. bytes_put reply ++ l) (all_put-more replies bytes)
    ∙ sym (append_assoc (bytes_put reply) (all_put replies) bytes)

-- the same of a history that grew by it
pub grown-more : (old new : List Reply) (bytes : List ℕ) → new ≡ old ++ Put bytes ∷ []
    → all_put new ≡ all_put old ++ bytes
grown-more old new bytes e = ap all_put e ∙ all_put-more old bytes
