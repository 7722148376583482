-- A device whose replies alone are known.
use Rattle.std.specs.Prelude.{ℕ, List, [], refl}
use Rattle.std.specs.Coded.{Coded, code_by, coded×, coded_ℕ}
use Rattle.alpha_io.specs.History.{Reply, replies_code}

-- what its calls answered, and how many faults there were
pub record Heard : Type 0 where
  pub replies : List Reply
  pub faults : ℕ

abbrev pub heard_code : Coded Heard
heard_code =
    code_by (List Reply × ℕ) (coded× replies_code coded_ℕ) (λ h. (h.replies, h.faults))
    (λ p. record { replies = p.0; faults = p.1 }) (λ _. refl)

abbrev pub heard_nothing : Heard
heard_nothing = record { replies = []; faults = 0 }
