-- The sources in memory.
use Rattle.std.specs.Prelude.{ℕ, List, [], ◌∷◌, ◌++◌, drop, refl}
use Rattle.std.specs.Coded.{Coded, code_by, coded×, coded_ℕ, coded_list}
use Rattle.alpha_io.specs.History.{Reply, replies_code}
use Rattle.alpha_io.specs.Faults.{next_count}

-- the bytes still to come, how many one call gives at most, the numbers of the calls that fail,
-- how many calls there were, how many failed, and what they answered
pub record SourceState : Type 0 where
  pub left : List ℕ
  pub most : ℕ
  pub failing : List ℕ
  pub calls : ℕ
  pub faults : ℕ
  pub replies : List Reply

-- it is stored as the tuple of its fields
abbrev pub source_code : Coded SourceState
source_code =
    code_by (List ℕ × (ℕ × (List ℕ × (ℕ × (ℕ × List Reply)))))
    (coded× (coded_list coded_ℕ)
    (coded× coded_ℕ (coded× (coded_list coded_ℕ) (coded× coded_ℕ (coded× coded_ℕ replies_code)))))
    (λ s. (s.left, (s.most, (s.failing, (s.calls, (s.faults, s.replies))))))
    (λ p. record {
      left = p.0;
      most = p.1.0;
      failing = p.1.1.0;
      calls = p.1.1.1.0;
      faults = p.1.1.1.1.0;
      replies = p.1.1.1.1.1;
    })
    (λ _. refl)

-- one of these bytes, before any call
abbrev pub source_started : List ℕ → ℕ → List ℕ → SourceState
source_started bytes most failing =
    record { left = bytes; most = most; failing = failing; calls = 0; faults = 0; replies = [] }

-- after a call that gave the first n bytes, with this answer
abbrev pub source_given : SourceState → ℕ → Reply → SourceState
source_given s n a = record s { left = drop n s.left; calls = next_count s.calls; replies = s.replies ++ a ∷ [] }

-- after a call that failed, with this answer
abbrev pub source_failed : SourceState → Reply → SourceState
source_failed s a = record s { calls = next_count s.calls; faults = next_count s.faults; replies = s.replies ++ a ∷ [] }

-- one that never fails: the bytes still to come, and what its calls answered
pub record SureSourceState : Type 0 where
  pub left : List ℕ
  pub replies : List Reply

abbrev pub sure_source_code : Coded SureSourceState
sure_source_code =
    code_by (List ℕ × List Reply) (coded× (coded_list coded_ℕ) replies_code) (λ s. (s.left, s.replies))
    (λ p. record { left = p.0; replies = p.1 }) (λ _. refl)
