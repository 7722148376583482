-- The last stage of a command that keeps a file.
use Rattle.std.specs.Prelude.{◌≡◌, ◌⊎◌, ℕ, List, length}
use Rattle.alpha_io.specs.Files.{Refuses}
use Rattle.alpha_cmd.specs.declared.status.Status.TheVariants.{ShelfFault}
use Rattle.alpha_cmd.specs.Outcome.{Outcome, Either}
use Rattle.alpha_cmd.specs.Status.{Says, status_line}
use Rattle.alpha_cmd.specs.Kept.{spoilt}
use Rattle.alpha_cmd.specs.Answer.{Answer}
use Rattle.alpha_cmd.specs.AnswerBy.{World, answer_of, kept_as, status_answer}

-- these bytes aren't taken under this name
abbrev pub Untaken : World → List ℕ → List ℕ → Type 0
Untaken w out bytes = Refuses w.files (w.takes out (length bytes))

-- bytes are kept under a name, where they are taken
abbrev pub KeepsAs : World → List ℕ → List ℕ → Outcome Answer → Type 0
KeepsAs w out bytes =
    Either (λ a. ¬ Untaken w out bytes × (a ≡ kept_as w.input out bytes))
    (Says (λ status. (status ≡ ShelfFault) × Untaken w out bytes))

-- What a keep as the last stage tries: what comes of it, or the shelf failed that takes the bytes, and nothing is known
-- of the file. The first fact is that the shelf failed.
abbrev pub AttemptsKeep : Type 0 → World → List ℕ → List ℕ → Answer → Type 0
AttemptsKeep shelf w out bytes t =
    ((o : Outcome Answer) × KeepsAs w out bytes o × (t ≡ answer_of w.input o))
    ⊎ (shelf × ¬ Untaken w out bytes
    × (t ≡ record (status_answer w.input ShelfFault (status_line ShelfFault)) { kept = spoilt out }))
