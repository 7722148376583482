-- Every script has a transcript at an image, and with one verdict it has one.
use Rattle.std.proofs.Common.{◌≡◌, ◌∙◌, ℕ, List, Option, Some, None, refl, sym, ap, ⊎_elim}
use Rattle.alpha_words.specs.declared.Completion.TheVariants.{Wrap}
use Rattle.alpha_image.specs.Parts.{Parts}
use Rattle.alpha_shadow.specs.declared.broken.Broken.{Broken}
use Rattle.alpha_shadow.specs.Broken.{IsAccepted}
use Rattle.alpha_shadow.specs.Least.{IsLeastBroken}
use Rattle.alpha_shadow.proofs.Decided.{IsAccepted-or_IsLeastBroken}
use Rattle.alpha_seq.specs.State.{Program}
use Rattle.alpha_debug.specs.Session.{Setting, IsVerdict}
use Rattle.alpha_debug.specs.Script.{Transcript, IsTranscript, transcript}

-- the setting of an image with a verdict
abbrev setting : Parts → Option Broken → Setting
setting image v = record { program = record { image = image; completion = Wrap }; verdict = v }

with_verdict : (image : Parts) (script : List ℕ) (v : Option Broken) → IsVerdict image.words v
    → (t : Transcript) × IsTranscript image script t
with_verdict image script v is = (
  transcript (setting image v) script,
  record { setting = setting image v; is_setting = record { program = refl; verdict = is }; is = refl },
)

pub IsTranscript-exists : (image : Parts) (script : List ℕ) → (t : Transcript) × IsTranscript image script t
IsTranscript-exists image script =
    ⊎_elim
    (λ (accepted : IsAccepted image.words). with_verdict image script None accepted)
    (λ (broken : (b : Broken) × IsLeastBroken image.words b). with_verdict image script (Some broken.0) broken.1)
    (IsAccepted-or_IsLeastBroken image.words)

pub IsTranscript-unique : (image : Parts) (script : List ℕ) (t u : Transcript) (p : IsTranscript image script t)
    (q : IsTranscript image script u)
    → p.setting.verdict ≡ q.setting.verdict → t ≡ u
IsTranscript-unique image script t u p q same =
    let program : p.setting.program ≡ q.setting.program = p.is_setting.program ∙ sym q.is_setting.program in
    p.is
    ∙ (ap (λ (g : Program). transcript (record { program = g; verdict = p.setting.verdict }) script) program
    ∙ (ap (λ (v : Option Broken). transcript (record { program = q.setting.program; verdict = v }) script) same
    ∙ sym q.is))
