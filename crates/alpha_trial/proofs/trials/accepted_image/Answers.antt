use Rattle.std.proofs.Common.{◌≡◌, sym, ap, subst}
use Rattle.alpha_image.specs.Parts.{Parts}
use Rattle.alpha_shadow.specs.Broken.{IsAccepted}
use Rattle.alpha_trial.specs.Words.{program_words}
use Rattle.alpha_trial.proofs.TrialShadows.{program_accepted}
use Rattle.alpha_trial.proofs.trials.accepted_image.Goals as goal

pub unreachable-requires : goal.unreachable-requires
unreachable-requires c =
    let words : c.in_ok-image.image.words ≡ program_words c.args.n =
    ap (λ (p : Parts). p.words) c.in_ok-image.ensures.parts in
    subst IsAccepted (sym words) (program_accepted c.args.n) c.in-Err.field-0.trigger c.in-Err.field-0.at
    c.in-Err.field-0.condition c.in-Err.ensures.broken.broken
