use Rattle.std.proofs.Common.{◌≡◌, ◌≤◌, take}
use Rattle.std.specs.List.{count_by}
use Rattle.alpha_trial.specs.Report.{is_trigger}
use Rattle.alpha_trial.proofs.report.triggers.Given as goal

abbrev pub invariant-loop-place : goal.invariant-loop-place
invariant-loop-place l = record {
  counted : l.count ≡ count_by is_trigger (take l.place l.image.words);
  few : l.count ≤ l.place;
}
