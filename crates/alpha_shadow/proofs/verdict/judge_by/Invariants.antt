use Rattle.std.proofs.Common.{◌≡◌, ◌≢◌, ◌≤◌, ◌+◌, ◌-◌, [], length}
use Rattle.alpha_shadow.specs.Window.{Summarizes, IsUnbroken}
use Rattle.alpha_shadow.proofs.verdict.judge_by.Given as goal

abbrev pub invariant-quiet : goal.invariant-quiet
invariant-quiet g l = record {
  same : g.F.Fetch.code l.code ≡ g.F.Fetch.code l.fn.code;
  words : l.words ≡ length (g.F.Fetch.code l.code);
  within : l.at ≤ l.words;
  none : l.window.triggers.items ≡ [];
  summary : Summarizes (g.F.Fetch.code l.code) l.window l.at;
  unbroken : IsUnbroken (g.F.Fetch.code l.code) l.at;
  fetches : g.F.Fetch.fetches l.code ≤ g.F.Fetch.fetches l.fn.code + l.at;
}

abbrev pub decreases-quiet : goal.decreases-quiet
decreases-quiet g l = l.words - l.at

abbrev pub invariant-loop-place : goal.invariant-loop-place
invariant-loop-place g l = record {
  same : g.F.Fetch.code l.code ≡ g.F.Fetch.code l.fn.code;
  words : l.words ≡ length (g.F.Fetch.code l.code);
  above : l.initial.at ≤ l.place;
  within : l.place ≤ l.words;
  opened : l.window.triggers.items ≢ [];
  summary : Summarizes (g.F.Fetch.code l.code) l.window l.place;
  unbroken : IsUnbroken (g.F.Fetch.code l.code) l.place;
  fetches : g.F.Fetch.fetches l.code ≤ g.F.Fetch.fetches l.fn.code + l.place;
}
