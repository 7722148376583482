use Rattle.std.proofs.Common.{rules, ◌≡◌, ◌≢◌, Some, ◌+◌, ◌∙◌, length, ap, subst, sym, refl, arith}
use Rattle.alpha_table.specs.declared.columns.InsnKind.TheVariants as kinds
use Rattle.alpha_shadow.specs.declared.broken.Condition.TheVariants.{Open}
use Rattle.alpha_shadow.specs.Broken.{IsAccepted}
use Rattle.alpha_shadow.specs.Least.{IsLeastBroken}
use Rattle.alpha_shadow.specs.Window.{Summarizes, IsUnbroken, IsFirstThat}
use Rattle.alpha_shadow.specs.Place.{IsLeastUpTo}
use Rattle.alpha_shadow.proofs.BreakingTriggers.{IsFirstThat-window_first}
use Rattle.alpha_shadow.proofs.Barriers.{IsLeastUpTo-barrier, Summarizes-behind_barrier}
use Rattle.alpha_shadow.proofs.CodeWalk.{IsUnbroken-HasRoom, IsUnbroken-next, IsUnbroken-IsLeastBroken}
use Rattle.alpha_shadow.proofs.CodeWalk.{IsUnbroken-end_accepted, IsUnbroken-end_open}
use Rattle.alpha_shadow.proofs.NextTriggers.{Summarizes-zero_no_triggers, Summarizes-AreNoTriggers}
use Rattle.alpha_shadow.proofs.NextTriggers.{AreNoTriggers-IsAccepted, Summarizes-still_open, insn_within}
use Rattle.alpha_shadow.proofs.NextTriggers.{IsNextTrigger-kind_at}
use Rattle.alpha_shadow.proofs.verdict.judge_by.Goals as goal

pub quiet-init : goal.quiet-init
quiet-init g c = record {
  same = refl;
  words = c.words-words.ensures;
  within = omega arith;
  none = Summarizes-zero_no_triggers (g.F.Fetch.code c.args.code.now) c.args.window.now c.requires;
  summary = c.requires;
  unbroken = λ p place d below b. omega arith;
  fetches = omega arith;
}

pub returns-in_default-clause-accepted : goal.returns-in_default-clause-accepted
returns-in_default-clause-accepted g c =
    let code = g.F.Fetch.code c.quiet.code in
    subst IsAccepted c.quiet.invariant.same
    (AreNoTriggers-IsAccepted code c.quiet.at c.quiet.window
    (let e = c.quiet.invariant.words in let w = c.quiet.invariant.within in omega arith)
    (c.quiet.invariant.none, c.in_default.ensures.none) c.quiet.invariant.summary
    c.quiet.invariant.unbroken)

-- the trigger where no shadow is open

pub returns-in-Some-open_shadow-clause-broken : goal.returns-in-Some-open_shadow-clause-broken
returns-in-Some-open_shadow-clause-broken g c =
    let code = g.F.Fetch.code c.quiet.code in
    let next = c.in-Some.next in
    let found = c.in-Some.ensures.found in
    let known =
    Summarizes-AreNoTriggers code c.quiet.at next.place c.quiet.window found.above c.quiet.invariant.none found.quiet
    c.quiet.invariant.summary c.quiet.invariant.unbroken in
    let some =
    subst (IsLeastUpTo code next.place 9) c.in-Some-open_shadow.is
    (c.open_shadow.ensures.found code known.0 known.1 found.there) in
    subst (λ k. IsLeastBroken k c.in-Some-open_shadow.broken) c.quiet.invariant.same
    (IsUnbroken-IsLeastBroken code next.place c.in-Some-open_shadow.broken known.1 some)

pub returns-in-Some-open_shadow-clause-fetches : goal.returns-in-Some-open_shadow-clause-fetches
returns-in-Some-open_shadow-clause-fetches g c =
    let code = g.F.Fetch.code c.quiet.code in
    let within = insn_within code c.in-Some.next.place c.in-Some.next.insn c.in-Some.ensures.found.there in
    let same = ap length c.quiet.invariant.same in
    let n = c.in-Some.ensures.looked in
    let f = c.quiet.invariant.fetches in
    omega arith

pub loop-place-init : goal.loop-place-init
loop-place-init g c =
    let code = g.F.Fetch.code c.quiet.code in
    let next = c.in-Some.next in
    let found = c.in-Some.ensures.found in
    let same = c.in-Some.ensures.code in
    let known =
    Summarizes-AreNoTriggers code c.quiet.at next.place c.quiet.window found.above c.quiet.invariant.none found.quiet
    c.quiet.invariant.summary c.quiet.invariant.unbroken in
    let none = subst (IsLeastUpTo code next.place 9) c.in_default-open_shadow.is
    (c.open_shadow.ensures.found code known.0 known.1 found.there) in
    let passed = c.in_default-open_shadow.ensures.none code known.0 found.there in
    let kind = IsNextTrigger-kind_at code c.quiet.at next found in
    record {
      same = same ∙ c.quiet.invariant.same;
      words = c.quiet.invariant.words ∙ ap length (sym same);
      above = let a = found.above in omega arith;
      within =
          let w = insn_within code next.place next.insn found.there in
          let words = c.quiet.invariant.words in
          omega arith;
      opened =
          Summarizes-still_open code next.place c.quiet.window c.open_shadow.new.window kinds.Trigger known.0 kind
          (λ e. cc) none
          (λ q. q.1 refl) passed;
      summary = subst (λ k. Summarizes k c.open_shadow.new.window (next.place + 1)) (sym same) passed;
      unbroken = subst (λ k. IsUnbroken k (next.place + 1)) (sym same) (IsUnbroken-next code next.place known.1 none);
      fetches = let n = c.in-Some.ensures.looked in let f = c.quiet.invariant.fetches in omega arith;
    }

-- a word of a shadow

pub quiet-smaller : goal.quiet-smaller
quiet-smaller g c = let a = c.loop-place.invariant.above in omega arith

pub quiet-preserved : goal.quiet-preserved
quiet-preserved g c =
    let code = g.F.Fetch.code c.loop-place.code in
    let at = c.loop-place.place in
    let same = c.insn.ensures.code in
    let word = c.of-columns.ensures.columns code at c.insn.ensures.found in
    let is : c.of-columns.result.kind ≡ kinds.Barrier = search rules in
    let barrier = word.kind ∙ ap Some is in
    record {
      same = same ∙ c.loop-place.invariant.same;
      words = c.loop-place.invariant.words ∙ ap length (sym same);
      within = omega arith;
      none = c.close.ensures.triggers;
      summary =
          subst (λ k. Summarizes k c.close.new.self (at + 1)) (sym same)
          (Summarizes-behind_barrier code at c.loop-place.window c.close.new.self c.loop-place.invariant.summary barrier
          c.close.ensures.triggers c.close.ensures.loads c.close.ensures.set c.close.ensures.used);
      unbroken =
          subst (λ k. IsUnbroken k (at + 1)) (sym same)
          (IsUnbroken-next code at c.loop-place.invariant.unbroken (IsLeastUpTo-barrier code at barrier));
      fetches = let n = c.insn.ensures.count in let f = c.loop-place.invariant.fetches in omega arith;
    }

pub returns-in-Some-broken_at-clause-broken : goal.returns-in-Some-broken_at-clause-broken
returns-in-Some-broken_at-clause-broken g c =
    let code = g.F.Fetch.code c.loop-place.code in
    let at = c.loop-place.place in
    let word = c.of-columns.ensures.columns code at c.insn.ensures.found in
    let some = subst (IsLeastUpTo code at 9) c.in-Some-broken_at.is
    (c.broken_at.ensures code c.loop-place.invariant.summary c.loop-place.invariant.unbroken word) in
    subst (λ k. IsLeastBroken k c.in-Some-broken_at.broken) c.loop-place.invariant.same
    (IsUnbroken-IsLeastBroken code at c.in-Some-broken_at.broken c.loop-place.invariant.unbroken some)

pub pass-requires : goal.pass-requires
pass-requires g c =
    let code = g.F.Fetch.code c.loop-place.code in
    let at = c.loop-place.place in
    let word = c.of-columns.ensures.columns code at c.insn.ensures.found in
    let none = subst (IsLeastUpTo code at 9) c.in_default-broken_at.is
    (c.broken_at.ensures code c.loop-place.invariant.summary c.loop-place.invariant.unbroken word) in
    record {
      bound = omega arith;
      room =
          IsUnbroken-HasRoom code at c.loop-place.window c.of-columns.result.kind c.loop-place.invariant.summary
          c.loop-place.invariant.unbroken none word.within word.kind;
    }

pub loop-place-preserved : goal.loop-place-preserved
loop-place-preserved g c =
    let code = g.F.Fetch.code c.loop-place.code in
    let at = c.loop-place.place in
    let same = c.insn.ensures.code in
    let word = c.of-columns.ensures.columns code at c.insn.ensures.found in
    let none = subst (IsLeastUpTo code at 9) c.in_default-broken_at.is
    (c.broken_at.ensures code c.loop-place.invariant.summary c.loop-place.invariant.unbroken word) in
    let next = c.pass.ensures code c.loop-place.invariant.summary word (λ q. c.loop-place.invariant.opened q.0) in
    let other : c.of-columns.result.kind ≢ kinds.Barrier = search rules in
    record {
      same = same ∙ c.loop-place.invariant.same;
      words = c.loop-place.invariant.words ∙ ap length (sym same);
      above = let a = c.loop-place.invariant.above in omega arith;
      within = omega arith;
      opened =
          Summarizes-still_open code at c.loop-place.window c.pass.new.self c.of-columns.result.kind
          c.loop-place.invariant.summary
          word.kind other none (λ q. c.loop-place.invariant.opened q.0) next;
      summary = subst (λ k. Summarizes k c.pass.new.self (at + 1)) (sym same) next;
      unbroken =
          subst (λ k. IsUnbroken k (at + 1)) (sym same) (IsUnbroken-next code at c.loop-place.invariant.unbroken none);
      fetches = let n = c.insn.ensures.count in let f = c.loop-place.invariant.fetches in omega arith;
    }

-- the end of the code

pub returns-in-None-clause-accepted : goal.returns-in-None-clause-accepted
returns-in-None-clause-accepted g c =
    let code = g.F.Fetch.code c.loop-place.code in
    let w = c.loop-place.window in
    let end : c.loop-place.place ≡ length code =
    let e = c.loop-place.invariant.words in let l = c.loop-place.invariant.within in omega arith in
    let summary = subst (Summarizes code w) end c.loop-place.invariant.summary in
    let first = subst (IsFirstThat code (length code) (λ p. Unit {0})) c.in-None.is
    (IsFirstThat-window_first code w (length code) summary c.first.result c.first.ensures) in
    subst IsAccepted c.loop-place.invariant.same
    (IsUnbroken-end_accepted code w summary (subst (IsUnbroken code) end c.loop-place.invariant.unbroken) first)

pub returns-in-Some-first-clause-broken : goal.returns-in-Some-first-clause-broken
returns-in-Some-first-clause-broken g c =
    let code = g.F.Fetch.code c.loop-place.code in
    let w = c.loop-place.window in
    let t = c.in-Some-first.trigger in
    let end : c.loop-place.place ≡ length code =
    let e = c.loop-place.invariant.words in let l = c.loop-place.invariant.within in omega arith in
    let summary = subst (Summarizes code w) end c.loop-place.invariant.summary in
    let first = subst (IsFirstThat code (length code) (λ p. Unit {0})) c.in-Some-first.is
    (IsFirstThat-window_first code w (length code) summary c.first.result c.first.ensures) in
    subst (λ k. IsLeastBroken k (record { trigger = t; at = c.words-words.result; condition = Open }))
    c.loop-place.invariant.same
    (subst (λ n. IsLeastBroken code (record { trigger = t; at = n; condition = Open }))
    (sym c.loop-place.invariant.words)
    (IsUnbroken-end_open code w t summary (subst (IsUnbroken code) end c.loop-place.invariant.unbroken) first))
