-- From a place where no shadow is open up to the next trigger.
use Rattle.std.proofs.Common.{◌≡◌, ◌≢◌, ◌<◌, ◌≤◌, ◌+◌, ◌-◌, ℕ, zero, suc, Some, None, List, [], ◌∷◌, length, map}
use Rattle.std.proofs.Common.{get_or, slice_get, subst, sym, refl, ap, ◌∙◌, ⊎_elim, arith}
use Rattle.std.proofs.lemmas.Bool.{cases_lt}
use Rattle.std.proofs.lemmas.Option.{slice_get_cases}
use Rattle.alpha_table.specs.declared.form.Form.{Form}
use Rattle.alpha_table.specs.Encoded.{encoded}
use Rattle.alpha_table.specs.declared.columns.InsnKind.{InsnKind}
use Rattle.alpha_table.specs.declared.columns.InsnKind.TheVariants as kinds
use Rattle.alpha_table.specs.ClassOf.{class_of}
use Rattle.alpha_table.specs.Columns.{kind_of}
use Rattle.alpha_table.proofs.CodeWords.{class_at-decoded_word, decoded_there}
use Rattle.alpha_shadow.specs.declared.window.Window.{Window}
use Rattle.alpha_shadow.specs.declared.fetch.NextTrigger.{NextTrigger}
use Rattle.alpha_shadow.specs.Code.{kind_at}
use Rattle.alpha_table.specs.Code.{Straight}
use Rattle.alpha_shadow.specs.declared.triggers.Trigger.{Trigger}
use Rattle.alpha_shadow.specs.declared.broken.Condition.TheVariants.{Turn}
use Rattle.alpha_shadow.specs.Place.{IsLeastUpTo}
use Rattle.alpha_shadow.specs.Window.{Summarizes, IsUnbroken, IsOpen, open_triggers}
use Rattle.alpha_shadow.specs.Broken.{IsAccepted}
use Rattle.alpha_shadow.specs.Fetched.{HaveWords}
use Rattle.alpha_shadow.specs.NoTrigger.{IsInsnAt, IsNoTrigger, AreNoTriggers, IsNextTrigger}
use Rattle.alpha_shadow.proofs.WordColumns.{kind_at-class, kind_within}
use Rattle.alpha_shadow.proofs.WindowSteps.{Summarizes-outside}
use Rattle.alpha_shadow.proofs.CodeWalk.{IsUnbroken-skip, IsUnbroken-end_accepted}
use Rattle.alpha_shadow.proofs.Shadows.{open_triggers-nil, open_triggers-IsOpen}
use Rattle.alpha_shadow.proofs.BreakingTriggers.{IsOpen-IsBroken}

-- one quiet word more
pub AreNoTriggers-next : (code : List ℕ) (from to : ℕ) → AreNoTriggers code from to → IsNoTrigger code to
    → AreNoTriggers code from (to + 1)
AreNoTriggers-next code from to before here = λ k above below. ⊎_elim
    (λ (l : k < to). before k above l)
    (λ (l : to ≤ k). let e : to ≡ k = omega arith in subst (IsNoTrigger code) e here)
    (cases_lt k to)

-- what is known at a place is known behind so many quiet words, where no shadow is open
known_behind : (code : List ℕ) (at n : ℕ) (w : Window) → w.triggers.items ≡ [] → AreNoTriggers code at (at + n)
    → Summarizes code w at × IsUnbroken code at
    → Summarizes code w (at + n) × IsUnbroken code (at + n)
known_behind code at zero w none quiet known = subst (λ m. Summarizes code w m × IsUnbroken code m) (omega arith) known
known_behind code at (suc n) w none quiet known =
    let before = known_behind code at n w none (λ k above below. quiet k above (omega arith)) known in
    let here : IsNoTrigger code (at + n) = quiet (at + n) (omega arith) (omega arith) in
    let i = here.insn in
    let kind =
    kind_at-class code (at + n) (class_of i) (kind_of i) (class_at-decoded_word code (at + n) i here.there) refl in
    subst (λ m. Summarizes code w m × IsUnbroken code m) (omega arith) (
      Summarizes-outside code (at + n) w (kind_of i) before.0 kind none here.other,
      IsUnbroken-skip code (at + n) w (kind_of i) before.0 kind none here.other before.1,
    )

pub Summarizes-AreNoTriggers : (code : List ℕ) (at to : ℕ) (w : Window) → at ≤ to → w.triggers.items ≡ []
    → AreNoTriggers code at to
    → Summarizes code w at → IsUnbroken code at
    → Summarizes code w to × IsUnbroken code to
Summarizes-AreNoTriggers code at to w order none quiet s before =
    let e : at + (to - at) ≡ to = omega arith in
    subst (λ m. Summarizes code w m × IsUnbroken code m) e
    (known_behind code at (to - at) w none (subst (AreNoTriggers code at) (sym e) quiet) (s, before))

-- before the first word no shadow is open
pub Summarizes-zero_no_triggers : (code : List ℕ) (w : Window) → Summarizes code w 0 → w.triggers.items ≡ []
unfolding open_triggers
Summarizes-zero_no_triggers code w s = s.triggers

-- a shadow that is open where a word is neither a barrier nor breaks anything is open behind it
straight_more : (code : List ℕ) (from at : ℕ) (kind : InsnKind) → Straight code from at → kind_at code at ≡ Some kind
    → kind ≢ kinds.Barrier → kind ≢ kinds.Turn → Straight code from (at + 1)
straight_more code from at kind straight k other still = λ place above below. ⊎_elim
    (λ (l : place < at). straight place above l)
    (λ (l : at ≤ place). let e : at ≡ place = omega arith in
    subst (λ p. (kind_at code p ≢ Some kinds.Barrier) × (kind_at code p ≢ Some kinds.Turn)) e
    ((λ q. other cc), (λ q. still cc)))
    (cases_lt place at)

pub Summarizes-still_open : (code : List ℕ) (at : ℕ) (w after : Window) (kind : InsnKind) → Summarizes code w at
    → kind_at code at ≡ Some kind → kind ≢ kinds.Barrier → IsLeastUpTo code at 9 None
    → ((w.triggers.items ≡ []) × (kind ≢ kinds.Trigger) → ⊥) → Summarizes code after (at + 1)
    → after.triggers.items ≢ []
Summarizes-still_open code at w after kind s k other none loud next = λ closed.
    let end : (p : ℕ) → IsOpen code p (at + 1) → ⊥ = open_triggers-nil code (at + 1) (sym next.triggers ∙ closed) in
    let trigger : kind ≢ kinds.Trigger = λ t. end at (record {
      kind = k ∙ ap Some t;
      before = omega arith;
      straight = straight_more code at at kind (λ p above below. absurd (omega arith)) k other (λ q. cc);
    }) in
    shadow (open_triggers code at) refl end trigger
  where
    shadow : (ts : List Trigger) → open_triggers code at ≡ ts → ((p : ℕ) → IsOpen code p (at + 1) → ⊥)
        → kind ≢ kinds.Trigger → ⊥
    shadow [] e end trigger = loud (s.triggers ∙ e, trigger)
    shadow (t ∷ ts) e end trigger =
        let o = open_triggers-IsOpen code at t ts e in
        end t.place (record {
          kind = o.kind;
          before = let b = o.before in omega arith;
          straight =
              straight_more code t.place at kind o.straight k other
              (λ q. none t.place Turn (omega arith) (IsOpen-IsBroken code t.place at Turn o (k ∙ ap Some q)));
        })

-- code whose rest is quiet, where no shadow is open and nothing is broken, is accepted
pub AreNoTriggers-IsAccepted : (code : List ℕ) (at : ℕ) (w : Window) → at ≤ length code
    → (w.triggers.items ≡ []) × AreNoTriggers code at (length code) → Summarizes code w at → IsUnbroken code at
    → IsAccepted code
AreNoTriggers-IsAccepted code at w order quiet s before =
    let known = Summarizes-AreNoTriggers code at (length code) w order quiet.0 quiet.1 s before in
    IsUnbroken-end_accepted code w known.0 known.1
    (λ p o u. open_triggers-nil code (length code) (sym known.0.triggers ∙ quiet.0) p o)

-- instructions that are no triggers are quiet words
pub AreNoTriggers-map_encoded : (insns : List Form) (from to : ℕ) → HaveWords insns → to ≤ length insns
    → ((k : ℕ) (i : Form) → from ≤ k → k < to → slice_get insns k ≡ Some i → kind_of i ≢ kinds.Trigger)
    → AreNoTriggers (map encoded insns) from to
AreNoTriggers-map_encoded insns from to words order others = λ k above below. ⊎_elim
    (λ (q : (x : Form) × (k < length insns) × (slice_get insns k ≡ Some x) × (get_or insns k x ≡ x)).
    record {
      insn = q.0;
      there = decoded_there (map encoded insns) insns k q.0 words.known q.2;
      other = others k q.0 above below q.2;
    })
    (λ (p : (length insns ≤ k) × (slice_get insns k ≡ None)). absurd (omega arith))
    (slice_get_cases insns k).1

-- and the first trigger behind them is the next one
pub IsNextTrigger-map_encoded : (insns : List Form) (from : ℕ) (next : NextTrigger) → HaveWords insns
    → from ≤ next.place
    → next.place ≤ length insns
    → ((k : ℕ) (i : Form) → from ≤ k → k < next.place → slice_get insns k ≡ Some i → kind_of i ≢ kinds.Trigger)
    → slice_get insns next.place ≡ Some next.insn → kind_of next.insn ≡ kinds.Trigger
    → IsNextTrigger (map encoded insns) from next
IsNextTrigger-map_encoded insns from next words above within others there trigger = record {
  above = above;
  quiet = AreNoTriggers-map_encoded insns from next.place words within others;
  there = decoded_there (map encoded insns) insns next.place next.insn words.known there;
  trigger = trigger;
}

-- a place with an instruction is one of the code
pub insn_within : (code : List ℕ) (at : ℕ) (i : Form) → IsInsnAt code at i → at < length code
insn_within code at i there =
    kind_within code at (kind_of i)
    (kind_at-class code at (class_of i) (kind_of i) (class_at-decoded_word code at i there) refl)

-- the next trigger is one by its kind
pub IsNextTrigger-kind_at : (code : List ℕ) (from : ℕ) (next : NextTrigger) → IsNextTrigger code from next
    → kind_at code next.place ≡ Some kinds.Trigger
IsNextTrigger-kind_at code from next found =
    kind_at-class code next.place (class_of next.insn) (kind_of next.insn)
    (class_at-decoded_word code next.place next.insn found.there) refl
    ∙ ap Some found.trigger
