-- What the recorder has of steps, and that its run is that of the notes alone.
use Rattle.std.proofs.Common.{◌≡◌, ◌<◌, ◌≤◌, ◌+◌, ◌-◌, ◌==◌, ◌&&◌, ◌||◌, not, nat_le, leb, ℕ, zero, suc, Bool, true}
use Rattle.std.proofs.Common.{false, cond, List, [], ◌∷◌, ◌++◌, length, refl, sym, ap, subst, ◌∙◌, append-nil, arith}
use Rattle.std.proofs.Common.{⊎_elim}
use Rattle.std.proofs.lemmas.Bool.{le-leb, eq-eqb}
use Rattle.std.proofs.lemmas.Bool.Decides.{nat_tests}
use Rattle.std.proofs.Math.Bool.{or-false}
use Rattle.alpha_pal.specs.declared.pal_end.Passed.TheVariants.{Nothing}
use Rattle.alpha_seq.specs.declared.event.Event.{Event}
use Rattle.alpha_seq.specs.declared.event.Event.TheVariants as events
use Rattle.alpha_seq.specs.declared.machine.Machine.{Machine}
use Rattle.alpha_seq.specs.StepLabel.{StepLabel}
use Rattle.alpha_run.specs.declared.notes.Notes.{Notes}
use Rattle.alpha_run.specs.Noted.{noted, lines_of, stays}
use Rattle.alpha_run.specs.Row.{OnlyPassed, ArePassed, lines_by, seen_by, Unstopped}
use Rattle.alpha_run.specs.RunEffect.{PassesOver}
use Rattle.alpha_replay.specs.declared.item.Item.{Item}
use Rattle.alpha_replay.specs.declared.recorder.Recorder.{Recorder}
use Rattle.alpha_replay.specs.Events.{move_by, took_by, put_by}
use Rattle.alpha_replay.specs.Items.{units_of}
use Rattle.alpha_replay.specs.GatheredItems.{GatheredItems, closed, closed_by, gathered_by}
use Rattle.alpha_replay.specs.Journal.{most_bytes, most_items, most_units}
use Rattle.alpha_replay.specs.Recorder.{is_past, lines_recorded, recorded_after, recording, room_left}
use Rattle.alpha_replay.specs.BuilderState.{BuilderState, builder_state, has_room, builder_fits, built_by, bytes_kept}
use Rattle.alpha_replay.specs.BuilderState.{kept, builder_after, with_ones, builder_ones, room_of}
use Rattle.alpha_replay.proofs.RecordedSteps.{built_on, built_over, AllFit}
use Rattle.alpha_replay.proofs.GatheredCounts.{units-closed, length-closed}

-- ---- where a step fits

pub and-three_true : (a b c : Bool) → (a && b && c) ≡ true → (a ≡ true) × (b ≡ true) × (c ≡ true)
and-three_true true true c e = (refl, refl, e)
and-three_true true false c e = absurd cc
and-three_true false b c e = absurd cc

kept_fits : (t : BuilderState) (event : Event) (m : Machine) → builder_fits (built_by t event m) ≡ true
    → builder_after t event m ≡ built_by t event m
kept_fits t event m e =
    let took = took_by event m.memory in
    let put = put_by event m.memory in
    let more = gathered_by t.gathered (move_by event) in
    let parts =
    and-three_true (nat_le (length (t.taken ++ took)) most_bytes) (nat_le (length (t.put ++ put)) most_bytes)
    (has_room more) e in
    ap (λ (b : Bool). builder_state (cond b (t.taken ++ took) t.taken) (bytes_kept t.put put) (kept t.gathered more))
    parts.0
    ∙ (ap (λ (b : Bool). builder_state (t.taken ++ took) (cond b (t.put ++ put) t.put) (kept t.gathered more)) parts.1
    ∙ ap (λ (b : Bool). builder_state (t.taken ++ took) (t.put ++ put) (cond b more t.gathered)) parts.2)

pub not_not_true : (fits : Bool) → not fits ≡ false → fits ≡ true
not_not_true true e = refl
not_not_true false e = absurd cc

pub after_fits : (r : Recorder) (p : StepLabel) → builder_fits (built_on r.builder p) ≡ true
    → recorded_after r p.event p.core ≡ record { builder = built_on r.builder p; full = r.full }
after_fits r p e =
    ap (λ (t : BuilderState). record { builder = t; full = r.full || is_past r p.event p.core })
    (kept_fits r.builder p.event p.core e)
    ∙ ap (λ (b : Bool). record { builder = built_on r.builder p; full = b })
    (ap (λ (b : Bool). r.full || not b) e ∙ or-false r.full)

-- ---- steps in a row

pub fit_unstopped : (r : Recorder) (ps : List StepLabel) → AllFit r.builder ps
    → Unstopped recorded_after is_past r ps
    × (seen_by recorded_after r ps ≡ record { builder = built_over r.builder ps; full = r.full })
fit_unstopped r [] all = (tt, refl)
fit_unstopped r (p ∷ ps) all =
    let one = after_fits r p all.0 in
    let rest = fit_unstopped (record { builder = built_on r.builder p; full = r.full }) ps all.1 in (
      (ap not all.0, subst (λ (x : Recorder). Unstopped recorded_after is_past x ps) (sym one) rest.0),
      ap (λ (x : Recorder). seen_by recorded_after x ps) one ∙ rest.1,
    )

pub unstopped_fit : (r : Recorder) (ps : List StepLabel) → Unstopped recorded_after is_past r ps → AllFit r.builder ps
unstopped_fit r [] un = tt
unstopped_fit r (p ∷ ps) un =
    let fits = not_not_true (builder_fits (built_on r.builder p)) un.0 in (
      fits,
      unstopped_fit (record { builder = built_on r.builder p; full = r.full }) ps
          (subst (λ (x : Recorder). Unstopped recorded_after is_past x ps) (after_fits r p fits) un.1),
    )

-- the lines of the notes
abbrev pub notes_without_watch : Notes
notes_without_watch = record { watch = false }

pub lines_same : (r : Recorder) (ps : List StepLabel)
    → lines_by recorded_after lines_recorded r ps ≡ lines_by stays lines_of notes_without_watch ps
lines_same r [] = refl
lines_same r (p ∷ ps) =
    ap (λ (l : List ℕ). noted false p.event p.core ++ l) (lines_same (recorded_after r p.event p.core) ps)

-- ---- room for steps that only go on

leb-both : (a b c d : ℕ) → a ≤ b → c ≤ d → (leb a b && leb c d) ≡ true
leb-both a b c d p q = rw (le-leb a b p, le-leb c d q) refl

closed-most : (items : List Item) (ones : ℕ) → length items ≤ most_items → (0 < ones → length items + 1 ≤ most_items)
    → length (closed_by items ones) ≤ most_items
closed-most items zero few more = few
closed-most items (suc n) few more = omega (arith, length-closed items (suc n) (omega arith), more (omega arith))

items-most : (items : List Item) (ones : ℕ) → length (closed_by items ones) ≤ most_items → length items ≤ most_items
items-most items zero h = h
items-most items (suc n) h = omega (arith, length-closed items (suc n) (omega arith))

room-parts : (a b c d : ℕ) → (leb a b && leb c d) ≡ true → (a ≤ b) × (c ≤ d)
room-parts a b c d e = (grind (arith, nat_tests), grind (arith, nat_tests))

ones_room : (k : GatheredItems) (most : ℕ) → has_room k ≡ true → (k.ones ≡ 0 → length k.items ≡ most_items → ⊥)
    → units_of (closed k) + most ≤ most_units
    → (n : ℕ) → n ≤ most → has_room (with_ones k n) ≡ true
ones_room k most room open_still few n low =
    let parts = room-parts (length (closed k)) most_items (units_of (closed k)) most_units room in
    let all = units-closed k.items k.ones in
    let more = units-closed k.items (k.ones + n) in
    let less = items-most k.items k.ones parts.0 in
    leb-both (length (closed_by k.items (k.ones + n))) most_items (units_of (closed_by k.items (k.ones + n))) most_units
    (closed-most k.items (k.ones + n) less (λ some. by k.ones refl some)) (omega (arith, all, more))
  where
    by : (ones : ℕ) → k.ones ≡ ones → 0 < ones + n → length k.items + 1 ≤ most_items
    by zero e some =
        let parts = room-parts (length (closed k)) most_items (units_of (closed k)) most_units room in
        let less = items-most k.items k.ones parts.0 in
        let apart : (length k.items ≡ most_items) → ⊥ = open_still e in
        omega arith
    by (suc ones) e some =
        let parts = room-parts (length (closed k)) most_items (units_of (closed k)) most_units room in
        let closed_is = length-closed k.items k.ones (omega arith) in
        omega (arith, closed_is, parts.0)

-- so many have room, and as many as are fewer
pub has_ones : (t : BuilderState) → has_room t.gathered ≡ true → (n : ℕ) → n ≤ room_of t
    → has_room (with_ones t.gathered n) ≡ true
has_ones t room n low = by (t.gathered.ones == 0 && length t.gathered.items == most_items) refl low
  where
    full : (t.gathered.ones == 0 && length t.gathered.items == most_items) ≡ false → t.gathered.ones ≡ 0
        → length t.gathered.items ≡ most_items → ⊥
    full e a b =
        let no : true ≡ false = sym (ap (λ (x : Bool). x && length t.gathered.items == most_items)
        (eq-eqb t.gathered.ones 0 a) ∙ eq-eqb (length t.gathered.items) most_items b) ∙ e in
        cc

    by : (b : Bool) → (t.gathered.ones == 0 && length t.gathered.items == most_items) ≡ b
        → n ≤ cond b 0 (most_units - units_of (closed t.gathered)) → has_room (with_ones t.gathered n) ≡ true
    by true e less =
        let same : t.gathered.ones ≡ t.gathered.ones + n = omega arith in
        subst (λ (k : ℕ). has_room (record t.gathered { ones = k }) ≡ true) same room
    by false e less =
        let parts = room-parts (length (closed t.gathered)) most_items (units_of (closed t.gathered)) most_units room in
        ones_room t.gathered (most_units - units_of (closed t.gathered)) room (full e) (omega (arith, parts.1)) n less

-- ---- steps that only went on, or passed a barrier

-- a unit more, and nothing taken or put
one_builder : (t : BuilderState) → builder_state (t.taken ++ []) (t.put ++ []) (with_ones t.gathered 1)
    ≡ builder_ones t 1
one_builder t =
    ap (λ (l : List ℕ). builder_state l (t.put ++ []) (with_ones t.gathered 1)) (append-nil t.taken)
    ∙ ap (λ (l : List ℕ). builder_state t.taken l (with_ones t.gathered 1)) (append-nil t.put)

passed_builder : (barriers : Bool) (t : BuilderState) (p : StepLabel) → OnlyPassed barriers p
    → built_by t p.event p.core ≡ builder_ones t 1
passed_builder barriers t p passed =
    ⊎_elim (λ (e : p.event ≡ events.Went). ap (λ (x : Event). built_by t x p.core) e ∙ one_builder t)
    (λ (e : (barriers ≡ true) × (p.event ≡ events.Barrier Nothing)).
    ap (λ (x : Event). built_by t x p.core) e.1 ∙ one_builder t) passed.event

ones_fit : (t : BuilderState) → builder_fits t ≡ true → has_room (with_ones t.gathered 1) ≡ true
    → builder_fits (builder_ones t 1) ≡ true
ones_fit t fit room =
    let parts =
    and-three_true (nat_le (length t.taken) most_bytes) (nat_le (length t.put) most_bytes) (has_room t.gathered) fit in
    ap (λ (b : Bool). b && nat_le (length t.put) most_bytes && has_room (with_ones t.gathered 1)) parts.0
    ∙ (ap (λ (b : Bool). b && has_room (with_ones t.gathered 1)) parts.1 ∙ room)

-- up to so many more fit
abbrev HasOnes : BuilderState → ℕ → Type 0
HasOnes t most = (n : ℕ) → n ≤ most → has_room (with_ones t.gathered n) ≡ true

passed_fit : (barriers : Bool) (ps : List StepLabel) (t : BuilderState) → ArePassed barriers ps
    → builder_fits t ≡ true → HasOnes t (length ps)
    → AllFit t ps × (built_over t ps ≡ builder_ones t (length ps))
passed_fit barriers [] t went fit room =
    (tt, ap (λ (n : ℕ). record t { gathered = record t.gathered { ones = n } }) (omega arith))
passed_fit barriers (p ∷ ps) t went fit room =
    let one = passed_builder barriers t p went.0 in
    let fits = ones_fit t fit (room 1 (omega arith)) in
    let more : HasOnes (builder_ones t 1) (length ps) = λ n low.
    let same : t.gathered.ones + (1 + n) ≡ t.gathered.ones + 1 + n = omega arith in
    subst (λ (k : ℕ). has_room (record t.gathered { ones = k }) ≡ true) same (room (1 + n) (omega arith)) in
    let rest = passed_fit barriers ps (builder_ones t 1) went.1 fits more in (
      (ap builder_fits one ∙ fits, subst (λ (x : BuilderState). AllFit x ps) (sym one) rest.0),
      ap (λ (x : BuilderState). built_over x ps) one
          ∙ (rest.1 ∙ ap (λ (n : ℕ). record t { gathered = record t.gathered { ones = n } })
          (let e : t.gathered.ones + 1 + length ps ≡ t.gathered.ones + suc (length ps) = omega arith in e)),
    )

passed_line : (barriers : Bool) (p : StepLabel) → OnlyPassed barriers p → noted false p.event p.core ≡ []
passed_line barriers p passed =
    ⊎_elim (λ (e : p.event ≡ events.Went). ap (λ (x : Event). noted false x p.core) e)
    (λ (e : (barriers ≡ true) × (p.event ≡ events.Barrier Nothing)). ap (λ (x : Event). noted false x p.core) e.1)
    passed.event

passed_lines : (barriers : Bool) (ps : List StepLabel) (r : Recorder) → ArePassed barriers ps
    → lines_by recorded_after lines_recorded r ps ≡ []
passed_lines barriers [] r went = refl
passed_lines barriers (p ∷ ps) r went =
    ap (λ (l : List ℕ). l ++ lines_by recorded_after lines_recorded (recorded_after r p.event p.core) ps)
    (passed_line barriers p went.0)
    ∙ passed_lines barriers ps (recorded_after r p.event p.core) went.1

pub passes_over : (barriers : Bool) (r : Recorder) (n : ℕ) → builder_fits r.builder ≡ true → n ≤ room_left r
    → PassesOver recording barriers n r (record { builder = builder_ones r.builder n; full = r.full })
passes_over barriers r n fit low = λ ps went size.
    let parts = and-three_true (nat_le (length r.builder.taken) most_bytes) (nat_le (length r.builder.put) most_bytes)
    (has_room r.builder.gathered) fit in
    let all = passed_fit barriers ps r.builder went fit (λ k less. has_ones r.builder parts.2 k (omega arith)) in
    let seen = fit_unstopped r ps all.0 in (
      ap (λ (k : ℕ). record { builder = builder_ones r.builder k; full = r.full }) (sym size)
          ∙ (ap (λ (t : BuilderState). record { builder = t; full = r.full }) (sym all.1) ∙ sym seen.1),
      passed_lines barriers ps r went,
      seen.0,
    )
