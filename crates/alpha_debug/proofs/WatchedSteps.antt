-- What the watcher of a walk makes of its steps.
use Rattle.std.specs.Prelude.{◌==◌}
use Rattle.std.proofs.lemmas.Bool.{ne_eqb, or_parts}
use Rattle.std.proofs.Common.{◌≡◌, ◌∙◌, ◌≤◌, ◌⊎◌, ◌||◌, inl, inr, ⊎_elim, ℕ, Bool, true, false, cond, List, [], ◌∷◌}
use Rattle.std.proofs.Common.{◌++◌, length, refl, sym, ap, subst, append-nil, arith}
use Rattle.std.proofs.Math.Bool.{or-true}
use Rattle.alpha_mem.specs.Block.{Block, shapes, within}
use Rattle.alpha_mem.specs.Intent.{Load}
use Rattle.alpha_mem.specs.Memory.{bytes_at}
use Rattle.alpha_pal.specs.declared.pal_end.Passed.TheVariants as passes
use Rattle.alpha_seq.specs.declared.machine.Machine.{Machine}
use Rattle.alpha_seq.specs.declared.event.Event.{Event as SeenEvent}
use Rattle.alpha_seq.specs.declared.event.Event.TheVariants as events
use Rattle.alpha_seq.specs.Run.{taken, output}
use Rattle.alpha_seq.specs.StepLabel.{StepLabel, HasPassed}
use Rattle.alpha_seq.specs.Sequential.{SeqStep}
use Rattle.alpha_run.specs.Row.{Row, OnlyPassed, ArePassed, events_of, lines_by, seen_by, Unstopped}
use Rattle.alpha_run.proofs.StepRows.{output-append}
use Rattle.alpha_run.specs.RunEffect.{PassesOver}
use Rattle.alpha_debug.specs.declared.watcher.Until.{Until}
use Rattle.alpha_debug.specs.declared.watcher.Until.TheVariants as until
use Rattle.alpha_debug.specs.declared.watcher.Watcher.{Watcher}
use Rattle.alpha_debug.specs.Session.{is_reached}
use Rattle.alpha_debug.specs.OutputChange.{put_for, waits_for}
use Rattle.alpha_debug.specs.Watched.{was_put, put_behind, waits_behind, watched_lines, watched_after, watched_stops}
use Rattle.alpha_debug.specs.Watched.{all_steps, room_for, watched_room, watches}
use Rattle.alpha_debug.proofs.SinkEffects.{both-whole}
use Rattle.alpha_debug.proofs.BlockContents.{put_for-waits_for}

-- ---- what is put and what waits

put-within : (waits : List ℕ) (mem : List Block) (addr len : ℕ) (bytes : List ℕ)
    → within (shapes mem) Load addr len ≡ true → bytes ≡ bytes_at mem addr len
    → waits ++ bytes
    ≡ put_behind waits (events.Barrier (passes.Put addr len)) mem
    ++ waits_behind waits (events.Barrier (passes.Put addr len)) mem
put-within waits mem addr len bytes e is =
    let all : List ℕ = bytes_at mem addr len in
    ap (λ (l : List ℕ). waits ++ l) is
    ∙ (put_for-waits_for waits all
    ∙ ap (λ (b : Bool). cond b (put_for waits all) [] ++ cond b (waits_for waits all) waits) (sym e))

none-put : (waits bytes : List ℕ) → bytes ≡ [] → waits ++ bytes ≡ waits
none-put waits bytes e = ap (λ (l : List ℕ). waits ++ l) e ∙ append-nil waits

-- what waited and what the step put is what is put and what waits then
passed-all : (waits : List ℕ) (event : SeenEvent) (mem : List Block) (taken bytes : List ℕ)
    → HasPassed event mem taken bytes
    → waits ++ bytes ≡ put_behind waits event mem ++ waits_behind waits event mem
passed-all waits events.Went mem taken bytes h = none-put waits bytes h.1
passed-all waits (events.Barrier passes.Nothing) mem taken bytes h = none-put waits bytes h.1
passed-all waits (events.Barrier (passes.Took addr len)) mem taken bytes h = none-put waits bytes h.2
passed-all waits (events.Barrier (passes.Put addr len)) mem taken bytes h = put-within waits mem addr len bytes h.0 h.2
passed-all waits (events.Overflowed at) mem taken bytes h = none-put waits bytes h.1
passed-all waits event mem taken bytes h = none-put waits bytes h.1

-- and so of steps in a row
pub row-bytes : (w : Watcher) (ps : List StepLabel) (old new : Machine) → Row SeqStep old ps new
    → w.block ++ output (events_of ps) ≡ lines_by watched_after watched_lines w ps ++ (seen_by watched_after w ps).block
row-bytes w [] old new row = append-nil w.block
row-bytes w (p ∷ ps) old new row =
    let v = watched_after w p.event p.core in
    ap (λ (l : List ℕ). w.block ++ l) (output-append p.seen (events_of ps))
    ∙ both-whole w.block v.block (seen_by watched_after v ps).block (watched_lines w p.event p.core)
    (lines_by watched_after watched_lines v ps) (output p.seen) (output (events_of ps))
    (passed-all w.block p.event p.core.memory (taken p.seen) (output p.seen) row.1.passes)
    (row-bytes v ps row.0 new row.2)

-- it is as before but for what waits and whether the program has put something
pub seen_by-watched_after : (w : Watcher) (ps : List StepLabel)
    → seen_by watched_after w ps
    ≡ record w {
      block = (seen_by watched_after w ps).block;
      has_put = (seen_by watched_after w ps).has_put;
    }
seen_by-watched_after w [] = refl
seen_by-watched_after w (p ∷ ps) = seen_by-watched_after (watched_after w p.event p.core) ps

-- ---- whether the program has put something

-- a step that put nothing
HasPassed-nothing_put : (event : SeenEvent) (mem : List Block) (taken bytes : List ℕ) → HasPassed event mem taken bytes
    → was_put event ≡ false → bytes ≡ []
HasPassed-nothing_put events.Went mem taken bytes h none = h.1
HasPassed-nothing_put (events.Barrier passes.Nothing) mem taken bytes h none = h.1
HasPassed-nothing_put (events.Barrier (passes.Took addr len)) mem taken bytes h none = h.2
HasPassed-nothing_put (events.Barrier (passes.Put addr len)) mem taken bytes h none = absurd cc
HasPassed-nothing_put (events.Overflowed at) mem taken bytes h none = h.1
HasPassed-nothing_put event mem taken bytes h none = h.1

-- what was put stays put
stays-put : (w : Watcher) (ps : List StepLabel) → w.has_put ≡ true → (seen_by watched_after w ps).has_put ≡ true
stays-put w [] e = e
stays-put w (p ∷ ps) e =
    stays-put (watched_after w p.event p.core) ps
    (ap (λ (b : Bool). was_put p.event || b) e ∙ or-true (was_put p.event))

unput-by : (b : Bool) (v : Watcher) (ps : List StepLabel) → v.has_put ≡ b
    → (seen_by watched_after v ps).has_put ≡ false → b ≡ false
unput-by true v ps e none = absurd (let late = stays-put v ps e in cc)
unput-by false v ps e none = refl

-- steps in a row that put nothing
pub row-quiet : (w : Watcher) (ps : List StepLabel) (old new : Machine) → Row SeqStep old ps new
    → (seen_by watched_after w ps).has_put ≡ false → output (events_of ps) ≡ []
row-quiet w [] old new row none = refl
row-quiet w (p ∷ ps) old new row none =
    let v = watched_after w p.event p.core in
    let one : was_put p.event ≡ false =
    (or_parts (was_put p.event) w.has_put (unput-by v.has_put v ps refl none)).0 in
    output-append p.seen (events_of ps)
    ∙ (ap (λ (l : List ℕ). l ++ output (events_of ps))
    (HasPassed-nothing_put p.event p.core.memory (taken p.seen) (output p.seen) row.1.passes one)
    ∙ row-quiet v ps row.0 new row.2 none)

-- ---- steps that only went on

-- where no barrier is passed over
only_went : (p : StepLabel) → OnlyPassed false p → p.event ≡ events.Went
only_went p passed = by passed.event
  where
    by : (p.event ≡ events.Went) ⊎ ((false ≡ true) × (p.event ≡ events.Barrier passes.Nothing))
        → p.event ≡ events.Went
    by (inl e) = e
    by (inr h) = absurd (let no = h.0 in cc)

went-over : (w : Watcher) (ps : List StepLabel) → ArePassed false ps
    → (seen_by watched_after w ps ≡ w) × (lines_by watched_after watched_lines w ps ≡ [])
went-over w [] went = (refl, refl)
went-over w (p ∷ ps) went =
    let event = only_went p went.0 in
    let one : watched_after w p.event p.core ≡ w = ap (λ (e : SeenEvent). watched_after w e p.core) event in
    let more = went-over w ps went.1 in (
      ap (λ (v : Watcher). seen_by watched_after v ps) one ∙ more.0,
      ap (λ (e : SeenEvent). watched_lines w e p.core
          ++ lines_by watched_after watched_lines (watched_after w p.event p.core) ps)
          event
          ∙ (ap (λ (v : Watcher). lines_by watched_after watched_lines v ps) one ∙ more.1),
    )

went-unstopped : (w : Watcher) (ps : List StepLabel) → ArePassed false ps
    → ((pc : ℕ) → is_reached w.until w.points.items false pc ≡ false)
    → Unstopped watched_after watched_stops w ps
went-unstopped w [] went calm = tt
went-unstopped w (p ∷ ps) went calm =
    let event = only_went p went.0 in
    let one : watched_after w p.event p.core ≡ w = ap (λ (e : SeenEvent). watched_after w e p.core) event in (
      ap (λ (e : SeenEvent). watched_stops w e p.core) event ∙ calm p.core.pc,
      subst (λ (v : Watcher). Unstopped watched_after watched_stops v ps) (sym one) (went-unstopped w ps went.1 calm),
    )

none-unstopped : (w : Watcher) (ps : List StepLabel) → length ps ≡ 0 → Unstopped watched_after watched_stops w ps
none-unstopped w [] e = tt
none-unstopped w (p ∷ ps) e = absurd (omega arith)

-- none is passed over where one may be wanted
calm-by : (wanted : Until) (points : List ℕ) (n : ℕ) → n ≤ room_for wanted points
    → (n ≡ 0) ⊎ ((pc : ℕ) → is_reached wanted points false pc ≡ false)
calm-by until.Spent points n low = inr (λ pc. refl)
calm-by until.Breakpoint [] n low = inr (λ pc. refl)
calm-by until.Breakpoint (at ∷ points) n low =
    let some : (length (at ∷ points) == 0) ≡ false = ne_eqb (length (at ∷ points)) 0 (λ e. omega arith) in
    let least : n ≤ 0 = subst (λ (b : Bool). n ≤ cond b all_steps 0) some low in
    inl (omega arith)
calm-by until.Barrier points n low = inr (λ pc. refl)

pub watcher_passes : (w : Watcher) (n : ℕ) → n ≤ watched_room w → PassesOver watches false n w w
watcher_passes w n low = λ ps went size.
    let over = went-over w ps went in (
      sym over.0,
      over.1,
      ⊎_elim (λ (none : n ≡ 0). none-unstopped w ps (size ∙ none))
          (λ (calm : (pc : ℕ) → is_reached w.until w.points.items false pc ≡ false). went-unstopped w ps went calm)
          (calm-by w.until w.points.items n low),
    )
