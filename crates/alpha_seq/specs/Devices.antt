-- What a step or a run did to its devices, which may tell nothing.
use Rattle.std.specs.Prelude.{◌≡◌, ◌≤◌, ℕ, List, [], ◌∷◌, ◌++◌, Option, Some}
use Rattle.std.specs.Io.KnownBytes.{Appends}
use Rattle.alpha_io.specs.declared.source.Source.{Ghosts}
use Rattle.alpha_io.specs.Faults.{Faulted}
use Rattle.alpha_io.specs.History.{Reply}
use Rattle.alpha_io.specs.Supply.{Supply, supply}
use Rattle.alpha_io.specs.SinkChange.{SinkChange, HasFailed}
use Rattle.alpha_pal.specs.CallEffect.{Answers}
use Rattle.alpha_seq.specs.State.{Event}
use Rattle.alpha_seq.specs.Run.{traffic_of, Fed}

-- What a call did to a source: what it tells and its count of faults, before the call and after it.
pub record Drawn : Type 0 where
  pub old : Supply
  pub new : Supply
  pub before : ℕ
  pub now : ℕ

-- by what the source tells and its count
abbrev pub drawn_by : {S : Type 0} → (S → Supply) → (S → ℕ) → S → S → Drawn
drawn_by tells faults old new = record { old = tells old; new = tells new; before = faults old; now = faults new }

-- by the ghosts of the source's type, `Source.left`, `Source.replies` and `Source.faults`
abbrev pub drawn : {S : Type 0} → Ghosts S → S → S → Drawn
drawn g = drawn_by (supply g) g.faults

-- nothing was taken or asked for, and no fault came
pub record Rests (d : Drawn) : Type 0 where
  pub left : d.new ≡ d.old
  pub same : d.now ≡ d.before

-- Where the source told its bytes, what is left of them is an end of them.
abbrev pub LeavesEnd : Drawn → Type 0
LeavesEnd d =
    (bytes : List ℕ) → d.old.left ≡ Some bytes
    → (taken : List ℕ) × (rest : List ℕ) × (bytes ≡ taken ++ rest) × (d.new.left ≡ Some rest)

-- Between these two moments the source was asked for what the steps with these events read, each behind the one before,
-- and for nothing else; what it gave is what they were given.
abbrev pub AnswersEach : List Reply → List Event → List Reply → Type 0
AnswersEach old [] new = new ≡ old
AnswersEach old (event ∷ events) new =
    (mid : List Reply) × Answers old (traffic_of event) mid × AnswersEach mid events new

-- The steps with these events read the source. Where it told its bytes, they are of them, and the rest is left.
pub record Feeds (d : Drawn) (events : List Event) : Type 0 where
  pub told : (bytes : List ℕ) → d.old.left ≡ Some bytes
      → (rest : List ℕ) × Fed bytes events rest × (d.new.left ≡ Some rest)
  pub answers : AnswersEach d.old.replies events d.new.replies

-- Where the source told its bytes, the steps with these events would have read them, had no device failed.
abbrev pub WouldFeed : Drawn → List Event → Type 0
WouldFeed d events = (bytes : List ℕ) → d.old.left ≡ Some bytes → (rest : List ℕ) × Fed bytes events rest

-- All of xs was written, and of what follows it in ys a front.
pub record WritesBetween (old new : Option (List ℕ)) (xs ys : List ℕ) : Type 0 where
  pub more : List ℕ
  pub rest : List ℕ
  pub whole : (xs ++ more) ++ rest ≡ ys
  pub written : Appends old new (xs ++ more)

-- nothing was put and no fault came
pub record Idles (s : SinkChange) : Type 0 where
  pub written : s.new ≡ s.old
  pub same : s.now ≡ s.before

abbrev pub drawn_from : Drawn → Supply → ℕ → Drawn
drawn_from d supply faults = record d { old = supply; before = faults }

abbrev pub sunk_from : SinkChange → Option (List ℕ) → ℕ → SinkChange
sunk_from s written faults = record s { old = written; before = faults }

-- the input's count alone rose
pub record HasInputFault (input : Drawn) (out notes : SinkChange) : Type 0 where
  pub later : input.before ≤ input.now
  pub source : Faulted input.before input.now
  pub sink : out.now ≡ out.before
  pub lines : notes.now ≡ notes.before

-- the output's count alone rose
pub record HasOutputFault (input : Drawn) (out notes : SinkChange) : Type 0 where
  pub source : input.now ≡ input.before
  pub later : out.before ≤ out.now
  pub sink : HasFailed out
  pub lines : notes.now ≡ notes.before

-- the notes' count alone rose
pub record HasNotesFault (input : Drawn) (out notes : SinkChange) : Type 0 where
  pub source : input.now ≡ input.before
  pub sink : out.now ≡ out.before
  pub later : notes.before ≤ notes.now
  pub lines : HasFailed notes
