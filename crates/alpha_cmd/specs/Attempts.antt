-- What a command tries to write: its answer, or what a fault of a device or want of memory leaves of it.
use Rattle.std.specs.Prelude.{◌≡◌, ◌⊎◌, ◌++◌, ◌≤◌, ℕ, List, None, Some, IsTrue, IsSome}
use Rattle.alpha_seq.specs.Devices.{Drawn}
use Rattle.alpha_cmd.specs.declared.status.Status.{Status}
use Rattle.alpha_cmd.specs.declared.status.Status.TheVariants.{ShelfFault, InputFault, NoMemory}
use Rattle.alpha_cmd.specs.Status.{status_line}
use Rattle.alpha_cmd.specs.Kept.{Kept, nothing, file, spoilt}
use Rattle.alpha_cmd.specs.Answer.{Answer}
use Rattle.alpha_cmd.specs.AnswerBy.{World, AnswerBy, status_answer}
use Rattle.alpha_cmd.specs.Form.{Form}

-- the statuses that cut a command short, each with its cause; the first fact is that the shelf failed
abbrev pub CutBy : Type 0 → Status → Type 0
CutBy shelf status = (status ≡ NoMemory) ⊎ ((status ≡ ShelfFault) × shelf)

-- A file was to be kept, which an answer of the command keeps, and that failed with the shelf.
pub record IsSpoiltBy (f : Form) (w : World) (status : Status) (kept : Kept) : Type 0 where
  pub status_is : status ≡ ShelfFault
  pub name : List ℕ
  pub bytes : List ℕ
  pub keeps : f.kind.keeps ≡ Some name
  pub answer : Answer
  pub is : AnswerBy f.steps w answer
  pub kept_is : answer.kept ≡ file name bytes
  pub spoilt_is : kept ≡ spoilt name

-- what a command that was cut short leaves of the files: they stay, but for such a one
abbrev pub MaySpoilBy : Form → World → Status → Kept → Type 0
MaySpoilBy f w status kept = (kept ≡ nothing) ⊎ IsSpoiltBy f w status kept

-- what a command that was cut short has for the sinks: the line of its status, and nothing before it
pub record IsCutBy (shelf : Type 0) (f : Form) (w : World) (t : Answer) : Type 0 where
  pub cause : CutBy shelf t.status
  pub kept : MaySpoilBy f w t.status t.kept
  pub is : t ≡ record (status_answer w.input t.status (status_line t.status)) { kept = t.kept }

-- bytes begin with these
abbrev pub IsPrefix : List ℕ → List ℕ → Type 0
IsPrefix front bytes = (rest : List ℕ) × (front ++ rest ≡ bytes)

-- What a command whose input failed has for the sinks: a front of its answer's output, a front of what is noted while
-- it works, and the line of the fault. The first fact is that the input failed.
pub record IsStarvedBy (input : Type 0) (f : Form) (w : World) (t : Answer) : Type 0 where
  pub cause : input
  pub takes : IsTrue f.kind.takes
  pub status_is : t.status ≡ InputFault
  pub answer : Answer
  pub is : AnswerBy f.steps w answer
  pub output : IsPrefix t.output answer.output
  pub trace : IsPrefix t.trace answer.trace
  pub line : t.line ≡ status_line InputFault
  pub left : t.left ≡ None
  pub kept : t.kept ≡ nothing

-- What a command that keeps a file behind its streams has where that was cut short: its answer, but for the status and
-- its line, and for the file.
pub record IsUnkeptBy (shelf : Type 0) (f : Form) (w : World) (t : Answer) : Type 0 where
  pub cause : CutBy shelf t.status
  pub streams : IsTrue f.kind.takes × IsSome f.kind.keeps
  pub kept : MaySpoilBy f w t.status t.kept
  pub answer : Answer
  pub is : AnswerBy f.steps w answer
  pub same : t ≡ record answer { status = t.status; line = status_line t.status; kept = t.kept }

-- what a command tries to write, if the shelf failed, the input did, or memory ran out
abbrev pub FaultedAttemptBy : Type 0 → Type 0 → Form → World → Answer → Type 0
FaultedAttemptBy shelf input f w t = IsCutBy shelf f w t ⊎ (IsStarvedBy input f w t ⊎ IsUnkeptBy shelf f w t)

abbrev pub AttemptBy : Type 0 → Type 0 → Form → World → Answer → Type 0
AttemptBy shelf input f w t = AnswerBy f.steps w t ⊎ FaultedAttemptBy shelf input f w t

-- the input's count doesn't fall, and stays where the fact holds
pub record CountStays (d : Drawn) (stays : Type 0) : Type 0 where
  pub later : d.before ≤ d.now
  pub faults_unchanged : stays → d.now ≡ d.before
