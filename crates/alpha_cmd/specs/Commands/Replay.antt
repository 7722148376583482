-- `replay FILE JOURNAL`: whether a journal lists a run of an image.
use Rattle.std.specs.Prelude.{◌≡◌, ℕ, List, [], ◌∷◌, ◌++◌, codes, decimal, Option, Some, Ok, Err}
use Rattle.alpha_io.specs.Files.{Files}
use Rattle.alpha_image.specs.Parts.{Parts as Image}
use Rattle.alpha_replay.specs.declared.fault.JournalFault.{JournalFault}
use Rattle.alpha_replay.specs.declared.replay_fault.ReplayFault.{ReplayFault}
use Rattle.alpha_replay.specs.declared.replaying.Replayed.{Replayed}
use Rattle.alpha_replay.specs.Journal.{Parts, IsJournal, spelling}
use Rattle.alpha_replay.specs.JournalFault.{first_fault}
use Rattle.alpha_replay.specs.Replay.{replayed}
use Rattle.alpha_cmd.specs.declared.status.Status.{Status}
use Rattle.alpha_cmd.specs.declared.status.Status.TheVariants.{BadJournal, NotARun}
use Rattle.alpha_cmd.specs.Outcome.{Outcome, Either, Then, Gives}
use Rattle.alpha_cmd.specs.Status.{Says}
use Rattle.alpha_cmd.specs.Image.{Reads, ImageOf}
use Rattle.alpha_cmd.specs.Answer.{Answer}
use Rattle.alpha_cmd.specs.AnswerBy.{World, done_with}
use Rattle.alpha_cmd.specs.Form.{Form, Kind, IsThere, needs_files, reads}

-- ---- the stages

-- the most bytes of a journal file
abbrev pub journal_limit : ℕ
journal_limit = 33554432

-- why bytes are no journal: their first fault
abbrev pub NoJournal : List ℕ → Status → Type 0
NoJournal bytes status = (fault : JournalFault) × (status ≡ BadJournal fault) × (first_fault bytes ≡ Some fault)

-- the journal that bytes spell
abbrev pub SpellsJournal : List ℕ → Outcome Parts → Type 0
SpellsJournal bytes = Either (λ p. IsJournal p × (bytes ≡ spelling p)) (Says (NoJournal bytes))

-- that of a named file
abbrev pub JournalOf : Files → List ℕ → Outcome Parts → Type 0
JournalOf files name = Then (Reads files name journal_limit) SpellsJournal

-- why a journal is no run of an image: its first fault
abbrev pub NoRun : Image → Parts → Status → Type 0
NoRun image p status = (fault : ReplayFault) × (status ≡ NotARun fault) × (replayed image p ≡ Err fault)

-- the run of a journal on an image
abbrev pub Plays : Image → Parts → Outcome Replayed → Type 0
Plays image p = Either (λ r. replayed image p ≡ Ok r) (Says (NoRun image p))

-- the image of a named file, then the journal of another, and then its run
abbrev pub RunOf : Files → List ℕ → List ℕ → Outcome Replayed → Type 0
RunOf files file journal = Then (ImageOf files file) (λ image. Then (JournalOf files journal) (Plays image))

-- ---- the command

-- `run units U reports R`
unfoldable pub run_line : ℕ → ℕ → List ℕ
run_line units reports = codes "run units " ++ decimal units ++ codes " reports " ++ decimal reports ++ 10 ∷ []

abbrev pub shown : Option (List ℕ) → Replayed → Answer
shown input r = done_with input (run_line r.units r.reports)

abbrev pub steps : List ℕ → List ℕ → World → Outcome Answer → Type 0
steps file journal w = Then (RunOf w.files file journal) (λ r. Gives (shown w.input r))

abbrev pub kind : Kind
kind = reads

abbrev pub form : List ℕ → List ℕ → Form
form file journal = record { steps = steps file journal; needs = needs_files; kind = kind }

-- both files are there
abbrev pub there : List ℕ → List ℕ → World → Type 0
there file journal w = IsThere file w × IsThere journal w
