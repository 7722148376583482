-- The statuses: a row each, with its number, the line that says it, and its class.
use Rattle.std.specs.Prelude.{◌≡◌, ℕ, List, [], ◌∷◌, ◌++◌, codes, decimal}
use Rattle.alpha_image.specs.declared.fault.ImageFault.{ImageFault}
use Rattle.alpha_image.specs.declared.fault.ImageFault.TheVariants as faults
use Rattle.alpha_operands.specs.declared.operands.LineFaultKind.{LineFaultKind}
use Rattle.alpha_operands.specs.declared.operands.LineFaultKind.TheVariants.{BadToken, UnknownName, BadOperands}
use Rattle.alpha_operands.specs.declared.operands.LineFaultKind.TheVariants.{OutOfRange}
use Rattle.alpha_asm.specs.declared.fault.AsmFault.{AsmFault}
use Rattle.alpha_asm.specs.declared.fault.AsmFault.TheVariants as refusals
use Rattle.alpha_link.specs.declared.fault.ModuleFault.{ModuleFault}
use Rattle.alpha_link.specs.declared.fault.ModuleFault.TheVariants as modules
use Rattle.alpha_link.specs.declared.fault.LinkFault.{LinkFault}
use Rattle.alpha_link.specs.declared.fault.LinkFault.TheVariants as links
use Rattle.alpha_replay.specs.declared.fault.JournalFault.{JournalFault}
use Rattle.alpha_replay.specs.declared.fault.JournalFault.TheVariants as journals
use Rattle.alpha_replay.specs.declared.replay_fault.ReplayFault.{ReplayFault}
use Rattle.alpha_replay.specs.declared.replay_fault.ReplayFault.TheVariants as replays
use Rattle.alpha_io.specs.Line.{hex_digits}
use Rattle.alpha_shadow.specs.declared.broken.Broken.{Broken}
use Rattle.alpha_shadow.specs.Least.{condition_number}
use Rattle.alpha_verdict.specs.Report.{place_address}
use Rattle.alpha_seq.specs.Notes.{end_line}
use Rattle.alpha_cmd.specs.SpentLine.{spent_line}
use Rattle.alpha_cmd.specs.declared.status.Status.{Status}
use Rattle.alpha_cmd.specs.declared.status.Status.TheVariants.{Done, NotRestartable, BadWords, BadSource, BadImage}
use Rattle.alpha_cmd.specs.declared.status.Status.TheVariants.{Stopped, StepsSpent, Lost, ShelfFault, InputFault}
use Rattle.alpha_cmd.specs.declared.status.Status.TheVariants.{SinkFault, TooLarge, NoMemory, Unfixable, FixedLine, Far}
use Rattle.alpha_cmd.specs.declared.status.Status.TheVariants.{BadModule, BadLink, BadJournal, NotARun, JournalFull}

-- A word and `kind K first F second S`: the kind of the fault and its numbers, 0 where there is none
unfoldable pub numbered_line : List ℕ → ℕ → ℕ → ℕ → List ℕ
numbered_line word kind first second =
    word ++ codes " kind " ++ decimal kind ++ codes " first " ++ decimal first ++ codes " second " ++ decimal second
    ++ 10 ∷ []

abbrev pub fault_line : ImageFault → List ℕ
fault_line (faults.Short given) = numbered_line (codes "image") 1 given 0
fault_line faults.Magic = numbered_line (codes "image") 2 0 0
fault_line (faults.Field field) = numbered_line (codes "image") 3 field 0
fault_line (faults.Length given wanted) = numbered_line (codes "image") 4 given wanted
fault_line (faults.BadWord place word) = numbered_line (codes "image") 5 place word
fault_line faults.NoMemory = numbered_line (codes "image") 6 0 0

-- A word and `kind K line L column C detail D`: the kind of the refusal and where it stands, 0 where that is nowhere.
-- The detail is the number of a line's fault, or the field.
unfoldable pub placed_line : List ℕ → ℕ → ℕ → ℕ → ℕ → List ℕ
placed_line word kind line column detail =
    word ++ codes " kind " ++ decimal kind ++ codes " line " ++ decimal line ++ codes " column " ++ decimal column
    ++ codes " detail "
    ++ decimal detail ++ 10 ∷ []

abbrev pub kind_number : LineFaultKind → ℕ
kind_number BadToken = 1
kind_number UnknownName = 2
kind_number BadOperands = 3
kind_number OutOfRange = 4

-- the refusal of a source, of which a word says what it is
abbrev pub refusal_line : List ℕ → AsmFault → List ℕ
refusal_line word (refusals.Line line fault) = placed_line word 1 line fault.column (kind_number fault.kind)
refusal_line word (refusals.Duplicate line) = placed_line word 2 line 0 0
refusal_line word (refusals.Undefined line) = placed_line word 3 line 0 0
refusal_line word (refusals.Reach line) = placed_line word 4 line 0 0
refusal_line word (refusals.Section line) = placed_line word 5 line 0 0
refusal_line word refusals.NoEntry = placed_line word 6 0 0 0
refusal_line word (refusals.LongLine line) = placed_line word 7 line 0 0
refusal_line word (refusals.ImageField field) = placed_line word 8 0 0 field
refusal_line word refusals.NoMemory = placed_line word 9 0 0 0

-- `too large L`
unfoldable pub limit_line : ℕ → List ℕ
limit_line limit = codes "too large " ++ decimal limit ++ 10 ∷ []

-- `lost A mask M`
unfoldable pub lost_line : ℕ → ℕ → List ℕ
lost_line pc mask = codes "lost " ++ hex_digits pc ++ codes " mask " ++ decimal mask ++ 10 ∷ []

-- `unfixable trigger A at B condition Cn`: a trigger that is broken at its own place, in an image with this code base
unfoldable pub unfixable_line : Broken → ℕ → List ℕ
unfixable_line b code_base =
    codes "unfixable trigger " ++ hex_digits (place_address code_base b.trigger) ++ codes " at "
    ++ hex_digits (place_address code_base b.at)
    ++ codes " condition C" ++ decimal (condition_number b.condition) ++ 10 ∷ []

-- `fixed line L`
unfoldable pub fixing_line : ℕ → List ℕ
fixing_line line = codes "fixed line " ++ decimal line ++ 10 ∷ []

-- `module F kind K first N`: the number of the file, the kind of its fault and the fault's number, 0 where there is
-- none
unfoldable pub module_line : ℕ → ℕ → ℕ → List ℕ
module_line file kind first =
    codes "module " ++ decimal file ++ codes " kind " ++ decimal kind ++ codes " first " ++ decimal first ++ 10 ∷ []

abbrev pub module_fault_line : ℕ → ModuleFault → List ℕ
module_fault_line file modules.Header = module_line file 1 0
module_fault_line file (modules.Size which) = module_line file 2 which
module_fault_line file (modules.Cut length) = module_line file 3 length
module_fault_line file (modules.Word place) = module_line file 4 place
module_fault_line file (modules.Symbol n) = module_line file 5 n
module_fault_line file (modules.Relocation n) = module_line file 6 n
module_fault_line file (modules.Rest at) = module_line file 7 at
module_fault_line file modules.NoMemory = module_line file 8 0

abbrev pub link_fault_line : LinkFault → List ℕ
link_fault_line (links.Duplicate number symbol) = numbered_line (codes "link") 1 number symbol
link_fault_line (links.Undefined number symbol) = numbered_line (codes "link") 2 number symbol
link_fault_line links.Entry = numbered_line (codes "link") 3 0 0
link_fault_line (links.ImageField field) = numbered_line (codes "link") 4 field 0
link_fault_line (links.Reach number relocation) = numbered_line (codes "link") 5 number relocation
link_fault_line links.NoMemory = numbered_line (codes "link") 6 0 0

-- A word and `kind K at N`: the kind of the fault and its number, 0 where there is none
unfoldable pub kind_line : List ℕ → ℕ → ℕ → List ℕ
kind_line word kind at = word ++ codes " kind " ++ decimal kind ++ codes " at " ++ decimal at ++ 10 ∷ []

abbrev pub journal_line : JournalFault → List ℕ
journal_line (journals.Short given) = kind_line (codes "journal") 1 given
journal_line journals.Magic = kind_line (codes "journal") 2 0
journal_line (journals.Field field) = kind_line (codes "journal") 3 field
journal_line (journals.Item n) = kind_line (codes "journal") 4 n
journal_line journals.Units = kind_line (codes "journal") 5 0
journal_line (journals.Rest at) = kind_line (codes "journal") 6 at
journal_line journals.NoMemory = kind_line (codes "journal") 7 0

abbrev pub norun_line : ReplayFault → List ℕ
norun_line (replays.Item n) = kind_line (codes "norun") 1 n
norun_line (replays.Output at) = kind_line (codes "norun") 2 at
norun_line replays.End = kind_line (codes "norun") 3 0
norun_line (replays.Input left) = kind_line (codes "norun") 4 left
norun_line replays.NoMemory = kind_line (codes "norun") 5 0

-- A call did what was asked. It was refused, by what the words and the files say. The program that it ran ended
-- otherwise than by the system call exit, was cut off, or lost a trap. Or a device failed, or memory ran out.
pub data Class : Type 0 where
  done : Class
  refused : Class
  ended : Class
  failed : Class

pub record Row : Type 0 where
  pub number : ℕ
  pub line : List ℕ
  pub class : Class

abbrev pub row : ℕ → List ℕ → Class → Row
row number line class = record { number = number; line = line; class = class }

-- the line of a broken place needs the image's code base, and a failed sink gets none
abbrev pub row_of : Status → Row
row_of (Done n) = row 0 [] done
row_of (NotRestartable b) = row 1 [] refused
row_of BadWords = row 2 (codes "words" ++ 10 ∷ []) refused
row_of (BadSource fault) = row 3 (refusal_line (codes "source") fault) refused
row_of (BadImage fault) = row 4 (fault_line fault) refused
row_of (Stopped end) = row 5 (end_line end) ended
row_of StepsSpent = row 6 spent_line ended
row_of (Lost lost) = row 7 (lost_line lost.trap_pc lost.mask) ended
row_of ShelfFault = row 8 (codes "shelf" ++ 10 ∷ []) failed
row_of InputFault = row 9 (codes "input" ++ 10 ∷ []) failed
row_of SinkFault = row 10 [] failed
row_of (TooLarge limit) = row 11 (limit_line limit) refused
row_of NoMemory = row 12 (codes "no memory" ++ 10 ∷ []) failed
row_of (Unfixable b) = row 13 [] refused
row_of (FixedLine line) = row 14 (fixing_line line) refused
row_of (Far fault) = row 15 (refusal_line (codes "far") fault) refused
row_of (BadModule file fault) = row 16 (module_fault_line file fault) refused
row_of (BadLink fault) = row 17 (link_fault_line fault) refused
row_of (BadJournal fault) = row 18 (journal_line fault) refused
row_of (NotARun fault) = row 19 (norun_line fault) refused
row_of JournalFull = row 20 (codes "journal full" ++ 10 ∷ []) ended

abbrev pub status_number : Status → ℕ
status_number status = (row_of status).number

abbrev pub status_line : Status → List ℕ
status_line status = (row_of status).line

abbrev pub class_of : Status → Class
class_of status = (row_of status).class

-- a stage stops with a status for this reason, and says it by the status's own line
abbrev pub Says : (Status → Type 0) → Status → List ℕ → Type 0
Says Why status line = Why status × (line ≡ status_line status)
