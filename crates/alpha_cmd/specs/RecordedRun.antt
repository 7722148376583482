-- What it means that a journal is that of the run whose answer was given.
use Rattle.std.specs.Prelude.{◌≡◌, ◌⊎◌, ℕ, false, List, ◌++◌, Option, Some, None, Ok}
use Rattle.alpha_io.specs.Files.{Files}
use Rattle.alpha_image.specs.Parts.{Parts as Image}
use Rattle.alpha_request.specs.declared.options.RunOptions.{RunOptions}
use Rattle.alpha_seq.specs.declared.end.End.{End}
use Rattle.alpha_seq.specs.Run.{notes}
use Rattle.alpha_imprecise.specs.Run.{seen}
use Rattle.alpha_imprecise.specs.ChosenRun.{LostTrap}
use Rattle.alpha_replay.specs.declared.ending.Ending.{Ending}
use Rattle.alpha_replay.specs.declared.ending.Ending.TheVariants as endings
use Rattle.alpha_replay.specs.Journal.{Parts, spelling}
use Rattle.alpha_replay.specs.Listed.{Played, listed}
use Rattle.alpha_replay.specs.Replay.{ending_by, program_by, replayed}
use Rattle.alpha_cmd.specs.Answer.{Answer}
use Rattle.alpha_cmd.specs.Commands.Imprecise.{imprecise_status, imprecise_line}
use Rattle.alpha_cmd.specs.Image.{ImageOf}
use Rattle.alpha_cmd.specs.Kept.{nothing}
use Rattle.alpha_cmd.specs.Kept as kinds
use Rattle.alpha_cmd.specs.Outcome.{continues}

-- the ending of a journal, by how the program ended, if it has, and by the trap that was lost, if one was
abbrev pub ending_shown : Option End → Option LostTrap → Ending
ending_shown (Some end) lost = ending_by end
ending_shown None (Some t) = endings.Lost t.pc t.mask
ending_shown None None = endings.Spent

-- The status and the line of an answer are those of the journal's ending, its output is the journal's, what it leaves
-- of the input stands behind the journal's input, and its notes are those of the run that the journal's items list over
-- that input. The replay of the journal shows that run.
pub record IsJournalOf (options : RunOptions) (image : Image) (input : List ℕ) (p : Parts) (a : Answer) : Type 0 where
  pub end : Option End
  pub lost : Option LostTrap
  pub drawn : ℕ
  pub left : List ℕ
  pub played : Played
  pub reports : ℕ
  pub ending : p.ending ≡ ending_shown end lost
  pub status : a.status ≡ imprecise_status end lost drawn
  pub line : a.line ≡ imprecise_line end lost
  pub output : a.output ≡ p.output
  pub taken : input ≡ p.input ++ left
  pub rest : a.left ≡ Some left
  pub completion : p.completion ≡ options.complete
  pub listed : listed (program_by image p) p.input p.items ≡ Ok played
  pub notes : a.trace ≡ notes false (seen played.run.steps)
  pub replayed : replayed image p ≡ Ok (record { units = played.run.units; reports = reports })

-- what is kept with an answer: nothing, or as OUT the spelling of the journal of the run that has it
abbrev pub KeepsItsJournal : RunOptions → List ℕ → List ℕ → List ℕ → Files → Answer → Type 0
KeepsItsJournal options file out input files a =
    (a.kept ≡ nothing)
    ⊎ ((image : Image) × (p : Parts) × ImageOf files file (continues image) × (a.kept ≡ kinds.file out (spelling p))
    × IsJournalOf options image input p a)
