-- What a run of an accepted image over a told input answers, by either machine and whatever words.
use Rattle.std.specs.Prelude.{◌⊎◌, ◌≤◌, ℕ, Bool, List, length}
use Rattle.alpha_io.specs.Files.{Files, HasFile}
use Rattle.alpha_image.specs.Parts.{Parts}
use Rattle.alpha_request.specs.Origin as choices_of
use Rattle.alpha_request.specs.Origin.{Origin}
use Rattle.alpha_request.specs.declared.options.RunOptions.{RunOptions}
use Rattle.alpha_request.specs.Commands.Run as run_words
use Rattle.alpha_cmd.specs.declared.status.Status.{Status}
use Rattle.alpha_cmd.specs.Call.{Call, NoDeviceFault}
use Rattle.alpha_cmd.specs.ChoicesLimit.{choices_limit}
use Rattle.alpha_cmd.specs.Drawn.{but_drawn}
use Rattle.alpha_cmd.specs.Answered.{Answered}
use Rattle.alpha_cmd.specs.ToldRun.{answer_told, TellsAccepted}

-- a file of choices that is named is there, where files are told, and within its limit
abbrev pub HaveWords : Files → Origin → Type 0
HaveWords files (choices_of.seed n) = Unit {0}
HaveWords files (choices_of.file name) = (bytes : List ℕ) × HasFile files name bytes × (length bytes ≤ choices_limit)

-- words that ask for a run of the file with these options, by the one machine or by the other
abbrev pub AskRunWith : List (List ℕ) → RunOptions → List ℕ → Files → Type 0
AskRunWith words options file files = run_words.AsksToRun words options file
    ⊎ ((choices : Origin) × (force : Bool) × run_words.AsksImprecise words options choices force file
    × HaveWords files choices)

-- It is that of the sequential run of the image, if no device fails, whichever machine is asked for, whatever words are
-- drawn and whether the verdict is passed over. Only the number of words that the imprecise machine draws, which its
-- status carries where the program has exited, is its own.
abbrev pub Alike : List (List ℕ) → Status → Call → Type 0
Alike words status c =
    (options : RunOptions) (file bytes : List ℕ) (image : Parts) → AskRunWith words options file c.shelf.old
    → TellsAccepted image file bytes c → NoDeviceFault c
    → Answered (answer_told options image bytes) (but_drawn status) c
