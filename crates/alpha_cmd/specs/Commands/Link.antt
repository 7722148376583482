-- `link [--entry NAME] OUT FILE...`: the image that modules link to, kept as a file.
use Rattle.std.specs.Prelude.{◌≡◌, ◌⊎◌, ℕ, List, [], ◌∷◌, length, All, Ok, Err, IsSome}
use Rattle.alpha_io.specs.Files.{Files, HasFile}
use Rattle.alpha_image.specs.Parts.{Parts, IsImage}
use Rattle.alpha_image.specs.Parts as images
use Rattle.alpha_asm.specs.Program.{program_of}
use Rattle.alpha_shadow.specs.Broken.{IsAccepted}
use Rattle.alpha_imprecise.specs.Restart.{IsRestartable}
use Rattle.alpha_link.specs.declared.fault.ModuleFault.{ModuleFault}
use Rattle.alpha_link.specs.declared.fault.LinkFault.{LinkFault}
use Rattle.alpha_link.specs.Parts.{ModuleParts, IsModule}
use Rattle.alpha_link.specs.Spelled.{module_at, spelling}
use Rattle.alpha_link.specs.Linked.{linked}
use Rattle.alpha_link.specs.Made.{made_module}
use Rattle.alpha_request.specs.Commands.Link as link_words
use Rattle.alpha_cmd.specs.declared.status.Status.{Status}
use Rattle.alpha_cmd.specs.declared.status.Status.TheVariants.{Done, BadModule, BadLink}
use Rattle.alpha_cmd.specs.Outcome.{Outcome, Either, Then, Each}
use Rattle.alpha_cmd.specs.Status.{Says}
use Rattle.alpha_cmd.specs.Image.{Reads}
use Rattle.alpha_cmd.specs.AnswerBy.{World}
use Rattle.alpha_cmd.specs.Form.{Form, Kind, keeps_last, making_form, making_there}

-- ---- the stages

-- the most bytes of a module file
abbrev pub module_limit : ℕ
module_limit = 20971520

-- the bytes of all named files, read in their order
abbrev pub FilesOf : Files → List (List ℕ) → Outcome (List (List ℕ)) → Type 0
FilesOf files = Each (λ before name. Reads files name module_limit) []

-- why the bytes of the file with this number are no module: their first fault
abbrev pub NoModule : ℕ → List ℕ → Status → Type 0
NoModule number bytes status = (fault : ModuleFault) × (status ≡ BadModule number fault) × (module_at bytes ≡ Err fault)

-- the module that they spell
abbrev pub ModuleOf : ℕ → List ℕ → Outcome ModuleParts → Type 0
ModuleOf number bytes = Either (λ m. IsModule m × (bytes ≡ spelling m)) (Says (NoModule number bytes))

-- the modules of all files, whose numbers count from 0
abbrev pub ModulesOf : List (List ℕ) → Outcome (List ModuleParts) → Type 0
ModulesOf = Each (λ before bytes. ModuleOf (length before) bytes) []

-- why modules link to no image: their first refusal
abbrev pub NoLink : List ℕ → List ModuleParts → Status → Type 0
NoLink entry modules status = (fault : LinkFault) × (status ≡ BadLink fault) × (linked modules entry ≡ Err fault)

-- bytes are the spelling of the image that modules link to
abbrev pub IsLinked : List ℕ → List ModuleParts → List ℕ → Type 0
IsLinked entry modules bytes =
    (image : Parts) × IsImage image
    × ((linked modules entry ≡ Ok (program_of image)) × (bytes ≡ images.image_spelling image))

-- the bytes of their image
abbrev pub Links : List ℕ → List ModuleParts → Outcome (List ℕ) → Type 0
Links entry modules = Either (IsLinked entry modules) (Says (NoLink entry modules))

-- all files are read, then each is read as a module, and then these are linked
abbrev pub LinksFiles : Files → List ℕ → List (List ℕ) → Outcome (List ℕ) → Type 0
LinksFiles files entry names = Then (FilesOf files names) (λ all. Then (ModulesOf all) (Links entry))

-- ---- the command

abbrev pub kind : List ℕ → Kind
kind out = keeps_last out

abbrev pub form : List ℕ → List ℕ → List (List ℕ) → Form
form entry out names = making_form (λ w. LinksFiles w.files entry names) out

abbrev pub there : List ℕ → List ℕ → List (List ℕ) → World → Type 0
there entry out names = making_there names (λ w. LinksFiles w.files entry names) out

-- ---- what it leaves

-- where files are told, each of these names has the spelling of the module at its place
abbrev pub Spell : Files → List (List ℕ) → List ModuleParts → Type 0
Spell files [] [] = Unit {0}
Spell files [] (m ∷ modules) = ⊥
Spell files (name ∷ names) [] = ⊥
Spell files (name ∷ names) (m ∷ modules) = (IsModule m × HasFile files name (spelling m)) × Spell files names modules

-- some source makes this module
abbrev pub IsMade : ModuleParts → Type 0
IsMade m = (source : List ℕ) × (made_module source ≡ Ok m)

-- this name has the spelling of a module, a good one or one that a source makes, no place of whose code is broken
abbrev pub HasAccepted : Files → List ℕ → Type 0
HasAccepted files name =
    (m : ModuleParts) × (IsModule m ⊎ IsMade m) × (HasFile files name (spelling m) × IsAccepted m.words)

-- Where the old files are told, those of these names spell modules, in their order, and where the new ones are, another
-- has the spelling of the image that these link to. Where no place of a module's code is broken, and that holds of
-- each, none of the image's code is, and it can be restarted after each late trap. So it is where the old files are
-- told, and each of these has the spelling of such a module.
pub record KeepsLink (entry out : List ℕ) (names : List (List ℕ)) (old new : Files) : Type 0 where
  pub modules : List ModuleParts
  pub image : Parts
  pub read : Spell old names modules
  pub good : IsImage image
  pub links : linked modules entry ≡ Ok (program_of image)
  pub kept : HasFile new out (images.image_spelling image)
  pub accepted : All (λ m. IsAccepted m.words) modules → IsAccepted image.words × IsRestartable image
  pub restarts : IsSome old → All (HasAccepted old) names → IsAccepted image.words × IsRestartable image

-- that is so where the command is done
abbrev pub KeepsLinks : List (List ℕ) → Status → Files → Files → Type 0
KeepsLinks words status old new =
    (entry out : List ℕ) (files : List (List ℕ)) → link_words.AsksToLink words entry out files
    → status ≡ Done 0 → KeepsLink entry out files old new
