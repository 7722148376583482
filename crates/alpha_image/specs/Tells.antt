-- What a refusal tells: the first fault of bytes, or of parts that make no image.
use Rattle.std.specs.Prelude.{◌≡◌, ℕ, List, Option, Some, None, Result, Ok, Err}
use Rattle.std.specs.Option.{option_or}
use Rattle.alpha_image.specs.declared.fault.ImageFault.{ImageFault}
use Rattle.alpha_image.specs.declared.fault.ImageFault.TheVariants.{NoMemory}
use Rattle.alpha_image.specs.Numbers.{Numbers}
use Rattle.alpha_image.specs.Reading.{numbered_level}
use Rattle.alpha_image.specs.ImageFault.{field_fault, word_fault}

-- the first fault of numbers and words that an image is to be made of
unfoldable pub parts_fault : Numbers → List ℕ → Option ImageFault
parts_fault n words = option_or (field_fault n) (word_fault (numbered_level n.level) words)

-- A refusal is the fault. Memory runs out only where there is no fault.
abbrev pub Refuses : ImageFault → Option ImageFault → Type 0
Refuses NoMemory fault = fault ≡ None
Refuses e fault = fault ≡ Some e

-- there is no fault where the result is `Ok`, and else it is refused for that fault
abbrev pub Tells : {X : Type 0} → Result X ImageFault → Option ImageFault → Type 0
Tells (Ok x) fault = fault ≡ None
Tells (Err e) fault = Refuses e fault
