-- The instruction of the word at a place.
use Rattle.std.proofs.Common.{◌≡◌, ℕ, ◌<◌, List, length, map, get_or, slice_get, Option, Some, None, sym, ap, ◌∙◌}
use Rattle.std.specs.Option.{option_map, option_and_then}
use Rattle.std.proofs.lemmas.Option.{slice_get-map, slice_get-get_or}
use Rattle.alpha_table.specs.declared.form.Form.{Form}
use Rattle.alpha_table.specs.Decoded.{decoded}
use Rattle.alpha_table.specs.ClassOf.{class_of}
use Rattle.alpha_table.specs.Code.{class_at}
use Rattle.alpha_table.proofs.Classes.{class_at-decoded}

-- the word at a place stands for the instruction there
pub decoded_there : (words : List ℕ) (insns : List Form) (place : ℕ) (i : Form) → map decoded words ≡ map Some insns
    → slice_get insns place ≡ Some i
    → option_and_then decoded (slice_get words place) ≡ Some i
decoded_there words insns place i e there =
    chained (slice_get words place) i
    (sym (slice_get-map decoded words place)
    ∙ (ap (λ (os : List (Option Form)). slice_get os place) e
    ∙ (slice_get-map Some insns place ∙ ap (option_map Some) there)))
  where
    chained : (o : Option ℕ) (i : Form) → option_map decoded o ≡ Some (Some i) → option_and_then decoded o ≡ Some i
    chained None i h = absurd cc
    chained (Some w) i h = cc

-- the same of a place within the words
pub decoded_within : (words : List ℕ) (place : ℕ) (i : Form) → place < length words
    → option_and_then decoded (slice_get words place) ≡ Some i → decoded (get_or words place 0) ≡ Some i
decoded_within words place i below e = rw (slice_get-get_or words place 0 below) at e

-- its class is that of the word at the place
pub class_at-decoded_word : (words : List ℕ) (place : ℕ) (i : Form)
    → option_and_then decoded (slice_get words place) ≡ Some i
    → class_at words place ≡ Some (class_of i)
class_at-decoded_word words place i e = class_at-decoded words place ∙ ap (option_map class_of) e
