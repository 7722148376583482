-- What the linker has joined so far, and what a relocation of the last module puts into it.
use Rattle.std.specs.Prelude.{◌≡◌, ℕ, ◌+◌, ◌-◌, ◌/◌, List, [], ◌∷◌, ◌++◌, length, replicate, Option, None}
use Rattle.std.specs.Option.{option_map_or}
use Rattle.std.specs.List.{flat_map, filter_map}
use Rattle.alpha_table.specs.Decoded.{decoded}
use Rattle.alpha_link.specs.declared.output.Output.{Output}
use Rattle.alpha_table.specs.declared.form.Form.{Form}
use Rattle.alpha_asm.specs.Patches.{overlaid, code_at}
use Rattle.alpha_link.specs.declared.relocation.Relocation.{Relocation}
use Rattle.alpha_link.specs.Linked.{Located, room, code_after, code_of, bytes_after, data_in, words_in, filled_in}
use Rattle.alpha_link.specs.Linked.{displacement, quadword, out_of_range}

-- the code with an address put in, whatever instruction stands there
abbrev pub code_with : List (Option ℕ) → Located → Relocation → List Form → List Form
code_with addresses l r code = code_at (displacement addresses l r) (l.words + r.offset / 4) code

abbrev pub bytes_with : List (Option ℕ) → Located → Relocation → List ℕ → List ℕ
bytes_with addresses l r bytes =
    option_map_or (λ n. overlaid (l.filled + r.offset) n bytes) (quadword addresses r) bytes

-- the same of several relocations
abbrev pub code_with_all : List (Option ℕ) → Located → List Relocation → List Form → List Form
code_with_all addresses l [] code = code
code_with_all addresses l (r ∷ rs) code = code_with_all addresses l rs (code_with addresses l r code)

abbrev pub bytes_with_all : List (Option ℕ) → Located → List Relocation → List ℕ → List ℕ
bytes_with_all addresses l [] bytes = bytes
bytes_with_all addresses l (r ∷ rs) bytes = bytes_with_all addresses l rs (bytes_with addresses l r bytes)

-- each module stands behind those before it, the first one behind so many words and data bytes
abbrev pub AreAfterCode : ℕ → ℕ → List Located → Type 0
AreAfterCode words filled [] = Unit {0}
AreAfterCode words filled (l ∷ ls) =
    (l.words ≡ words) × ((l.filled ≡ filled) × AreAfterCode (words + length l.parts.words) (filled + room l.parts) ls)

-- A module is joined to code and data bytes: its own stand behind them, and zero bytes before its data.
pub record JoinsOne (addresses : List (Option ℕ)) (l : Located) (old new : Output) : Type 0 where
  pub code : new.code.items
      ≡ old.code.items ++ code_after addresses l l.parts.relocations (filter_map decoded l.parts.words)
  pub bytes : new.bytes.items
      ≡ old.bytes.items
      ++ (replicate (l.filled - length old.bytes.items) 0 ++ bytes_after addresses l.parts.relocations l.parts.bytes)
  pub size : length new.code.items ≡ length old.code.items + length l.parts.words

-- all modules are joined
pub record JoinsAll (all : List Located) (output : Output) : Type 0 where
  pub met : out_of_range all ≡ None
  pub code : output.code.items ≡ flat_map (code_of all) all
  pub bytes : output.bytes.items ≡ data_in all all
  pub words : length output.code.items ≡ words_in all
  pub filled : length output.bytes.items ≡ filled_in all
