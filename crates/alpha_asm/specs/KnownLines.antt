-- Lines of which it is known that each says an instruction alone.
use Rattle.std.specs.Prelude.{◌≡◌, ℕ, List, [], ◌∷◌, Option, Ok, IfSome}
use Rattle.alpha_table.specs.declared.form.Form.{Form}
use Rattle.alpha_text.specs.Reading.{read}
use Rattle.alpha_quick.specs.Parts.{unlabelled}

-- a line says this instruction alone
abbrev pub IsKnown : List ℕ → Form → Type 0
IsKnown line insn = read line ≡ Ok (unlabelled insn)

-- what is known of lines, from the first on; of those behind the last one nothing is
abbrev pub AreKnown : List (Option Form) → List (List ℕ) → Type 0
AreKnown [] lines = Unit {0}
AreKnown (k ∷ ks) [] = Unit {0}
AreKnown (k ∷ ks) (line ∷ lines) = IfSome k (IsKnown line) × AreKnown ks lines
