-- What a line is to the barriers, and why none are put in.
use Rattle.std.specs.Prelude.{◌≡◌, ℕ, List, [], ◌∷◌, Option, None, Some, Bool, true, false}
use Rattle.alpha_fix.specs.declared.barriers.Role.{Role}
use Rattle.alpha_fix.specs.declared.barriers.Role.TheVariants.{FixedLine, Insn, Other}
use Rattle.alpha_fix.specs.declared.fault.FixFault.{FixFault}
use Rattle.alpha_fix.specs.declared.fault.FixFault.TheVariants.{Source, Unfixable, Fixed, Far, NoMemory}
use Rattle.alpha_fix.specs.FixedLines.{fixed_line}

-- what a line is to the barriers, by whether it is fixed and whether it has an instruction
abbrev pub role : Bool → Bool → Role
role true insn = FixedLine
role false true = Insn
role false false = Other

-- what is known of a line with a barrier behind it if there is to be one
abbrev pub known_behind : {A : Type 0} → Option A → Bool → Bool → Option A → List (Option A)
known_behind bar true true insn = insn ∷ bar ∷ []
known_behind bar true false insn = None ∷ bar ∷ []
known_behind bar false ended insn = insn ∷ []

-- why barriers aren't put into a source
abbrev pub Hinders : List ℕ → FixFault → Type 0
Hinders source (Source fault) = ⊥
Hinders source (Unfixable b base) = ⊥
Hinders source (Fixed line) = fixed_line source ≡ Some line
Hinders source (Far fault) = ⊥
Hinders source NoMemory = Unit {0}
