-- A line as far as it was read by places.
use Rattle.std.specs.Prelude.{◌≡◌, ℕ, List, Option, None, Some}
use Rattle.alpha_table.specs.declared.form.Form.{Form}
use Rattle.alpha_token.specs.Tokens.{tokens}
use Rattle.alpha_text.specs.Statements.{Stmt}
use Rattle.alpha_quick.specs.declared.line.Prescanned.{Prescanned}
use Rattle.alpha_quick.specs.InsnPrefix.{Reaches, HasStatement}

-- An instruction and the words that are left make the statement of a line without a label; without an instruction what
-- is left says all that the line does.
abbrev pub LeavesRest : List ℕ → Option Form → List ℕ → Type 0
LeavesRest line (Some i) left = (s : Stmt) → Reaches i left s → HasStatement line s
LeavesRest line None left = tokens line ≡ tokens left

abbrev pub IsPrescanned : List ℕ → Prescanned → Type 0
IsPrescanned line p = LeavesRest line p.insn p.left.now
