-- The grammar of operands and the places of their faults, apart from how they are read.
use Rattle.std.specs.Prelude.{◌≡◌, ◌⊎◌, ℕ, ◌<◌, ◌≤◌, List, [], ◌∷◌, ◌++◌, true, Ok, Err}
use Rattle.alpha_token.specs.Tokens.{Tokens, End, Bad, Next, left_of}
use Rattle.alpha_operands.specs.declared.piece.Piece.{Piece}
use Rattle.alpha_operands.specs.declared.number.Sign.{Sign}
use Rattle.alpha_operands.specs.declared.number.Sign.TheVariants as signs
use Rattle.alpha_operands.specs.declared.operands.LineFaultKind.{LineFaultKind}
use Rattle.alpha_operands.specs.declared.operands.LineFaultKind.TheVariants.{BadToken, UnknownName, BadOperands}
use Rattle.alpha_operands.specs.declared.operands.LineFaultKind.TheVariants.{OutOfRange}
use Rattle.alpha_operands.specs.declared.walk.OperandFault.{OperandFault}
use Rattle.alpha_operands.specs.Pieces.{kind_of}
use Rattle.alpha_operands.specs.Shapes.{Pattern}
use Rattle.alpha_operands.specs.Operands.{Slots, nothing, filled}
use Rattle.alpha_operands.specs.Walk.{front_after, sign_after, is_unknown}

abbrev pub IsOneOf : Pattern → List Pattern → Type 0
IsOneOf q [] = ⊥
IsOneOf q (p ∷ ps) = (p ≡ q) ⊎ IsOneOf q ps

-- a pattern has this front and then this piece
abbrev pub ContinuesOperand : List Pattern → Pattern → Piece → Type 0
ContinuesOperand all front p = (rest : Pattern) × IsOneOf (front ++ p ∷ rest) all

-- The pieces complete a front to a pattern. Behind the comma of a list the patterns begin anew, so there a pattern has
-- any number of values.
abbrev pub Completes : List Pattern → Pattern → Pattern → Type 0
Completes all front [] = IsOneOf front all
Completes all front (p ∷ q) = ContinuesOperand all front p × Completes all (front_after front p) q

-- the tokens spell the pieces, each by its form, and put these values to the operands
abbrev pub Spells : Pattern → Sign → Tokens → Slots → Slots → Type 0
Spells [] sign (End left) o r = o ≡ r
Spells [] sign (Bad left) o r = ⊥
Spells [] sign (Next t ts) o r = ⊥
Spells (p ∷ q) sign (End left) o r = ⊥
Spells (p ∷ q) sign (Bad left) o r = ⊥
Spells (p ∷ q) sign (Next t ts) o r =
    (kind_of p ≡ t.kind) × (next : Slots) × (filled p t sign o ≡ Ok next) × Spells q (sign_after p) ts next r

-- the operands of the tokens: some pattern spells them
abbrev pub AreOperands : List Pattern → Tokens → Slots → Type 0
AreOperands all ts r = (q : Pattern) × Completes all [] q × Spells q signs.Plus ts nothing r

abbrev pub fault_at : ℕ → LineFaultKind → OperandFault
fault_at left kind = record { left = left; kind = kind }

-- a fault that stands at a token wherever it is: a byte that begins none, an unknown register or operator
abbrev pub AmongTokens : Tokens → OperandFault → Type 0
AmongTokens (End left) f = ⊥
AmongTokens (Bad left) f = f ≡ fault_at left BadToken
AmongTokens (Next t ts) f =
    ((is_unknown t.kind t.text ≡ true) × (f ≡ fault_at (left_of t) UnknownName)) ⊎ AmongTokens ts f

-- Each fault that the tokens behind a front have: one among the tokens; where no pattern goes on with a token, or with
-- the end; a value that is wrong at its piece; and those behind a token with which a pattern goes on.
abbrev pub HasFault : List Pattern → Pattern → Sign → Tokens → OperandFault → Type 0
HasFault all front sign (End left) f = (IsOneOf front all → ⊥) × (f ≡ fault_at left BadOperands)
HasFault all front sign (Bad left) f = f ≡ fault_at left BadToken
HasFault all front sign (Next t ts) f =
    AmongTokens (Next t ts) f
    ⊎ ((((p : Piece) → ContinuesOperand all front p → kind_of p ≡ t.kind → ⊥) × (f ≡ fault_at (left_of t) BadOperands))
    ⊎ ((p : Piece) × ContinuesOperand all front p × (kind_of p ≡ t.kind)
    × (((why : LineFaultKind) × (filled p t sign nothing ≡ Err why) × (f ≡ fault_at (left_of t) why))
    ⊎ HasFault all (front_after front p) (sign_after p) ts f)))

-- the order of kinds at one column
abbrev pub kind_order : LineFaultKind → ℕ
kind_order BadToken = 1
kind_order UnknownName = 2
kind_order BadOperands = 3
kind_order OutOfRange = 4

-- f stands before g, or at the same column and is of no greater kind
abbrev pub NoLater : OperandFault → OperandFault → Type 0
NoLater f g = (g.left < f.left) ⊎ ((g.left ≡ f.left) × (kind_order f.kind ≤ kind_order g.kind))

-- the first fault of the tokens
abbrev pub FirstFault : List Pattern → Tokens → OperandFault → Type 0
FirstFault all ts f =
    HasFault all [] signs.Plus ts f × ((g : OperandFault) → HasFault all [] signs.Plus ts g → NoLater f g)
