-- The fault that is read is the first of all that the tokens have.
use Rattle.std.proofs.Common.{◌≡◌, ◌⊎◌, ℕ, ◌≤◌, ◌<◌, List, [], Bool, true, false, cond, Option, Some, None, Result, Ok}
use Rattle.std.proofs.Common.{Err, length, refl, sym, ◌∙◌, ap, inl, inr, arith}
use Rattle.std.specs.Option.{is_some}
use Rattle.alpha_token.specs.Bytes.{is_label}
use Rattle.alpha_token.specs.Numeral.{number_value}
use Rattle.alpha_token.specs.Tokens.{Lexeme, Tokens, End, Bad, Next, left_of}
use Rattle.alpha_operands.specs.declared.piece.Piece.{Piece}
use Rattle.alpha_operands.specs.declared.piece.Piece.TheVariants as pieces
use Rattle.alpha_operands.specs.declared.number.Sign.{Sign}
use Rattle.alpha_operands.specs.declared.number.Sign.TheVariants as signs
use Rattle.alpha_operands.specs.declared.operands.LineFaultKind.{LineFaultKind}
use Rattle.alpha_operands.specs.declared.operands.LineFaultKind.TheVariants.{BadToken, UnknownName, BadOperands}
use Rattle.alpha_operands.specs.declared.operands.LineFaultKind.TheVariants.{OutOfRange}
use Rattle.alpha_operands.specs.declared.walk.OperandFault.{OperandFault}
use Rattle.alpha_operands.specs.Names.{register_of, operator_of}
use Rattle.alpha_operands.specs.Ranges.{number_of, offset_of}
use Rattle.alpha_operands.specs.Pieces.{kind_of}
use Rattle.alpha_operands.specs.Shapes.{Pattern}
use Rattle.alpha_operands.specs.Operands.{Slots, nothing, with_value, filled}
use Rattle.alpha_operands.specs.Walk.{is_whole, piece_behind, front_after, sign_after, is_unknown, stuck_at, fault}
use Rattle.alpha_operands.specs.Walk.{go_on, taken, follow}
use Rattle.alpha_operands.specs.Grammar.{ContinuesOperand, AreOperands, AmongTokens, HasFault, fault_at, kind_order}
use Rattle.alpha_operands.specs.Grammar.{NoLater}
use Rattle.alpha_token.proofs.TokenOrder.{AreInOrder}
use Rattle.alpha_operands.proofs.Grammar.{Distinct, piece_behind-is, piece_behind-none, is_whole-is, is_whole-of}
use Rattle.alpha_operands.proofs.Grammar.{cond-ok_or_fault, grammar-took, grammar-went, spells-follow}

no_value : {A : Type 0} (x : Option A) (kind : LineFaultKind) (f g : A → Slots) (why : LineFaultKind)
    → with_value x kind f ≡ Err why → with_value x kind g ≡ Err why
no_value None kind f g why h = h
no_value (Some v) kind f g why h = cc

no_label : (b : Bool) (o r : Slots) (why : LineFaultKind) → cond b (Ok o) (Err BadOperands) ≡ Err why
    → cond b (Ok r) (Err BadOperands) ≡ Err why
no_label true o r why h = cc
no_label false o r why h = h

-- what is wrong with a value doesn't depend on the operands before it
pub filled-err : (p : Piece) (t : Lexeme) (sign : Sign) (o r : Slots) (why : LineFaultKind)
    → filled p t sign o ≡ Err why → filled p t sign r ≡ Err why
unfolding filled
filled-err pieces.Ra t sign o r why h = no_value (register_of t.text) UnknownName _ _ why h
filled-err pieces.Rb t sign o r why h = no_value (register_of t.text) UnknownName _ _ why h
filled-err pieces.Rc t sign o r why h = no_value (register_of t.text) UnknownName _ _ why h
filled-err pieces.Comma t sign o r why h = cc
filled-err pieces.Again t sign o r why h = cc
filled-err pieces.Open t sign o r why h = cc
filled-err pieces.Close t sign o r why h = cc
filled-err pieces.Minus t sign o r why h = cc
filled-err pieces.Plus t sign o r why h = cc
filled-err pieces.Less t sign o r why h = cc
filled-err pieces.Dot t sign o r why h = cc
filled-err pieces.Operator t sign o r why h = no_value (operator_of t.text) UnknownName _ _ why h
filled-err pieces.Label t sign o r why h = no_label (is_label t.text) _ _ why h
filled-err pieces.Offset t sign o r why h = no_value (offset_of sign (number_value t.text)) OutOfRange _ _ why h
filled-err pieces.Text t sign o r why h = cc
filled-err p t sign o r why h = no_value (number_of p sign (number_value t.text)) OutOfRange _ _ why h

none_known : {A : Type 0} (x : Option A) (kind : LineFaultKind) (f : A → Slots) → cond (is_some x) false true ≡ true
    → with_value x kind f ≡ Err kind
none_known None kind f h = refl
none_known (Some v) kind f h = cc

-- at the piece of a register or an operator an unknown name is wrong
unknown_here : (p : Piece) (t : Lexeme) (sign : Sign) (o : Slots) → is_unknown (kind_of p) t.text ≡ true
    → filled p t sign o ≡ Err UnknownName
unfolding filled
unknown_here pieces.Ra t sign o h = none_known (register_of t.text) UnknownName _ h
unknown_here pieces.Rb t sign o h = none_known (register_of t.text) UnknownName _ h
unknown_here pieces.Rc t sign o h = none_known (register_of t.text) UnknownName _ h
unknown_here pieces.Operator t sign o h = none_known (operator_of t.text) UnknownName _ h
unknown_here p t sign o h = cc

unknown_at : (p : Piece) (t : Lexeme) (sign : Sign) (o : Slots) → kind_of p ≡ t.kind → is_unknown t.kind t.text ≡ true
    → filled p t sign o ≡ Err UnknownName
unknown_at p t sign o k h = unknown_here p t sign o (ap (λ kind. is_unknown kind t.text) k ∙ h)

-- each fault of tokens stands within them
pub among-left : (n : ℕ) (ts : Tokens) (g : OperandFault) → AreInOrder n ts → AmongTokens ts g → g.left ≤ n
among-left n (End left) g f h = absurd h
among-left n (Bad left) g f h = rw h f
among-left n (Next t ts) g (a, b, c) h = elim h [
  | inl (u, e) ↦ rw e a
  | inr m ↦ let k : g.left ≤ length t.rest = among-left (length t.rest) ts g c m in omega arith
]

pub has-left : (n : ℕ) (all : List Pattern) (front : Pattern) (sign : Sign) (ts : Tokens) (g : OperandFault)
    → AreInOrder n ts → HasFault all front sign ts g → g.left ≤ n
has-left n all front sign (End left) g f (not_one, e) = rw e f
has-left n all front sign (Bad left) g f h = rw h f
has-left n all front sign (Next t ts) g (a, b, c) h =
    elim h [
      | inl m ↦ among-left n (Next t ts) g (a, b, c) m
      | inr k ↦ elim k [
        | inl (not_one, e) ↦ rw e a
        | inr (p, goes, same, w) ↦ elim w [
          | inl (why, bad, e) ↦ rw e a
          | inr m ↦ let l : g.left ≤ length t.rest =
              has-left (length t.rest) all (front_after front p) (sign_after p) ts g c m in
              omega arith
        ]
      ]
    ]

pub among-has : (all : List Pattern) (front : Pattern) (sign : Sign) (ts : Tokens) (g : OperandFault) → AmongTokens ts g
    → HasFault all front sign ts g
among-has all front sign (End left) g h = absurd h
among-has all front sign (Bad left) g h = h
among-has all front sign (Next t ts) g h = inl h

not_whole : (b : Bool) (o : Slots) (left : ℕ) (f : OperandFault) → cond b (Ok o) (fault left BadOperands) ≡ Err f
    → (b ≡ false) × (f ≡ fault_at left BadOperands)
not_whole true o left f h = cc
not_whole false o left f h = (refl, cc)

-- a fault that was read stands at this token, or behind it
took_no : (t : Lexeme) (sign : Sign) (o : Slots) (found : Option Piece)
    (more : Piece → Slots → Result Slots OperandFault) (f : OperandFault)
    → taken t sign o found more ≡ Err f →
    ((found ≡ None) × (f ≡ fault_at (left_of t) (stuck_at t)))
    ⊎ ((p : Piece) × (found ≡ Some p) × (go_on (left_of t) (filled p t sign o) (more p) ≡ Err f))
took_no t sign o None more f h = inl (refl, cc)
took_no t sign o (Some p) more f h = inr (p, refl, h)

went_no : (left : ℕ) (x : Result Slots LineFaultKind) (more : Slots → Result Slots OperandFault) (f : OperandFault)
    → go_on left x more ≡ Err f →
    ((why : LineFaultKind) × (x ≡ Err why) × (f ≡ fault_at left why))
    ⊎ ((next : Slots) × (x ≡ Ok next) × (more next ≡ Err f))
went_no left (Err why) more f h = inl (why, refl, cc)
went_no left (Ok next) more f h = inr (next, refl, h)

-- at a token with which no pattern goes on
pub fault-stuck : (t : Lexeme) (b : Bool) → is_unknown t.kind t.text ≡ b
    → ((b ≡ true) × (stuck_at t ≡ UnknownName)) ⊎ (stuck_at t ≡ BadOperands)
fault-stuck t true h = inl (refl, rw h refl)
fault-stuck t false h = inr (rw h refl)

pub follow-has : (all : List Pattern) → Distinct all
    → (front : Pattern) (sign : Sign) (ts : Tokens) (o : Slots) (f : OperandFault) → follow all front sign ts o ≡ Err f
    → HasFault all front sign ts f
follow-has all distinct front sign (End left) o f h =
    let (e, same) = not_whole (is_whole all front) o left f h in
    (λ m. let no : false ≡ true = sym e ∙ is_whole-of all front m in cc, same)
follow-has all distinct front sign (Bad left) o f h = cc
follow-has all distinct front sign (Next t ts) o f h =
    elim (took_no t sign o (piece_behind all front t.kind)
    (λ p filled. follow all (front_after front p) (sign_after p) ts filled) f h) [
      | inl (none, e) ↦ elim (fault-stuck t (is_unknown t.kind t.text) refl) [
        | inl (u, k) ↦ inl (inl (u, e ∙ ap (fault_at (left_of t)) k))
        | inr k ↦ inr
            (inl (λ p goes same. piece_behind-none all front t.kind p none goes same, e ∙ ap (fault_at (left_of t)) k))
      ]
      | inr (p, found, g) ↦
          let (goes, same) = piece_behind-is all front t.kind p found in
          elim (went_no (left_of t) (filled p t sign o)
          (λ filled. follow all (front_after front p) (sign_after p) ts filled) f g) [
            | inl (why, bad, e) ↦ inr (inr (p, goes, same, inl (why, filled-err p t sign o nothing why bad, e)))
            | inr (next, ok, m) ↦ inr
                (inr (p, goes, same, inr (follow-has all distinct (front_after front p) (sign_after p) ts next f m)))
          ]
    ]

-- two faults at one column
pub NoLater-same_column : (left : ℕ) (a b : LineFaultKind) (f g : OperandFault) → f ≡ fault_at left a
    → g ≡ fault_at left b
    → kind_order a ≤ kind_order b → NoLater f g
NoLater-same_column left a b f g e k h = rw (e, k) (inr (refl, h))

-- and one further on
pub NoLater-further_column : (left : ℕ) (a : LineFaultKind) (f g : OperandFault) → f ≡ fault_at left a → g.left < left
    → NoLater f g
NoLater-further_column left a f g e h = rw e (inl h)

pub stuck_most : (t : Lexeme) → kind_order (stuck_at t) ≤ 3
stuck_most t =
    elim (fault-stuck t
    (is_unknown t.kind t.text) refl) [ inl (u, k) ↦ rw k (omega arith) | inr k ↦ rw k (omega arith) ]

pub stuck_unknown : (t : Lexeme) → is_unknown t.kind t.text ≡ true → kind_order (stuck_at t) ≤ 2
stuck_unknown t u = rw u (omega arith)

-- at a token with which a pattern goes on: another fault at it is no smaller, and one behind it no earlier
behind_token : (n : ℕ) (all : List Pattern) → Distinct all
    → (front : Pattern) (sign : Sign) (t : Lexeme) (ts : Tokens) (o : Slots) (f g : OperandFault) (p : Piece) →
    ContinuesOperand all front p → kind_of p ≡ t.kind → AreInOrder (length t.rest) ts →
    (((why : LineFaultKind) × (filled p t sign o ≡ Err why) × (f ≡ fault_at (left_of t) why)) ⊎ ((next : Slots)
    × (filled p t sign o ≡ Ok next) × (follow all (front_after front p) (sign_after p) ts next ≡ Err f))) →
    ((next : Slots) → follow all (front_after front p) (sign_after p) ts next ≡ Err f
    → HasFault all (front_after front p) (sign_after p) ts g → NoLater f g) →
    0 < length t.text → HasFault all front sign (Next t ts) g → NoLater f g
behind_token n all distinct front sign t ts o f g p goes same c (inl (why, bad, e)) ih b has =
    elim has [
      | inl m ↦ elim m [
        | inl (u, k) ↦ NoLater-same_column (left_of t) why UnknownName f g e k
            (let w : Err why ≡ Err UnknownName = sym bad ∙ unknown_at p t sign o same u in
            let v : why ≡ UnknownName = cc in rw v (omega arith))
        | inr d ↦ NoLater-further_column (left_of t) why f g e
            (let l : g.left ≤ length t.rest = among-left (length t.rest) ts g c d in omega arith)
      ]
      | inr r ↦ elim r [
        | inl (not_one, k) ↦ absurd (not_one p goes same)
        | inr (x, also, kind, w) ↦
            let e2 : p ≡ x = distinct.same front p x goes also (same ∙ sym kind) in
            elim w [
              | inl (other, wrong, k) ↦
                  let one : filled p t sign nothing ≡ Err other = rw e2 wrong in
                  let two : filled p t sign nothing ≡ Err why = filled-err p t sign o nothing why bad in
                  let w2 : Err why ≡ Err other = sym two ∙ one in
                  let v : why ≡ other = cc in
                  NoLater-same_column (left_of t) why other f g e k (rw v (omega arith))
              | inr d ↦ NoLater-further_column (left_of t) why f g e
                  (let l : g.left ≤ length t.rest =
                  has-left (length t.rest) all (front_after front x) (sign_after x) ts g c d in omega arith)
            ]
      ]
    ]
behind_token n all distinct front sign t ts o f g p goes same c (inr (next, ok, m)) ih b has =
    elim has [
      | inl d ↦ elim d [
        | inl (u, k) ↦ let w : Ok next ≡ Err UnknownName = sym ok ∙ unknown_at p t sign o same u in cc
        | inr d ↦ ih next m (among-has all (front_after front p) (sign_after p) ts g d)
      ]
      | inr r ↦ elim r [
        | inl (not_one, k) ↦ absurd (not_one p goes same)
        | inr (x, also, kind, w) ↦
            let e2 : p ≡ x = distinct.same front p x goes also (same ∙ sym kind) in
            elim w [
              | inl (other, wrong, k) ↦
                  let one : filled p t sign nothing ≡ Err other = rw e2 wrong in
                  let two : filled p t sign o ≡ Err other = filled-err p t sign nothing o other one in
                  let w2 : Ok next ≡ Err other = sym ok ∙ two in cc
              | inr d ↦ ih next m (rw e2 d)
            ]
      ]
    ]

pub follow-first : (n : ℕ) (all : List Pattern) → Distinct all
    → (front : Pattern) (sign : Sign) (ts : Tokens) (o : Slots) (f g : OperandFault) → AreInOrder n ts
    → follow all front sign ts o ≡ Err f → HasFault all front sign ts g → NoLater f g
follow-first n all distinct front sign (End left) o f g f_falls h (not_one, e) =
    let (w, same) = not_whole (is_whole all front) o left f h in
    NoLater-same_column left BadOperands BadOperands f g same e (omega arith)
follow-first n all distinct front sign (Bad left) o f g f_falls h e =
    let same : f ≡ fault_at left BadToken = cc in NoLater-same_column left BadToken BadToken f g same e (omega arith)
follow-first n all distinct front sign (Next t ts) o f g (a, b, c) h has =
    elim (took_no t sign o (piece_behind all front t.kind)
    (λ p filled. follow all (front_after front p) (sign_after p) ts filled) f h) [
      | inl (none, e) ↦ elim has [
        | inl m ↦ elim m [
          | inl (u, k) ↦ NoLater-same_column (left_of t) (stuck_at t) UnknownName f g e k (stuck_unknown t u)
          | inr m ↦ NoLater-further_column (left_of t) (stuck_at t) f g e
              (let l : g.left ≤ length t.rest = among-left (length t.rest) ts g c m in omega arith)
        ]
        | inr r ↦ elim r [
          | inl (not_one, k) ↦ NoLater-same_column (left_of t) (stuck_at t) BadOperands f g e k (stuck_most t)
          | inr (p, goes, same, w) ↦ absurd (piece_behind-none all front t.kind p none goes same)
        ]
      ]
      | inr (p, found, m) ↦
          let (goes, same) = piece_behind-is all front t.kind p found in
          behind_token n all distinct front sign t ts o f g p goes same c
          (went_no (left_of t) (filled p t sign o)
          (λ filled. follow all (front_after front p) (sign_after p) ts filled) f m)
          (λ next k hk.
          follow-first (length t.rest) all distinct (front_after front p) (sign_after p) ts next f g c k hk) b has
    ]

-- tokens that are read have no fault
follow-clean : (all : List Pattern) → Distinct all
    → (front : Pattern) (sign : Sign) (ts : Tokens) (o r : Slots) (g : OperandFault) → follow all front sign ts o ≡ Ok r
    → HasFault all front sign ts g → ⊥
follow-clean all distinct front sign (End left) o r g h (not_one, e) =
    let (w, same) = cond-ok_or_fault (is_whole all front) o r left h in
    not_one (is_whole-is all front w)
follow-clean all distinct front sign (Bad left) o r g h has = cc
follow-clean all distinct front sign (Next t ts) o r g h has =
    let (p, e, k) = grammar-took t sign o (piece_behind all front t.kind)
    (λ p filled. follow all (front_after front p) (sign_after p) ts filled) r h in
    let (next, ok, m) = grammar-went (left_of t) (filled p t sign o)
    (λ filled. follow all (front_after front p) (sign_after p) ts filled) r k in
    let (goes, same) = piece_behind-is all front t.kind p e in
    let behind : HasFault all (front_after front p) (sign_after p) ts g → ⊥ =
    follow-clean all distinct (front_after front p) (sign_after p) ts next r g m in
    elim has [
      | inl d ↦ elim d [
        | inl (u, x) ↦ let w : Ok next ≡ Err UnknownName = sym ok ∙ unknown_at p t sign o same u in cc
        | inr d ↦ behind (among-has all (front_after front p) (sign_after p) ts g d)
      ]
      | inr s ↦ elim s [
        | inl (not_one, x) ↦ not_one p goes same
        | inr (x, also, kind, w) ↦
            let e2 : p ≡ x = distinct.same front p x goes also (same ∙ sym kind) in
            elim w [
              | inl (other, wrong, y) ↦
                  let one : filled p t sign nothing ≡ Err other = rw e2 wrong in
                  let two : filled p t sign o ≡ Err other = filled-err p t sign nothing o other one in
                  let w2 : Ok next ≡ Err other = sym ok ∙ two in cc
              | inr d ↦ behind (rw e2 d)
            ]
      ]
    ]

pub AreOperands-no_fault : (all : List Pattern) → Distinct all → (ts : Tokens) (o : Slots) (g : OperandFault)
    → AreOperands all ts o → HasFault all [] signs.Plus ts g → ⊥
AreOperands-no_fault all distinct ts o g (q, k, s) =
    follow-clean all distinct [] signs.Plus ts nothing o g (spells-follow all distinct [] q signs.Plus ts nothing o k s)
