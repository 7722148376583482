-- What is read of a line is its grammar, and the fault that is read is the first.
use Rattle.std.proofs.Common.{◌≡◌, ℕ, List, [], Bool, true, false, cond, eqb, Option, Some, None, Result, Ok, Err}
use Rattle.std.proofs.Common.{length, drop, get_or, refl, sym, ◌∙◌, ap, inl, inr, arith}
use Rattle.std.proofs.lemmas.Bool.Decides.{nat_tests}
use Rattle.std.proofs.lemmas.Bool.{and_parts}
use Rattle.alpha_token.specs.Bytes.{is_label}
use Rattle.alpha_token.specs.declared.token.TokenKind.TheVariants as kinds
use Rattle.alpha_token.specs.Tokens.{Lexeme, Tokens, End, Bad, Next, tokens}
use Rattle.alpha_operands.specs.declared.number.Sign.TheVariants as signs
use Rattle.alpha_operands.specs.declared.walk.OperandFault.{OperandFault}
use Rattle.alpha_operands.specs.Pieces.{same_kind}
use Rattle.alpha_operands.specs.Shapes.{patterns}
use Rattle.alpha_operands.specs.Operands.{Slots, nothing}
use Rattle.alpha_operands.specs.Walk.{operands}
use Rattle.alpha_operands.specs.Grammar.{AreOperands}
use Rattle.alpha_operands.proofs.Grammar.{same_kind-is, same_kind-same, follow-spells, spells-follow}
use Rattle.alpha_operands.proofs.PatternsApart.{shapes-distinct}
use Rattle.alpha_text.specs.declared.head.Head.{Head}
use Rattle.alpha_text.specs.Heads.{head_of, shape_of}
use Rattle.alpha_text.specs.Statements.{Stmt, stmt_by}
use Rattle.alpha_text.specs.Reading.{LineStmt, list_in, with_operands, with_head, statement_of, is_labelled, labelled}
use Rattle.alpha_text.specs.Reading.{line_after_label, line_of, located, read}
use Rattle.alpha_text.specs.Grammar.{IsStatement, IsLabelled, IsLine}

-- the operands that are read are those of the grammar
operands-are : (head : Head) (ts : Tokens) (o : Slots) → operands (patterns (shape_of head)) ts ≡ Ok o
    → AreOperands (patterns (shape_of head)) ts o
unfolding operands
operands-are head ts o h = follow-spells (patterns (shape_of head)) [] signs.Plus ts nothing o h

pub are-operands : (head : Head) (ts : Tokens) (o : Slots) → AreOperands (patterns (shape_of head)) ts o
    → operands (patterns (shape_of head)) ts ≡ Ok o
unfolding operands
are-operands head ts o (q, c, s) =
    spells-follow (patterns (shape_of head)) (shapes-distinct (shape_of head)) [] q signs.Plus ts nothing o c s

pub statement_of-operands : (head : Head) (behind : List ℕ) (r : Result Slots OperandFault) (s : Stmt)
    → with_operands head behind r ≡ Ok s → (o : Slots) × (r ≡ Ok o) × (s ≡ stmt_by head o (list_in behind o.left))
statement_of-operands head behind (Err f) s h = cc
statement_of-operands head behind (Ok o) s h = (o, refl, cc)

head_gave : (t : Lexeme) (ts : Tokens) (r : Option Head) (s : Stmt) → with_head t ts r ≡ Ok s
    → (head : Head) × (r ≡ Some head) × (with_operands head t.rest (operands (patterns (shape_of head)) ts) ≡ Ok s)
head_gave t ts None s h = cc
head_gave t ts (Some head) s h = (head, refl, h)

name_gave : (t : Lexeme) (ts : Tokens) (b : Bool) (f : OperandFault) (s : Stmt)
    → cond b (with_head t ts (head_of t.text)) (Err f) ≡ Ok s → (b ≡ true) × (with_head t ts (head_of t.text) ≡ Ok s)
name_gave t ts true f s h = (refl, h)
name_gave t ts false f s h = cc

statement-is : (ts : Tokens) (s : Stmt) → statement_of ts ≡ Ok s → IsStatement ts s
statement-is (End left) s h = cc
statement-is (Bad left) s h = cc
statement-is (Next t ts) s h =
    let (b, g) = name_gave t ts (same_kind t.kind kinds.Name) _ s h in
    let (head, e, k) = head_gave t ts (head_of t.text) s g in
    let (o, read_so, says) = statement_of-operands head t.rest (operands (patterns (shape_of head)) ts) s k in
    (same_kind-is t.kind kinds.Name b, head, e, o, operands-are head ts o read_so, says)

is-statement : (ts : Tokens) (s : Stmt) → IsStatement ts s → statement_of ts ≡ Ok s
is-statement (End left) s h = rw h refl
is-statement (Bad left) s h = absurd h
is-statement (Next t ts) s (k, head, e, o, are, says) =
    rw (same_kind-same t.kind kinds.Name k, e, are-operands head ts o are, says) refl

pub is_labelled-is : (t : Lexeme) (ts : Tokens) → is_labelled t ≡ true → IsLabelled (Next t ts)
is_labelled-is t ts h =
    let (a, b) = and_parts (same_kind t.kind kinds.Name) (eqb (get_or t.rest 0 0) 58) h in
    (same_kind-is t.kind kinds.Name a, (let e : get_or t.rest 0 0 ≡ 58 = grind (arith, nat_tests) in e))

pub is_labelled-of : (t : Lexeme) (ts : Tokens) → IsLabelled (Next t ts) → is_labelled t ≡ true
is_labelled-of t ts (a, b) = rw (same_kind-same t.kind kinds.Name a, b) refl

labelled_gave : (label : Option (List ℕ)) (r : Result Stmt OperandFault) (l : LineStmt) → labelled label r ≡ Ok l
    → (r ≡ Ok l.statement) × (l.label ≡ label)
labelled_gave label (Err f) l h = cc
labelled_gave label (Ok s) l h =
    let e : (let x : LineStmt = record { label = label; statement = s } in x) ≡ l = cc in
    (rw (← e) refl, rw (← e) refl)

label_gave : (b : Bool) (r : Result LineStmt OperandFault) (f : OperandFault) (l : LineStmt) → cond b r (Err f) ≡ Ok l
    → (b ≡ true) × (r ≡ Ok l)
label_gave true r f l h = (refl, h)
label_gave false r f l h = cc

unlabelled-line : (ts : Tokens) (l : LineStmt) → (IsLabelled ts → ⊥) → labelled None (statement_of ts) ≡ Ok l
    → IsLine ts l
unlabelled-line ts l none h =
    let (s, e) = labelled_gave None (statement_of ts) l h in
    inr (none, e, statement-is ts l.statement s)

pub line_of-is : (ts : Tokens) (l : LineStmt) → line_of ts ≡ Ok l → IsLine ts l
line_of-is (End left) l h = unlabelled-line (End left) l (λ x. x) h
line_of-is (Bad left) l h = unlabelled-line (Bad left) l (λ x. x) h
line_of-is (Next t ts) l h =
    let either : (b : Bool) → is_labelled t ≡ b
    → cond b (line_after_label t) (labelled None (statement_of (Next t ts))) ≡ Ok l → IsLine (Next t ts) l =
    λ b.
    elim b as (λ v. is_labelled t ≡ v → cond v (line_after_label t) (labelled None (statement_of (Next t ts))) ≡ Ok l
    → IsLine (Next t ts) l) [
      | true ↦ λ e k.
          let (good, g) =
          label_gave (is_label t.text) (labelled (Some t.text) (statement_of (tokens (drop 1 t.rest)))) _ l k in
          let (s, n) = labelled_gave (Some t.text) (statement_of (tokens (drop 1 t.rest))) l g in
          inl (is_labelled-is t ts e, (good, n, statement-is (tokens (drop 1 t.rest)) l.statement s))
      | false ↦ λ e k.
          unlabelled-line (Next t ts) l (λ x. let yes : false ≡ true = sym e ∙ is_labelled-of t ts x in cc) k
    ] in
    either (is_labelled t) refl h

line-is : (label : Option (List ℕ)) (r : Result Stmt OperandFault) (l : LineStmt) → l.label ≡ label → r ≡ Ok l.statement
    → labelled label r ≡ Ok l
line-is label r l a b = rw (b, ← a) refl

pub is-line_of : (ts : Tokens) (l : LineStmt) → IsLine ts l → line_of ts ≡ Ok l
is-line_of (End left) l (inl (x, y)) = absurd x
is-line_of (End left) l (inr (none, n, s)) =
    line-is None (statement_of (End left)) l n (is-statement (End left) l.statement s)
is-line_of (Bad left) l (inl (x, y)) = absurd x
is-line_of (Bad left) l (inr (none, n, s)) = absurd s
is-line_of (Next t ts) l (inl (x, (good, n, s))) =
    rw (is_labelled-of t ts x, good)
    (line-is (Some t.text) (statement_of (tokens (drop 1 t.rest))) l n
    (is-statement (tokens (drop 1 t.rest)) l.statement s))
is-line_of (Next t ts) l (inr (none, n, s)) =
    let either : (b : Bool) → is_labelled t ≡ b
    → cond b (line_after_label t) (labelled None (statement_of (Next t ts))) ≡ Ok l =
    λ b.
    elim b as (λ v. is_labelled t ≡ v → cond v (line_after_label t) (labelled None (statement_of (Next t ts))) ≡ Ok l) [
      | true ↦ λ e. absurd (none (is_labelled-is t ts e))
      | false ↦ λ e. line-is None (statement_of (Next t ts)) l n (is-statement (Next t ts) l.statement s)
    ] in
    either (is_labelled t) refl

located_gave : (n : ℕ) (r : Result LineStmt OperandFault) (l : LineStmt) → located n r ≡ Ok l → r ≡ Ok l
located_gave n (Ok x) l h = let e : x ≡ l = cc in ap Ok e
located_gave n (Err f) l h = cc

pub read-is : (line : List ℕ) (l : LineStmt)
    → (read line ≡ Ok l → IsLine (tokens line) l) × (IsLine (tokens line) l → read line ≡ Ok l)
unfolding read
read-is line l = (
  λ h. line_of-is (tokens line) l (located_gave (length line) (line_of (tokens line)) l h),
  λ h. rw (is-line_of (tokens line) l h) refl,
)
