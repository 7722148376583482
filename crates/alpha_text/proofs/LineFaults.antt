-- The fault that is read of a line is the first of all that it has.
use Rattle.std.proofs.Common.{◌≡◌, ◌⊎◌, ℕ, List, [], ◌+◌, ◌-◌, ◌<◌, ◌≤◌, Bool, true, false, cond, Option, Some, None}
use Rattle.std.proofs.Common.{Result, Ok, Err, length, length-drop, drop, refl, sym, ◌∙◌, ap, inl, inr, arith}
use Rattle.alpha_token.specs.Bytes.{is_label}
use Rattle.alpha_token.specs.declared.token.TokenKind.TheVariants as kinds
use Rattle.alpha_token.specs.Tokens.{Lexeme, Tokens, End, Bad, Next, left_of, tokens}
use Rattle.alpha_operands.specs.declared.number.Sign.TheVariants as signs
use Rattle.alpha_operands.specs.declared.operands.LineFaultKind.{LineFaultKind}
use Rattle.alpha_operands.specs.declared.operands.LineFaultKind.TheVariants.{BadToken, UnknownName, BadOperands}
use Rattle.alpha_operands.specs.declared.walk.OperandFault.{OperandFault}
use Rattle.alpha_operands.specs.Pieces.{same_kind}
use Rattle.alpha_operands.specs.Shapes.{patterns}
use Rattle.alpha_operands.specs.Operands.{Slots, nothing}
use Rattle.alpha_operands.specs.Walk.{operands, is_unknown, stuck_at}
use Rattle.alpha_operands.specs.Grammar.{HasFault, NoLater, fault_at}
use Rattle.alpha_operands.proofs.Grammar.{same_kind-is, same_kind-same}
use Rattle.alpha_operands.proofs.PatternsApart.{shapes-distinct}
use Rattle.alpha_token.proofs.TokenOrder.{AreInOrder, tokens-fall}
use Rattle.alpha_operands.proofs.OperandFaults.{among-left, has-left, among-has, fault-stuck, NoLater-same_column}
use Rattle.alpha_operands.proofs.OperandFaults.{NoLater-further_column}
use Rattle.alpha_operands.proofs.OperandFaults.{stuck_most, stuck_unknown, follow-has, follow-first}
use Rattle.alpha_operands.proofs.OperandFaults.{AreOperands-no_fault}
use Rattle.alpha_text.specs.declared.head.Head.{Head}
use Rattle.alpha_text.specs.declared.reader.LineFault.{LineFault}
use Rattle.alpha_text.specs.Heads.{head_of, shape_of}
use Rattle.alpha_text.specs.Statements.{Stmt}
use Rattle.alpha_text.specs.Reading.{LineStmt, with_operands, with_head, statement_of, is_labelled, labelled}
use Rattle.alpha_text.specs.Reading.{line_after_label, line_of, located, read}
use Rattle.alpha_text.specs.Grammar.{IsStatement, IsLabelled, IsBehindLabel, IsLine, StatementFault, LabelFault}
use Rattle.alpha_text.specs.Grammar.{LineHasFault, IsFirstFault}
use Rattle.alpha_text.proofs.Lines.{is_labelled-is, is_labelled-of}

operands_failed : (head : Head) (behind : List ℕ) (r : Result Slots OperandFault) (f : OperandFault)
    → with_operands head behind r ≡ Err f → r ≡ Err f
operands_failed head behind (Err e) f h = let k : e ≡ f = cc in ap Err k
operands_failed head behind (Ok o) f h = cc

head_failed : (t : Lexeme) (ts : Tokens) (r : Option Head) (f : OperandFault) → with_head t ts r ≡ Err f →
    ((r ≡ None) × (f ≡ fault_at (left_of t) UnknownName))
    ⊎ ((head : Head) × (r ≡ Some head) × (operands (patterns (shape_of head)) ts ≡ Err f))
head_failed t ts None f h = inl (refl, cc)
head_failed t ts (Some head) f h =
    inr (head, refl, operands_failed head t.rest (operands (patterns (shape_of head)) ts) f h)

name_failed : (t : Lexeme) (ts : Tokens) (b : Bool) (e f : OperandFault)
    → cond b (with_head t ts (head_of t.text)) (Err e) ≡ Err f →
    ((b ≡ true) × (with_head t ts (head_of t.text) ≡ Err f)) ⊎ ((b ≡ false) × (f ≡ e))
name_failed t ts true e f h = inl (refl, h)
name_failed t ts false e f h = inr (refl, cc)

-- a name is no unknown register and no unknown operator
name_known : (t : Lexeme) → t.kind ≡ kinds.Name → is_unknown t.kind t.text ≡ true → ⊥
name_known t k u = let e : false ≡ true = sym (ap (λ kind. is_unknown kind t.text) k) ∙ u in cc

operands-has : (head : Head) (ts : Tokens) (f : OperandFault) → operands (patterns (shape_of head)) ts ≡ Err f
    → HasFault (patterns (shape_of head)) [] signs.Plus ts f
unfolding operands
operands-has head ts f h =
    follow-has (patterns (shape_of head)) (shapes-distinct (shape_of head)) [] signs.Plus ts nothing f h

operands-first : (n : ℕ) (head : Head) (ts : Tokens) (f g : OperandFault) → AreInOrder n ts
    → operands (patterns (shape_of head)) ts ≡ Err f → HasFault (patterns (shape_of head)) [] signs.Plus ts g
    → NoLater f g
unfolding operands
operands-first n head ts f g fall h has =
    follow-first n (patterns (shape_of head)) (shapes-distinct (shape_of head)) [] signs.Plus ts nothing f g fall h has

no_name : (t : Lexeme) → same_kind t.kind kinds.Name ≡ false → t.kind ≡ kinds.Name → ⊥
no_name t h k = let e : false ≡ true = sym h ∙ same_kind-same t.kind kinds.Name k in cc

statement-has : (ts : Tokens) (f : OperandFault) → statement_of ts ≡ Err f → StatementFault ts f
statement-has (End left) f h = cc
statement-has (Bad left) f h = cc
statement-has (Next t ts) f h =
    elim (name_failed t ts (same_kind t.kind kinds.Name) (fault_at (left_of t) (stuck_at t)) f h) [
      | inl (b, g) ↦ let name = same_kind-is t.kind kinds.Name b in
          elim (head_failed t ts (head_of t.text) f g) [
            | inl (none, e) ↦ inr (inr (inl (name, none, e)))
            | inr (head, found, k) ↦ inr (inr (inr (name, head, found, operands-has head ts f k)))
          ]
      | inr (b, e) ↦ elim (fault-stuck t (is_unknown t.kind t.text) refl) [
        | inl (u, k) ↦ inl (inl (u, e ∙ ap (fault_at (left_of t)) k))
        | inr k ↦ inr (inl (no_name t b, e ∙ ap (fault_at (left_of t)) k))
      ]
    ]

-- a fault behind the first token
behind_first : (t : Lexeme) (ts : Tokens) (kind : LineFaultKind) (f g : OperandFault) → 0 < length t.text
    → f ≡ fault_at (left_of t) kind → g.left ≤ length t.rest → NoLater f g
behind_first t ts kind f g inside e l =
    NoLater-further_column (left_of t) kind f g e (let m : g.left < left_of t = omega arith in m)

statement-first : (n : ℕ) (ts : Tokens) (f g : OperandFault) → AreInOrder n ts → statement_of ts ≡ Err f
    → StatementFault ts g → NoLater f g
statement-first n (End left) f g fall h has = absurd has
statement-first n (Bad left) f g fall h e =
    let same : f ≡ fault_at left BadToken = cc in NoLater-same_column left BadToken BadToken f g same e (omega arith)
statement-first n (Next t ts) f g (a, inside, c) h has =
    elim (name_failed t ts (same_kind t.kind kinds.Name) (fault_at (left_of t) (stuck_at t)) f h) [
      | inl (b, k) ↦ let name = same_kind-is t.kind kinds.Name b in
          elim (head_failed t ts (head_of t.text) f k) [
            | inl (none, e) ↦ elim has [
              | inl m ↦ elim m [
                | inl (u, x) ↦ absurd (name_known t name u)
                | inr m ↦ behind_first t ts UnknownName f g inside e (among-left (length t.rest) ts g c m)
              ]
              | inr r ↦ elim r [
                | inl (not_name, x) ↦ absurd (not_name name)
                | inr r ↦ elim r [
                  | inl (y, z, x) ↦ NoLater-same_column (left_of t) UnknownName UnknownName f g e x (omega arith)
                  | inr (y, head, found, x) ↦ behind_first t ts UnknownName f g inside e
                      (has-left (length t.rest) (patterns (shape_of head)) [] signs.Plus ts g c x)
                ]
              ]
            ]
            | inr (head, found, e) ↦ elim has [
              | inl m ↦ elim m [
                | inl (u, x) ↦ absurd (name_known t name u)
                | inr m ↦ operands-first (length t.rest) head ts f g c e
                    (among-has (patterns (shape_of head)) [] signs.Plus ts g m)
              ]
              | inr r ↦ elim r [
                | inl (not_name, x) ↦ absurd (not_name name)
                | inr r ↦ elim r [
                  | inl (y, none, x) ↦ let no_head : None ≡ Some head = sym none ∙ found in cc
                  | inr (y, other, also, x) ↦
                      let same_head : Some other ≡ Some head = sym also ∙ found in
                      let one : other ≡ head = cc in
                      operands-first (length t.rest) head ts f g c e (rw (← one) x)
                ]
              ]
            ]
          ]
      | inr (b, e) ↦ elim has [
        | inl m ↦ elim m [
          | inl (u, x) ↦ NoLater-same_column (left_of t) (stuck_at t) UnknownName f g e x (stuck_unknown t u)
          | inr m ↦ behind_first t ts (stuck_at t) f g inside e (among-left (length t.rest) ts g c m)
        ]
        | inr r ↦ elim r [
          | inl (not_name, x) ↦ NoLater-same_column (left_of t) (stuck_at t) BadOperands f g e x (stuck_most t)
          | inr r ↦ elim r [ inl (y, z, x) ↦ absurd (no_name t b y) | inr (y, head, found, x) ↦ absurd (no_name t b y) ]
        ]
      ]
    ]

labelled_failed : (label : Option (List ℕ)) (r : Result Stmt OperandFault) (f : OperandFault) → labelled label r ≡ Err f
    → r ≡ Err f
labelled_failed label (Err e) f h = let k : e ≡ f = cc in ap Err k
labelled_failed label (Ok s) f h = cc

label_failed : (b : Bool) (r : Result LineStmt OperandFault) (e f : OperandFault) → cond b r (Err e) ≡ Err f
    → ((b ≡ true) × (r ≡ Err f)) ⊎ ((b ≡ false) × (f ≡ e))
label_failed true r e f h = inl (refl, h)
label_failed false r e f h = inr (refl, cc)

line_failed : (t : Lexeme) (ts : Tokens) (b : Bool) (f : OperandFault) → is_labelled t ≡ b
    → cond b (line_after_label t) (labelled None (statement_of (Next t ts))) ≡ Err f →
    (IsLabelled (Next t ts) × (line_after_label t ≡ Err f))
    ⊎ ((IsLabelled (Next t ts) → ⊥) × (statement_of (Next t ts) ≡ Err f))
line_failed t ts true f e h = inl (is_labelled-is t ts e, h)
line_failed t ts false f e h = inr (
  λ x. (let yes : false ≡ true = sym e ∙ is_labelled-of t ts x in cc),
  labelled_failed None (statement_of (Next t ts)) f h,
)

pub line-has : (ts : Tokens) (f : OperandFault) → line_of ts ≡ Err f → LineHasFault ts f
line-has (End left) f h = cc
line-has (Bad left) f h = inr (λ x. x, statement-has (Bad left) f (labelled_failed None (statement_of (Bad left)) f h))
line-has (Next t ts) f h =
    elim (line_failed t ts (is_labelled t) f refl h) [
      | inl (x, g) ↦
          elim (label_failed (is_label t.text) (labelled (Some t.text) (statement_of (tokens (drop 1 t.rest))))
          (fault_at (left_of t) BadOperands) f g) [
            | inl (good, k) ↦ inl (
              x,
              inr (statement-has (tokens (drop 1 t.rest)) f
                  (labelled_failed (Some t.text) (statement_of (tokens (drop 1 t.rest))) f k)),
            )
            | inr (bad, e) ↦ inl (x, inl (bad, e))
          ]
      | inr (none, g) ↦ inr (none, statement-has (Next t ts) f g)
    ]

statement-left : (n : ℕ) (ts : Tokens) (g : OperandFault) → AreInOrder n ts → StatementFault ts g → g.left ≤ n
statement-left n (End left) g fall has = absurd has
statement-left n (Bad left) g fall e = rw e fall
statement-left n (Next t ts) g (a, inside, c) has =
    elim has [
      | inl m ↦ among-left n (Next t ts) g (a, inside, c) m
      | inr r ↦ elim r [
        | inl (y, e) ↦ rw e a
        | inr r ↦ elim r [
          | inl (y, z, e) ↦ rw e a
          | inr (y, head, found, x) ↦ let l : g.left ≤ length t.rest =
              has-left (length t.rest) (patterns (shape_of head)) [] signs.Plus ts g c x in
              omega arith
        ]
      ]
    ]

pub line-first : (n : ℕ) (ts : Tokens) (f g : OperandFault) → AreInOrder n ts → line_of ts ≡ Err f → LineHasFault ts g
    → NoLater f g
line-first n (End left) f g fall h has = cc
line-first n (Bad left) f g fall h (inl (x, y)) = absurd x
line-first n (Bad left) f g fall h (inr (x, y)) =
    statement-first n (Bad left) f g fall (labelled_failed None (statement_of (Bad left)) f h) y
line-first n (Next t ts) f g (a, inside, c) h has =
    elim (line_failed t ts (is_labelled t) f refl h) [
      | inl (x, k) ↦
          elim (label_failed (is_label t.text) (labelled (Some t.text) (statement_of (tokens (drop 1 t.rest))))
          (fault_at (left_of t) BadOperands) f k) [
            | inl (good, m) ↦ elim has [
              | inl (y, z) ↦ elim z [
                | inl (bad, e) ↦ let no_label : true ≡ false = sym good ∙ bad in cc
                | inr z ↦
                    statement-first (length (drop 1 t.rest)) (tokens (drop 1 t.rest)) f g (tokens-fall (drop 1 t.rest))
                    (labelled_failed (Some t.text) (statement_of (tokens (drop 1 t.rest))) f m) z
              ]
              | inr (none, z) ↦ absurd (none x)
            ]
            | inr (bad, e) ↦ elim has [
              | inl (y, z) ↦ elim z [
                | inl (w, k2) ↦ NoLater-same_column (left_of t) BadOperands BadOperands f g e k2 (omega arith)
                | inr z ↦ behind_first t ts BadOperands f g inside e
                    (let l : g.left ≤ length (drop 1 t.rest) =
                    statement-left (length (drop 1 t.rest)) (tokens (drop 1 t.rest)) g
                    (tokens-fall (drop 1 t.rest)) z in
                    omega (arith, length-drop 1 t.rest))
              ]
              | inr (none, z) ↦ absurd (none x)
            ]
          ]
      | inr (none, k) ↦ elim has [
        | inl (y, z) ↦ absurd (none y)
        | inr (y, z) ↦ statement-first n (Next t ts) f g (a, inside, c) k z
      ]
    ]

located_failed : (n : ℕ) (r : Result LineStmt OperandFault) (f : LineFault) → located n r ≡ Err f
    → (g : OperandFault) × (r ≡ Err g) × (f ≡ record { kind = g.kind; column = n + 1 - g.left })
located_failed n (Ok l) f h = cc
located_failed n (Err g) f h = (g, refl, cc)

pub read-fault : (line : List ℕ) (f : LineFault) → read line ≡ Err f → IsFirstFault line f
unfolding read
read-fault line f h =
    let (g, e, same) = located_failed (length line) (line_of (tokens line)) f h in (
      g,
      line-has (tokens line) g e,
      λ other k. line-first (length line) (tokens line) g other (tokens-fall line) e k,
      same,
    )

-- what the grammar reads has no fault
statement-clean : (ts : Tokens) (s : Stmt) (g : OperandFault) → IsStatement ts s → StatementFault ts g → ⊥
statement-clean (End left) s g is has = has
statement-clean (Bad left) s g is has = is
statement-clean (Next t ts) s g (name, head, found, o, are, e) has =
    let clean : HasFault (patterns (shape_of head)) [] signs.Plus ts g → ⊥ =
    AreOperands-no_fault (patterns (shape_of head)) (shapes-distinct (shape_of head)) ts o g are in
    elim has [
      | inl m ↦ elim m [
        | inl (u, x) ↦ name_known t name u
        | inr m ↦ clean (among-has (patterns (shape_of head)) [] signs.Plus ts g m)
      ]
      | inr r ↦ elim r [
        | inl (not_name, x) ↦ not_name name
        | inr r ↦ elim r [
          | inl (y, none, x) ↦ let no_head : None ≡ Some head = sym none ∙ found in cc
          | inr (y, other, also, x) ↦
              let same_head : Some other ≡ Some head = sym also ∙ found in
              let one : other ≡ head = cc in
              clean (rw (← one) x)
        ]
      ]
    ]

label-clean : (ts : Tokens) (l : LineStmt) (g : OperandFault) → IsBehindLabel ts l → LabelFault ts g → ⊥
label-clean (End left) l g is has = is
label-clean (Bad left) l g is has = is
label-clean (Next t ts) l g (good, label, is) (inl (bad, e)) = let no_label : true ≡ false = sym good ∙ bad in cc
label-clean (Next t ts) l g (good, label, is) (inr has) = statement-clean (tokens (drop 1 t.rest)) l.statement g is has

pub IsLine-no_fault : (ts : Tokens) (l : LineStmt) (g : OperandFault) → IsLine ts l → LineHasFault ts g → ⊥
IsLine-no_fault ts l g (inl (labelled, is)) (inl (x, has)) = label-clean ts l g is has
IsLine-no_fault ts l g (inl (labelled, is)) (inr (none, has)) = none labelled
IsLine-no_fault ts l g (inr (none, label, is)) (inl (labelled, has)) = none labelled
IsLine-no_fault ts l g (inr (none, label, is)) (inr (x, has)) = statement-clean ts l.statement g is has
