-- What a name and the words behind it say.
use Rattle.std.proofs.Common.{◌≡◌, ◌⊎◌, ℕ, ℤ, pos, List, Option, Some, None, IfSome, Ok, Err, refl, sym, ◌∙◌, ap, subst}
use Rattle.std.proofs.Common.{inl, inr}
use Rattle.std.specs.Prelude.{length, true, false, Result, IfOk, IfErr}
use Rattle.alpha_table.specs.Op.{op_row}
use Rattle.alpha_table.specs.declared.names.Mnemonic.{Mnemonic}
use Rattle.alpha_table.specs.declared.names.Mnemonic.TheVariants as mnemonics
use Rattle.alpha_table.specs.declared.form.Form.{Form}
use Rattle.alpha_table.specs.declared.form.Form.TheVariants.{Mem, Branch, Jump, Operate, Fetch}
use Rattle.alpha_table.specs.declared.form.Src.{Src}
use Rattle.alpha_table.specs.declared.form.Src.TheVariants.{Reg, Lit}
use Rattle.alpha_table.specs.declared.op.Op.{Op}
use Rattle.alpha_table.specs.declared.op.Op.TheVariants.{Bis}
use Rattle.alpha_table.specs.declared.op.OperandRule.{OperandRule}
use Rattle.alpha_table.specs.declared.op.OperandRule.TheVariants as rules
use Rattle.alpha_table.specs.declared.rows.MemOp.{MemOp}
use Rattle.alpha_table.specs.declared.rows.BranchOp.{BranchOp}
use Rattle.alpha_table.specs.declared.rows.BranchOp.TheVariants as branches
use Rattle.alpha_table.specs.declared.rows.JumpKind.{JumpKind}
use Rattle.alpha_table.specs.declared.rows.JumpKind.TheVariants as jumps
use Rattle.alpha_token.specs.Tokens.{tokens}
use Rattle.alpha_operands.specs.declared.names.Half.{Half}
use Rattle.alpha_operands.specs.declared.number.Number.TheVariants as numbers
use Rattle.alpha_operands.specs.declared.number.Sign.{Sign}
use Rattle.alpha_operands.specs.declared.number.Sign.TheVariants as signs
use Rattle.alpha_operands.specs.declared.piece.Piece.TheVariants as pieces
use Rattle.alpha_operands.specs.declared.shape.Shape.TheVariants as shapes
use Rattle.alpha_operands.specs.Ranges.{number_of}
use Rattle.alpha_operands.specs.Shapes.{patterns}
use Rattle.alpha_operands.specs.Operands.{Slots, nothing, filled}
use Rattle.alpha_operands.specs.Walk.{operands}
use Rattle.alpha_text.specs.declared.head.Head.TheVariants as heads
use Rattle.alpha_text.specs.declared.head.PseudoOp.{PseudoOp}
use Rattle.alpha_text.specs.declared.head.PseudoOp.TheVariants as owns
use Rattle.alpha_text.specs.Heads.{branch_shape, operate_shape}
use Rattle.alpha_text.specs.Statements.{Stmt, code, target, half_stmt, operate_form, pseudo_op_stmt, link, move_number}
use Rattle.alpha_text.specs.Statements.{operation_of}
use Rattle.alpha_text.specs.Reading.{list_in}
use Rattle.alpha_text.specs.SuffixWords.{Says, SaysBy}
use Rattle.alpha_quick.specs.declared.forms.InsnPrefix.{InsnPrefix}
use Rattle.alpha_quick.specs.Parts.{StandsFor, IsAlone}
use Rattle.alpha_quick.specs.InsnPrefix.{Reaches, PrefixSays}
use Rattle.alpha_quick.specs.Words.{HasComma, HasNumber, HasEnd, HasSigned, HasFirst, HasPair, HasUnary, HasBinary}
use Rattle.alpha_quick.specs.Words.{HasJump, HasLast, HasLastBase, HasTail, HasTarget, HasAddress, HasDistance}

-- operands, what gives them and what they say
meaning-slots : {P Q : Slots → Type 0} (o : Slots) → P o → Q o → (o : Slots) × P o × Q o
meaning-slots o gives says = (o, gives, says)

-- what is there has what follows from what it has
pub IfSome-implied : {A : Type 0} (P Q : A → Type 0) (r : Option A) → ((x : A) → P x → Q x) → IfSome r P → IfSome r Q
IfSome-implied P Q None f h = h
IfSome-implied P Q (Some x) f h = f x h

pub IfOk-implied : {A E : Type 0} (P Q : A → Type 0) (r : Result A E) → ((x : A) → P x → Q x) → IfOk r P → IfOk r Q
IfOk-implied P Q (Ok x) f h = f x h
IfOk-implied P Q (Err e) f h = h

pub IfErr-implied : {A E : Type 0} (P Q : E → Type 0) (r : Result A E) → ((e : E) → P e → Q e) → IfErr r P → IfErr r Q
IfErr-implied P Q (Ok x) f h = h
IfErr-implied P Q (Err e) f h = f e h

-- what an instruction says its equal says
pub if-insn : (m : Mnemonic) (line : List ℕ) (i : Form) (r : Option Form) → Says m line (code i) → IfSome r (λ j. j ≡ i)
    → IfSome r (λ j. Says m line (code j))
if-insn m line i None h e = e
if-insn m line i (Some j) (o, h, says) e = (o, h, says ∙ ap code (sym e))

-- a lead that is an instruction
pub PrefixSays-insn : (P : Stmt → Type 0) (l : InsnPrefix) (i : Form) → l.insn ≡ i → l.reaches ≡ false → P (code i)
    → PrefixSays P l
PrefixSays-insn P l i e whole h = (λ _. rw e h, λ reaches. absurd cc)

-- one that is to reach a label
pub PrefixSays-reaches : (P : Stmt → Type 0) (l : InsnPrefix) (i : Form) (left : List ℕ) → l.insn ≡ i → l.reaches ≡ true
    → l.left.now ≡ left → ((s : Stmt) → Reaches i left s → P s) → PrefixSays P l
PrefixSays-reaches P l i left e reaches same h = (λ whole. absurd cc, λ _. rw (e, same) h)

pub PrefixSays-weaker : (P Q : Stmt → Type 0) (l : InsnPrefix) → ((s : Stmt) → P s → Q s) → PrefixSays P l
    → PrefixSays Q l
PrefixSays-weaker P Q l f (whole, reaches) = (λ e. f (code l.insn) (whole e), λ e s h. f s (reaches e s h))

-- a lead behind a register and its comma
pub Says-first_register : (m : Mnemonic) (words : List ℕ) (ra : ℕ) (rest : List ℕ) (r : Option InsnPrefix)
    → HasFirst words ra rest
    → IfSome r (λ l. (line : List ℕ) → HasFirst line ra rest → PrefixSays (Says m line) l)
    → IfSome r (PrefixSays (Says m words))
Says-first_register m words ra rest r first h =
    IfSome-implied (λ l. (line : List ℕ) → HasFirst line ra rest → PrefixSays (Says m line) l)
    (PrefixSays (Says m words)) r
    (λ l k. k words first) h

-- the same said of what is the same
pub Says-same : (m : Mnemonic) (line : List ℕ) (s t : Stmt) → s ≡ t → Says m line s → Says m line t
Says-same m line s t e (o, h, says) = (o, h, says ∙ e)

pub says_number : (op : MemOp) (ra rb n : ℕ) (sign : Sign) (disp : ℤ) (line words rest : List ℕ)
    → HasFirst line ra words → HasSigned words sign n rest
    → number_of pieces.Displacement sign n ≡ Some (numbers.Displacement disp) → HasTail rest rb
    → Says (mnemonics.Mem op) line (code (Mem op ra rb disp))
unfolding operands patterns filled
says_number op ra rb n signs.Plus disp line words rest (a, r, c) d is (inl (t, (i, k, o, b, q), e)) =
    meaning-slots
    (record nothing { ra = Some ra; rb = Some rb; number = Some (numbers.Displacement disp); left = length t })
    (rw (r.2, c.2, d.2, o.1, b.2, q.1, e.1, r.1, d.1, is, b.1)) refl
says_number op ra rb n signs.Plus disp line words rest (a, r, c) d is (inr (zero, e)) =
    rw zero
    (meaning-slots (record nothing { ra = Some ra; number = Some (numbers.Displacement disp); left = length rest })
    (rw (r.2, c.2, d.2, e.1, r.1, d.1, is)) refl)
says_number op ra rb n signs.Minus disp line words rest (a, r, c) (y, m, d) is (inl (t, b, e)) =
    meaning-slots
    (record nothing { ra = Some ra; rb = Some rb; number = Some (numbers.Displacement disp); left = length t })
    (rw (r.2, c.2, m.1, d.2, b.2.1, b.3.2, b.4.1, e.1, r.1, d.1, is, b.3.1)) refl
says_number op ra rb n signs.Minus disp line words rest (a, r, c) (y, m, d) is (inr (zero, e)) =
    rw zero
    (meaning-slots (record nothing { ra = Some ra; number = Some (numbers.Displacement disp); left = length rest })
    (rw (r.2, c.2, m.1, d.2, e.1, r.1, d.1, is)) refl)

pub says_address : (op : MemOp) (ra rb : ℕ) (half : Half) (label : List ℕ) (offset : ℤ) (line words rest : List ℕ)
    → HasFirst line ra words → HasAddress words half label offset rest → HasTail rest rb
    → Says (mnemonics.Mem op) line (half_stmt (Some half) (Mem op ra rb (pos 0)) label offset)
unfolding operands patterns filled
says_address op ra rb half label offset line words rest (a, r, c) (x, y, p, inl (g, z), q) (inl (t, b, e)) =
    rw z
    (meaning-slots
    (record nothing { ra = Some ra; rb = Some rb; half = Some half; label = Some label; left = length t })
    (rw (r.2, c.2, p.3, p.4.1, g.1, q.1, b.2.1, b.3.2, b.4.1, e.1, r.1, p.2, g.0, b.3.1)) refl)
says_address op ra rb half label offset line words rest (a, r, c) (x, y, p, inl (g, z), q) (inr (zero, e)) =
    rw (z, zero)
    (meaning-slots (record nothing { ra = Some ra; half = Some half; label = Some label; left = length rest })
    (rw (r.2, c.2, p.3, p.4.1, g.1, q.1, e.1, r.1, p.2, g.0)) refl)
says_address op ra rb h l z _ _ _ (a, r, c) (x, y, p, inr (signs.Plus, u, v, g, m, n), q) (inl (t, b, e)) =
    meaning-slots
    (record nothing { ra = Some ra; rb = Some rb; half = Some h; label = Some l; offset = z; left = length t })
    (rw (r.2, c.2, p.3, p.4.1, g.1, m.1, n.1.2, q.1, b.2.1, b.3.2, b.4.1, e.1, r.1, p.2, g.0, n.1.1, n.2, b.3.1)) refl
says_address op ra rb h l z _ _ _ (a, r, c) (x, y, p, inr (signs.Minus, u, v, g, m, n), q) (inl (t, b, e)) =
    meaning-slots
    (record nothing { ra = Some ra; rb = Some rb; half = Some h; label = Some l; offset = z; left = length t })
    (rw (r.2, c.2, p.3, p.4.1, g.1, m.1, n.1.2, q.1, b.2.1, b.3.2, b.4.1, e.1, r.1, p.2, g.0, n.1.1, n.2, b.3.1)) refl
says_address op ra rb h l z _ _ rest (a, r, c) (x, y, p, inr (signs.Plus, u, v, g, m, n), q) (inr (zero, e)) =
    rw zero
    (meaning-slots (record nothing { ra = Some ra; half = Some h; label = Some l; offset = z; left = length rest })
    (rw (r.2, c.2, p.3, p.4.1, g.1, m.1, n.1.2, q.1, e.1, r.1, p.2, g.0, n.1.1, n.2)) refl)
says_address op ra rb h l z _ _ rest (a, r, c) (x, y, p, inr (signs.Minus, u, v, g, m, n), q) (inr (zero, e)) =
    rw zero
    (meaning-slots (record nothing { ra = Some ra; half = Some h; label = Some l; offset = z; left = length rest })
    (rw (r.2, c.2, p.3, p.4.1, g.1, m.1, n.1.2, q.1, e.1, r.1, p.2, g.0, n.1.1, n.2)) refl)

-- an instruction whose label is named by the words that are left
pub says_half : (op : MemOp) (ra rb : ℕ) (disp : ℤ) (line words : List ℕ) → HasFirst line ra words → (s : Stmt)
    → Reaches (Mem op ra rb disp) words s → Says (mnemonics.Mem op) line s
says_half op ra rb disp line words first s (half, label, offset, rest, base, a, t, e) =
    Says-same (mnemonics.Mem op) line _ s e (says_address op ra base half label offset line words rest first a t)

pub says_base : (op : MemOp) (ra rb : ℕ) (line words : List ℕ) → HasFirst line ra words → HasLastBase words rb
    → Says (mnemonics.Mem op) line (code (Mem op ra rb (pos 0)))
unfolding operands patterns filled
says_base op ra rb line words (a, r, c) (t, (i, k, o, b, q), e) =
    (record nothing { ra = Some ra; rb = Some rb; left = length t }, rw (r.2, c.2, o.1, b.2, q.1, e.1, r.1, b.1), refl)

pub says_distance : (op : BranchOp) (ra : ℕ) (disp : ℤ) (line words : List ℕ) → HasFirst line ra words
    → HasDistance words disp → Says (mnemonics.Branch op) line (code (Branch op ra disp))
unfolding operands patterns filled
says_distance branches.Br ra disp line words (a, r, c) (signs.Plus, u, v, p, m, (n, t, d, e, is)) =
    meaning-slots (record nothing { ra = Some ra; number = Some (numbers.Words disp); left = length t })
    (rw (r.2, c.2, p.1, m.1, d.2, e.1, r.1, d.1, is)) refl
says_distance op ra disp line words (a, r, c) (signs.Plus, u, v, p, m, (n, t, d, e, is)) =
    meaning-slots (record nothing { ra = Some ra; number = Some (numbers.Words disp); left = length t })
    (rw (r.2, c.2, p.1, m.1, d.2, e.1, r.1, d.1, is)) refl
says_distance op ra disp line words (a, r, c) (sign, u, v, p, m, (n, t, d, e, is)) =
    meaning-slots (record nothing { ra = Some ra; number = Some (numbers.Words disp); left = length t })
    (rw (r.2, c.2, p.1, m.1, d.2, e.1, r.1, d.1, is)) refl

pub says_target : (op : BranchOp) (ra : ℕ) (label : List ℕ) (offset : ℤ) (line words : List ℕ) → HasFirst line ra words
    → HasTarget words label offset → Says (mnemonics.Branch op) line (target (Branch op ra (pos 0)) label offset)
unfolding operands patterns filled
says_target branches.Br ra label offset line words (a, r, c) (t, inl (g, z), e) =
    rw z (record nothing { ra = Some ra; label = Some label; left = length t }, rw (r.2, c.2, g.1, e.1, r.1, g.0), refl)
says_target op ra label offset line words (a, r, c) (t, inl (g, z), e) =
    rw z (record nothing { ra = Some ra; label = Some label; left = length t }, rw (r.2, c.2, g.1, e.1, r.1, g.0), refl)
says_target branches.Br ra label offset line words (a, r, c) (t, inr (signs.Plus, u, v, g, m, n), e) =
    meaning-slots (record nothing { ra = Some ra; label = Some label; offset = offset; left = length t })
    (rw (r.2, c.2, g.1, m.1, n.1.2, e.1, r.1, g.0, n.1.1, n.2)) refl
says_target op ra label offset line words (a, r, c) (t, inr (signs.Plus, u, v, g, m, n), e) =
    meaning-slots (record nothing { ra = Some ra; label = Some label; offset = offset; left = length t })
    (rw (r.2, c.2, g.1, m.1, n.1.2, e.1, r.1, g.0, n.1.1, n.2)) refl
says_target op ra label offset line words (a, r, c) (t, inr (sign, u, v, g, m, n), e) =
    meaning-slots (record nothing { ra = Some ra; label = Some label; offset = offset; left = length t })
    (rw (r.2, c.2, g.1, m.1, n.1.2, e.1, r.1, g.0, n.1.1, n.2)) refl

pub says_link : (op : BranchOp) (ra : ℕ) (line words : List ℕ) → HasFirst line ra words → (s : Stmt)
    → Reaches (Branch op ra (pos 0)) words s → Says (mnemonics.Branch op) line s
says_link op ra line words first s (label, offset, t, e) =
    Says-same (mnemonics.Branch op) line _ s e (says_target op ra label offset line words first t)

pub branch_reaches : (i : Form) (op : BranchOp) (ra : ℕ) (disp : ℤ) (left : List ℕ) (s : Stmt) → i ≡ Branch op ra disp
    → ((label : List ℕ) × (offset : ℤ) × HasTarget left label offset × (target i label offset ≡ s)) → Reaches i left s
branch_reaches i op ra disp left s e (label, offset, t, k) =
    rw e (label, offset, t, ap (λ j. target j label offset) (sym e) ∙ k)

-- the branches that may leave their register out
abbrev pub IsCall : BranchOp → Type 0
IsCall op = branch_shape op ≡ shapes.Call

pub is_call : (op : BranchOp) → (op ≡ branches.Br) ⊎ (op ≡ branches.Bsr) → IsCall op
is_call op (inl e) = rw e
is_call op (inr e) = rw e

pub says_bare : (op : BranchOp) (label : List ℕ) (offset : ℤ) (line : List ℕ) → IsCall op → HasTarget line label offset
    → Says (mnemonics.Branch op) line (target (Branch op (link op) (pos 0)) label offset)
unfolding operands patterns filled
says_bare op label offset line call (t, inl (g, z), e) =
    rw (call, z) (record nothing { label = Some label; left = length t }, rw (g.1, e.1, g.0), refl)
says_bare op label offset line call (t, inr (signs.Plus, u, v, g, m, n), e) =
    rw call (meaning-slots (record nothing { label = Some label; offset = offset; left = length t })
    (rw (g.1, m.1, n.1.2, e.1, g.0, n.1.1, n.2)) refl)
says_bare op label offset line call (t, inr (signs.Minus, u, v, g, m, n), e) =
    rw call (meaning-slots (record nothing { label = Some label; offset = offset; left = length t })
    (rw (g.1, m.1, n.1.2, e.1, g.0, n.1.1, n.2)) refl)

pub says_call : (op : BranchOp) (ra : ℕ) (line : List ℕ) → IsCall op → ra ≡ link op → (s : Stmt)
    → Reaches (Branch op ra (pos 0)) line s → Says (mnemonics.Branch op) line s
says_call op ra line call is s (label, offset, t, e) =
    Says-same (mnemonics.Branch op) line _ s (ap (λ r. target (Branch op r (pos 0)) label offset) (sym is) ∙ e)
    (says_bare op label offset line call t)

pub says_jump : (kind : JumpKind) (ra rb hint : ℕ) (line : List ℕ) → HasJump line ra rb hint
    → Says (mnemonics.Jump kind) line (code (Jump kind ra rb hint))
unfolding operands patterns filled
says_jump jumps.Ret ra rb hint line (u, v, (a, r, c), (i, k, o, b, q), inr (zero, e)) =
    rw zero (meaning-slots (record nothing { ra = Some ra; rb = Some rb; left = length v })
    (rw (r.2, c.2, o.1, b.2, q.1, e.1, r.1, b.1)) refl)
says_jump jumps.Ret ra rb hint line (u, v, (a, r, c), (i, k, o, b, q), inl (n, w, t, m, d, is, e)) =
    meaning-slots (record nothing { ra = Some ra; rb = Some rb; number = Some (numbers.Hint hint); left = length t })
    (rw (r.2, c.2, o.1, b.2, q.1, m.2, d.2, e.1, r.1, b.1, d.1, is)) refl
says_jump kind ra rb hint line (u, v, (a, r, c), (i, k, o, b, q), inl (n, w, t, m, d, is, e)) =
    meaning-slots (record nothing { ra = Some ra; rb = Some rb; number = Some (numbers.Hint hint); left = length t })
    (rw (r.2, c.2, o.1, b.2, q.1, m.2, d.2, e.1, r.1, b.1, d.1, is)) refl
says_jump kind ra rb hint line (u, v, (a, r, c), (i, k, o, b, q), inr (zero, e)) =
    rw zero (meaning-slots (record nothing { ra = Some ra; rb = Some rb; left = length v })
    (rw (r.2, c.2, o.1, b.2, q.1, e.1, r.1, b.1)) refl)

pub says_return : (line : List ℕ) → HasEnd line → Says (mnemonics.Jump jumps.Ret) line (code (Jump jumps.Ret 31 26 1))
unfolding operands patterns filled
says_return line e = (nothing, rw e.1, refl)

-- the operands of an operate instruction whose row takes these
abbrev SaysAs : Op → OperandRule → List ℕ → Form → Type 0
SaysAs op rule line i =
    (o : Slots) × (operands (patterns (operate_shape rule)) (tokens line) ≡ Ok o)
    × (code (operate_form rule op o) ≡ code i)

says_rule : (op : Op) (rule : OperandRule) (line : List ℕ) (i : Form) → (op_row op).operands ≡ rule
    → SaysAs op rule line i → Says (mnemonics.Operate op) line (code i)
says_rule op rule line i e h = subst (λ r. SaysAs op r line i) (sym e) h

any_gives : (op : Op) (ra rc : ℕ) (src : Src) (line : List ℕ) → HasBinary line ra src rc
    → SaysAs op rules.Any line (Operate op ra src rc)
unfolding operands patterns filled
any_gives op ra rc (Reg rb) line (u, (a, r, c), (v, (b, s, d), (t, q, e))) =
    meaning-slots (record nothing { ra = Some ra; rb = Some rb; rc = Some rc; left = length t })
    (rw (r.2, c.2, s.2, d.2, q.2, e.1, r.1, s.1, q.1)) refl
any_gives op ra rc (Lit x) line (u, (a, r, c), (v, (n, b, is, s, d), (t, q, e))) =
    meaning-slots (record nothing { ra = Some ra; number = Some (numbers.Literal x); rc = Some rc; left = length t })
    (rw (r.2, c.2, s.2, d.2, q.2, e.1, r.1, s.1, is, q.1)) refl

pub says_any : (op : Op) (ra rc : ℕ) (src : Src) (line : List ℕ) → (op_row op).operands ≡ rules.Any
    → HasBinary line ra src rc → Says (mnemonics.Operate op) line (code (Operate op ra src rc))
says_any op ra rc src line is words =
    says_rule op rules.Any line (Operate op ra src rc) is (any_gives op ra rc src line words)

unary_gives : (op : Op) (rc : ℕ) (src : Src) (line : List ℕ) → HasUnary line src rc
    → SaysAs op rules.Unary line (Operate op 31 src rc)
unfolding operands patterns filled
unary_gives op rc (Reg rb) line (v, (b, s, d), (t, q, e)) =
    (record nothing { rb = Some rb; rc = Some rc; left = length t }, rw (s.2, d.2, q.2, e.1, s.1, q.1), refl)
unary_gives op rc (Lit x) line (v, (n, b, is, s, d), (t, q, e)) =
    meaning-slots (record nothing { number = Some (numbers.Literal x); rc = Some rc; left = length t })
    (rw (s.2, d.2, q.2, e.1, s.1, is, q.1)) refl

pub says_unary : (op : Op) (rc : ℕ) (src : Src) (line : List ℕ) → (op_row op).operands ≡ rules.Unary
    → HasUnary line src rc → Says (mnemonics.Operate op) line (code (Operate op 31 src rc))
says_unary op rc src line is words =
    says_rule op rules.Unary line (Operate op 31 src rc) is (unary_gives op rc src line words)

-- two registers alone
pair_words : (s : List ℕ) (rb rc : ℕ) → HasPair s rb rc
    → (t : List ℕ)
    × (operands (patterns shapes.Pair) (tokens s) ≡ Ok (record nothing { rb = Some rb; rc = Some rc; left = length t }))
unfolding operands patterns filled
pair_words s rb rc (v, (a, r, c), (t, q, e)) = (t, rw (r.2, c.2, q.2, e.1, r.1, q.1))

pub says_pair : (op : Op) (rb rc : ℕ) (line : List ℕ) → (op_row op).operands ≡ rules.UnaryRegister → HasPair line rb rc
    → Says (mnemonics.Operate op) line (code (Operate op 31 (Reg rb) rc))
says_pair op rb rc line is words =
    says_rule op rules.UnaryRegister line (Operate op 31 (Reg rb) rc) is (_, (pair_words line rb rc words).1, refl)

pub says_version : (op : Op) (rc : ℕ) (line : List ℕ) → (op_row op).operands ≡ rules.Version → HasLast line rc
    → Says (mnemonics.Operate op) line (code (Operate op 31 (Lit 1) rc))
unfolding operands patterns filled
says_version op rc line is (t, q, e) =
    says_rule op rules.Version line (Operate op 31 (Lit 1) rc) is
    (record nothing { rc = Some rc; left = length t }, rw (q.2, e.1, q.1), refl)

pub says_prefetch : (modify : _) (rb n : ℕ) (line u : List ℕ) → HasNumber line n u
    → number_of pieces.Nothing signs.Plus n ≡ Some numbers.Nothing → HasLastBase u rb
    → Says (mnemonics.Fetch modify) line (code (Fetch modify rb))
unfolding operands patterns filled
says_prefetch modify rb n line u d is (v, (i, k, o, b, q), e) =
    meaning-slots (record nothing { number = Some numbers.Nothing; rb = Some rb; left = length v })
    (rw (d.2, o.1, b.2, q.1, e.1, d.1, is, b.1)) refl

pub says_alone : (row : Mnemonic) (i : Form) (line : List ℕ) → IsAlone row i → HasEnd line → Says row line (code i)
unfolding operands patterns filled
says_alone (mnemonics.Misc op) i line is e = (nothing, rw e.1, ap code (sym is))
says_alone (mnemonics.Pal call) i line is e = (nothing, rw e.1, ap code (sym is))
says_alone row i line is e = absurd is

pub stands_pair : (pseudo_op : PseudoOp) (op : Op) (rb rc : ℕ) (line : List ℕ) → operation_of pseudo_op ≡ Some op
    → HasPair line rb rc → StandsFor pseudo_op line (Operate op 31 (Reg rb) rc)
unfolding operands patterns filled
stands_pair owns.Mov op rb rc line is (v, (a, r, c), (t, q, e)) =
    (record nothing { rb = Some rb; rc = Some rc; left = length t }, rw (r.2, c.2, q.2, e.1, r.1, q.1), cc)
stands_pair owns.Not op rb rc line is words = (_, (pair_words line rb rc words).1, cc)
stands_pair owns.Negl op rb rc line is words = (_, (pair_words line rb rc words).1, cc)
stands_pair owns.Negq op rb rc line is words = (_, (pair_words line rb rc words).1, cc)
stands_pair owns.NeglV op rb rc line is words = (_, (pair_words line rb rc words).1, cc)
stands_pair owns.NegqV op rb rc line is words = (_, (pair_words line rb rc words).1, cc)
stands_pair owns.Sextl op rb rc line is words = (_, (pair_words line rb rc words).1, cc)
stands_pair pseudo_op op rb rc line is words = cc

pub stands_number : (n rc : ℕ) (sign : Sign) (x : ℤ) (line u v : List ℕ) → HasSigned line sign n u
    → number_of pieces.Immediate sign n ≡ Some (numbers.Immediate x) → HasComma u v → HasLast v rc
    → StandsFor owns.Mov line (move_number x rc)
unfolding operands patterns filled
stands_number n rc signs.Plus x line u v d is c (t, q, e) =
    meaning-slots (record nothing { number = Some (numbers.Immediate x); rc = Some rc; left = length t })
    (rw (d.2, c.2, q.2, e.1, d.1, is, q.1)) refl
stands_number n rc signs.Minus x line u v (y, m, d) is c (t, q, e) =
    meaning-slots (record nothing { number = Some (numbers.Immediate x); rc = Some rc; left = length t })
    (rw (m.1, d.2, c.2, q.2, e.1, d.1, is, q.1)) refl

pub stands_clear : (rc : ℕ) (line : List ℕ) → HasLast line rc → StandsFor owns.Clr line (Operate Bis 31 (Reg 31) rc)
unfolding operands patterns filled
stands_clear rc line (t, q, e) = (record nothing { rc = Some rc; left = length t }, rw (q.2, e.1, q.1), refl)

pub stands_nop : (line : List ℕ) → HasEnd line → StandsFor owns.Nop line (Operate Bis 31 (Reg 31) 31)
unfolding operands patterns filled
stands_nop line e = (nothing, rw e.1, refl)

-- the words stand behind blanks
pub SaysBy-insn : (m : Mnemonic) (after words : List ℕ) (s : Stmt) → tokens after ≡ tokens words → Says m words s
    → SaysBy (heads.Insn m) after s
SaysBy-insn m after words s e (o, h, says) = (o, rw e h, says)

pub SaysBy-pseudo_op : (pseudo_op : PseudoOp) (after words : List ℕ) (i : Form) → tokens after ≡ tokens words
    → StandsFor pseudo_op words i
    → SaysBy (heads.PseudoOp pseudo_op) after (code i)
SaysBy-pseudo_op pseudo_op after words i e (o, h, stands) =
    (o, rw e h, ap (λ f. pseudo_op_stmt f pseudo_op o (list_in after o.left)) stands)
