-- A line that reads with a carriage return behind it reads the same without.
use Rattle.std.proofs.Common.{◌≡◌, ℕ, suc, ◌-◌, ◌≤◌, ◌++◌, List, [], ◌∷◌, length, take, drop, Bool, true, false, cond}
use Rattle.std.proofs.Common.{◌&&◌, eqb, Option, None, Some, Result, Ok, Err, slice_index, refl, sym, ◌∙◌, ap, subst}
use Rattle.std.proofs.Common.{arith, eqb-true, length-append}
use Rattle.std.specs.List.{prefix_len}
use Rattle.std.proofs.lemmas.List.{take-append-le, drop-append-le}
use Rattle.std.proofs.lemmas.List.Sums.{prefix_len-le-length}
use Rattle.alpha_table.specs.declared.names.Mnemonic.{Mnemonic}
use Rattle.alpha_table.specs.declared.names.Mnemonic.TheVariants as mnemonics
use Rattle.alpha_table.specs.declared.op.Op.{Op}
use Rattle.alpha_table.specs.declared.op.OperandRule.{OperandRule}
use Rattle.alpha_table.specs.declared.op.OperandRule.TheVariants.{Any, Unary, UnaryRegister, Version}
use Rattle.alpha_table.specs.declared.rows.MemOp.{MemOp}
use Rattle.alpha_table.specs.declared.rows.BranchOp.{BranchOp}
use Rattle.alpha_table.specs.declared.form.Form.{Form}
use Rattle.alpha_table.specs.Op.{op_row}
use Rattle.alpha_token.specs.declared.token.TokenKind.TheVariants as kinds
use Rattle.alpha_token.specs.Bytes.{is_blank, is_label}
use Rattle.alpha_token.specs.Numeral.{number_value}
use Rattle.alpha_token.specs.Tokens.{Lexeme, Tokens, End, Bad, Next, left_of, tokens}
use Rattle.alpha_token.proofs.CarriageReturns.{with_return, prefix-return, lexeme-with_return, Returned}
use Rattle.alpha_token.proofs.CarriageReturns.{tokens-with_return}
use Rattle.alpha_operands.specs.declared.number.Number.{Number}
use Rattle.alpha_operands.specs.declared.number.Number.TheVariants as numbers
use Rattle.alpha_operands.specs.declared.number.Sign.{Sign}
use Rattle.alpha_operands.specs.declared.number.Sign.TheVariants as signs
use Rattle.alpha_operands.specs.declared.piece.Piece.{Piece}
use Rattle.alpha_operands.specs.declared.piece.Piece.TheVariants.{Ra, Rb, Rc, Comma, Again, Open, Close, Minus, Plus}
use Rattle.alpha_operands.specs.declared.piece.Piece.TheVariants.{Less, Dot, Operator, Label, Offset, Text}
use Rattle.alpha_operands.specs.declared.operands.LineFaultKind.{LineFaultKind}
use Rattle.alpha_operands.specs.declared.operands.LineFaultKind.TheVariants.{UnknownName, BadOperands, OutOfRange}
use Rattle.alpha_operands.specs.declared.walk.OperandFault.{OperandFault}
use Rattle.alpha_operands.specs.Names.{register_of, operator_of}
use Rattle.alpha_operands.specs.Ranges.{number_of, offset_of}
use Rattle.alpha_operands.specs.Pieces.{same_kind}
use Rattle.alpha_operands.specs.Shapes.{Pattern, patterns}
use Rattle.alpha_operands.specs.Operands.{Slots, nothing, between_quotes, with_value, filled}
use Rattle.alpha_operands.specs.Walk.{is_whole, piece_behind, front_after, sign_after, go_on, taken, follow, operands}
use Rattle.alpha_text.specs.declared.head.PseudoOp.{PseudoOp}
use Rattle.alpha_text.specs.declared.head.PseudoOp.TheVariants as owns
use Rattle.alpha_text.specs.declared.head.Head.{Head}
use Rattle.alpha_text.specs.declared.head.Head.TheVariants as heads
use Rattle.alpha_text.specs.Heads.{head_of, shape_of}
use Rattle.alpha_text.specs.Statements.{Stmt, code, memory_stmt, branch_stmt, operate_form, insn_stmt, move_form}
use Rattle.alpha_text.specs.Statements.{pseudo_form, entry_stmt, directive_stmt, pseudo_op_stmt, stmt_by}
use Rattle.alpha_text.specs.Reading.{LineStmt, list_in, with_operands, with_head, statement_from, statement_of}
use Rattle.alpha_text.specs.Reading.{is_labelled}
use Rattle.alpha_text.specs.Reading.{labelled, line_after_label, line_of, located, read}

-- slots that differ in what is left of the line alone

abbrev SameSlots : Slots → Slots → Type 0
SameSlots o p = (let x : Slots = record o { left = 0 } in x) ≡ record p { left = 0 }

record GrownByOne (o p : Slots) : Type 0 where
  same : SameSlots o p
  left : p.left ≡ suc o.left

-- where the second is read, so is the first
abbrev GrownResult : {E : Type 0} → Result Slots E → Result Slots E → Type 0
GrownResult (Ok x) (Ok y) = GrownByOne x y
GrownResult (Ok x) (Err e) = Unit {0}
GrownResult (Err e) (Ok y) = ⊥
GrownResult (Err e) (Err f) = Unit {0}

value_grown : {A : Type 0} (v : Option A) (why : LineFaultKind) (f g : A → Slots) → ((x : A) → GrownByOne (f x) (g x))
    → GrownResult (with_value v why f) (with_value v why g)
value_grown None why f g h = tt
value_grown (Some x) why f g h = h x

choice_grown : (b : Bool) (x y : Slots) (why : LineFaultKind) → GrownByOne x y
    → GrownResult (let r : Result Slots LineFaultKind = cond b (Ok x) (Err why) in r) (cond b (Ok y) (Err why))
choice_grown true x y why g = g
choice_grown false x y why g = tt

abbrev lexeme_with_rest : Lexeme → List ℕ → Lexeme
lexeme_with_rest t rest = record t { rest = rest }

filled_grown : (p : Piece) (t : Lexeme) (r s : List ℕ) (sign : Sign) (o q : Slots) → length s ≡ suc (length r)
    → SameSlots o q → GrownResult (filled p (lexeme_with_rest t r) sign o) (filled p (lexeme_with_rest t s) sign q)
unfolding filled
filled_grown Ra t r s sign o q n e =
    value_grown (register_of t.text) UnknownName _ _
    (λ x. record { same = ap (λ (z : Slots). record z { ra = Some x }) e; left = n })
filled_grown Rb t r s sign o q n e =
    value_grown (register_of t.text) UnknownName _ _
    (λ x. record { same = ap (λ (z : Slots). record z { rb = Some x }) e; left = n })
filled_grown Rc t r s sign o q n e =
    value_grown (register_of t.text) UnknownName _ _
    (λ x. record { same = ap (λ (z : Slots). record z { rc = Some x }) e; left = n })
filled_grown Operator t r s sign o q n e =
    value_grown (operator_of t.text) UnknownName _ _
    (λ x. record { same = ap (λ (z : Slots). record z { half = Some x }) e; left = n })
filled_grown Label t r s sign o q n e =
    choice_grown (is_label t.text) _ _ BadOperands
    (record { same = ap (λ (z : Slots). record z { label = Some t.text }) e; left = n })
filled_grown Offset t r s sign o q n e =
    value_grown (offset_of sign (number_value t.text)) OutOfRange _ _
    (λ x. record { same = ap (λ (z : Slots). record z { offset = x }) e; left = n })
filled_grown Text t r s sign o q n e =
    record { same = ap (λ (z : Slots). record z { text = Some (between_quotes t.text) }) e; left = n }
filled_grown Comma t r s sign o q n e = record { same = e; left = n }
filled_grown Again t r s sign o q n e = record { same = e; left = n }
filled_grown Open t r s sign o q n e = record { same = e; left = n }
filled_grown Close t r s sign o q n e = record { same = e; left = n }
filled_grown Minus t r s sign o q n e = record { same = e; left = n }
filled_grown Plus t r s sign o q n e = record { same = e; left = n }
filled_grown Less t r s sign o q n e = record { same = e; left = n }
filled_grown Dot t r s sign o q n e = record { same = e; left = n }
filled_grown p t r s sign o q n e =
    value_grown (number_of p sign (number_value t.text)) OutOfRange _ _
    (λ x. record { same = ap (λ (z : Slots). record z { number = Some x }) e; left = n })

-- the walk along the patterns

any_err : {E : Type 0} (r : Result Slots E) (e : E) → GrownResult r (Err e)
any_err (Ok x) e = tt
any_err (Err f) e = tt

go_on_grown : (a b : Result Slots LineFaultKind) (m n : ℕ) (f g : Slots → Result Slots OperandFault) → GrownResult a b
    → ((x y : Slots) → GrownByOne x y → GrownResult (f x) (g y)) → GrownResult (go_on m a f) (go_on n b g)
go_on_grown (Ok x) (Ok y) m n f g h k = k x y h
go_on_grown (Ok x) (Err e) m n f g h k = any_err (f x) _
go_on_grown (Err e) (Ok y) m n f g h k = absurd h
go_on_grown (Err e) (Err d) m n f g h k = tt

with_return-length : (a : List ℕ) → length (with_return a) ≡ suc (length a)
with_return-length a = omega (arith, length-append a (13 ∷ []))

abbrev FollowGrown : List Pattern → Tokens → Tokens → Type 0
FollowGrown all us ts =
    (front : Pattern) (sign : Sign) (o q : Slots) → GrownByOne o q
    → GrownResult (follow all front sign us o) (follow all front sign ts q)

taken_grown : (all : List Pattern) (front : Pattern) (sign : Sign)
    (u : Lexeme) (us ts : Tokens) (o q : Slots) (p : Option Piece)
    → SameSlots o q → FollowGrown all us ts
    → GrownResult (taken u sign o p (λ x f. follow all (front_after front x) (sign_after x) us f))
    (taken (lexeme-with_return u) sign q p (λ x f. follow all (front_after front x) (sign_after x) ts f))
taken_grown all front sign u us ts o q None e h = tt
taken_grown all front sign u us ts o q (Some p) e h =
    go_on_grown (filled p u sign o) (filled p (lexeme-with_return u) sign q) (left_of u)
    (left_of (lexeme-with_return u)) _ _
    (filled_grown p u u.rest (with_return u.rest) sign o q (with_return-length u.rest) e)
    (λ x y g. h (front_after front p) (sign_after p) x y g)

next_grown : (all : List Pattern) (front : Pattern) (sign : Sign) (u t : Lexeme) (us ts : Tokens) (o q : Slots)
    → t ≡ lexeme-with_return u → SameSlots o q → FollowGrown all us ts
    → GrownResult (follow all front sign (Next u us) o) (follow all front sign (Next t ts) q)
next_grown all front sign u t us ts o q e s h =
    subst (λ (l : Lexeme). GrownResult (follow all front sign (Next u us) o) (follow all front sign (Next l ts) q))
    (sym e)
    (taken_grown all front sign u us ts o q (piece_behind all front u.kind) s h)

end_grown : (b : Bool) (o q : Slots) (e f : OperandFault) → GrownByOne o q
    → GrownResult (let r : Result Slots OperandFault = cond b (Ok o) (Err e) in r) (cond b (Ok q) (Err f))
end_grown true o q e f g = g
end_grown false o q e f g = tt

follow_grown : (all : List Pattern) (us ts : Tokens) → Returned us ts → FollowGrown all us ts
follow_grown all (End m) (End n) r front sign o q g = end_grown (is_whole all front) o q _ _ g
follow_grown all us (Bad n) r front sign o q g = any_err (follow all front sign us o) _
follow_grown all (End m) (Next t ts) r front sign o q g = absurd r
follow_grown all (Bad m) (End n) r front sign o q g = absurd r
follow_grown all (Bad m) (Next t ts) r front sign o q g = absurd r
follow_grown all (Next u us) (End n) r front sign o q g = absurd r
follow_grown all (Next u us) (Next t ts) (e, r) front sign o q g =
    next_grown all front sign u t us ts o q e g.same (follow_grown all us ts r)

-- what the slots say, whatever is left

free_memory : (op : MemOp) (o : Slots) (label : Option (List ℕ))
    → memory_stmt op o label ≡ memory_stmt op (record o { left = 0 }) label
free_memory op o None = refl
free_memory op o (Some label) = refl

free_branch : (op : BranchOp) (o : Slots) (label : Option (List ℕ))
    → branch_stmt op o label ≡ branch_stmt op (record o { left = 0 }) label
free_branch op o None = refl
free_branch op o (Some label) = refl

free_operate : (rule : OperandRule) (op : Op) (o : Slots)
    → operate_form rule op o ≡ operate_form rule op (record o { left = 0 })
free_operate Any op o = refl
free_operate Unary op o = refl
free_operate UnaryRegister op o = refl
free_operate Version op o = refl

free_insn : (m : Mnemonic) (o : Slots) → insn_stmt m o ≡ insn_stmt m (record o { left = 0 })
free_insn (mnemonics.Mem op) o = free_memory op o o.label
free_insn (mnemonics.Branch op) o = free_branch op o o.label
free_insn (mnemonics.Jump kind) o = refl
free_insn (mnemonics.Operate op) o = ap code (free_operate (op_row op).operands op o)
free_insn (mnemonics.Misc op) o = refl
free_insn (mnemonics.Fetch modify) o = refl
free_insn (mnemonics.Pal call) o = refl

free_move : (o : Slots) (n : Option Number) → move_form o n ≡ move_form (record o { left = 0 }) n
free_move o None = refl
free_move o (Some (numbers.Immediate n)) = refl
free_move o (Some _) = refl

free_pseudo : (pseudo_op : PseudoOp) (o : Slots)
    → pseudo_form pseudo_op o ≡ pseudo_form pseudo_op (record o { left = 0 })
free_pseudo owns.Mov o = ap (λ f. Some f) (free_move o o.number)
free_pseudo _ o = refl

free_entry : (o : Slots) (label : Option (List ℕ)) → entry_stmt o label ≡ entry_stmt (record o { left = 0 }) label
free_entry o None = refl
free_entry o (Some label) = refl

free_directive : (pseudo_op : PseudoOp) (o : Slots) (list : List ℕ)
    → directive_stmt pseudo_op o list ≡ directive_stmt pseudo_op (record o { left = 0 }) list
free_directive owns.Entry o list = free_entry o o.label
free_directive _ o list = refl

free_own : (f : Option Form) (pseudo_op : PseudoOp) (o : Slots) (list : List ℕ)
    → pseudo_op_stmt f pseudo_op o list ≡ pseudo_op_stmt f pseudo_op (record o { left = 0 }) list
free_own None pseudo_op o list = free_directive pseudo_op o list
free_own (Some f) pseudo_op o list = refl

stmt_by-any_left : (head : Head) (o : Slots) (list : List ℕ)
    → stmt_by head o list ≡ stmt_by head (record o { left = 0 }) list
stmt_by-any_left (heads.Insn m) o list = free_insn m o
stmt_by-any_left (heads.PseudoOp own) o list =
    ap (λ f. pseudo_op_stmt f own o list) (free_pseudo own o)
    ∙ free_own (pseudo_form own (record o { left = 0 })) own o list

stmt_by-grown : (head : Head) (o q : Slots) (list : List ℕ) → SameSlots o q → stmt_by head q list ≡ stmt_by head o list
stmt_by-grown head o q list e =
    stmt_by-any_left head q list
    ∙ (ap (λ (z : Slots). stmt_by head z list) (sym e) ∙ sym (stmt_by-any_left head o list))

list_grown : (behind : List ℕ) (m n : ℕ) → n ≡ suc m → list_in (with_return behind) n ≡ list_in behind m
list_grown behind m n e =
    let k : ℕ = prefix_len is_blank behind in
    let l : k ≤ length behind = prefix_len-le-length is_blank behind in
    let d : drop (prefix_len is_blank (with_return behind)) (with_return behind) ≡ drop k behind ++ 13 ∷ [] =
    ap (λ (i : ℕ). drop i (with_return behind)) (prefix-return is_blank behind refl)
    ∙ drop-append-le k behind (13 ∷ []) l in
    let c : length (drop k behind ++ 13 ∷ []) - n ≡ length (drop k behind) - m =
    omega (arith, length-append (drop k behind) (13 ∷ [])) in
    ap (λ (s : List ℕ). take (length s - n) s) d
    ∙ (ap (λ (i : ℕ). take i (drop k behind ++ 13 ∷ [])) c
    ∙ take-append-le (length (drop k behind) - m) (drop k behind) (13 ∷ []) (omega arith))

-- a statement without operands has no list

no_list : (pseudo_op : PseudoOp) (a b : List ℕ) → is_whole (patterns (shape_of (heads.PseudoOp pseudo_op))) [] ≡ true
    → directive_stmt pseudo_op nothing a ≡ directive_stmt pseudo_op nothing b
unfolding patterns
no_list owns.Byte a b h = cc
no_list owns.Word a b h = cc
no_list owns.Long a b h = cc
no_list owns.Quad a b h = cc
no_list _ a b h = refl

no_list_own : (f : Option Form) (pseudo_op : PseudoOp) (a b : List ℕ)
    → is_whole (patterns (shape_of (heads.PseudoOp pseudo_op))) [] ≡ true
    → pseudo_op_stmt f pseudo_op nothing a ≡ pseudo_op_stmt f pseudo_op nothing b
no_list_own None pseudo_op a b h = no_list pseudo_op a b h
no_list_own (Some f) pseudo_op a b h = refl

stmt_by-no_list : (head : Head) (a b : List ℕ) → is_whole (patterns (shape_of head)) [] ≡ true
    → stmt_by head nothing a ≡ stmt_by head nothing b
stmt_by-no_list (heads.Insn m) a b h = refl
stmt_by-no_list (heads.PseudoOp own) a b h = no_list_own (pseudo_form own nothing) own a b h

-- what is read behind a name

with_grown : (head : Head) (behind : List ℕ) (a b : Result Slots OperandFault) (s : Stmt) → GrownResult a b
    → with_operands head (with_return behind) b ≡ Ok s → with_operands head behind a ≡ Ok s
with_grown head behind (Ok x) (Ok y) s g e =
    sym (ap (λ t. Ok t) (stmt_by-grown head x y (list_in (with_return behind) y.left) g.same
    ∙ ap (stmt_by head x) (list_grown behind x.left y.left g.left)))
    ∙ e
with_grown head behind (Ok x) (Err f) s g e = cc
with_grown head behind (Err f) (Ok y) s g e = absurd g
with_grown head behind (Err f) (Err d) s g e = cc

with_none : (head : Head) (behind : List ℕ) (b : Bool) (d f : OperandFault) (s : Stmt)
    → is_whole (patterns (shape_of head)) [] ≡ b
    → with_operands head (with_return behind) (cond b (Ok nothing) (Err d)) ≡ Ok s
    → with_operands head behind (cond b (Ok nothing) (Err f)) ≡ Ok s
with_none head behind true d f s h e =
    sym (ap (λ t. Ok t) (stmt_by-no_list head (list_in (with_return behind) 0) (list_in behind 0) h)) ∙ e
with_none head behind false d f s h e = cc

operands_returned : (head : Head) (behind : List ℕ) (us ts : Tokens) (s : Stmt) → Returned us ts
    → with_operands head (with_return behind) (operands (patterns (shape_of head)) ts) ≡ Ok s
    → with_operands head behind (operands (patterns (shape_of head)) us) ≡ Ok s
unfolding operands
operands_returned head behind (End m) (End n) s r e =
    with_none head behind (is_whole (patterns (shape_of head)) []) _ _ s refl e
operands_returned head behind us (Bad n) s r e = cc
operands_returned head behind (End m) (Next t ts) s r e = absurd r
operands_returned head behind (Bad m) (End n) s r e = absurd r
operands_returned head behind (Bad m) (Next t ts) s r e = absurd r
operands_returned head behind (Next u us) (End n) s r e = absurd r
operands_returned head behind (Next u us) (Next t ts) s (f, r) e =
    with_grown head behind (follow (patterns (shape_of head)) [] signs.Plus (Next u us) nothing)
    (follow (patterns (shape_of head)) [] signs.Plus (Next t ts) nothing) s
    (next_grown (patterns (shape_of head)) [] signs.Plus u t us ts nothing nothing f refl
    (follow_grown (patterns (shape_of head)) us ts r)) e

head_returned : (u : Lexeme) (us ts : Tokens) (head : Option Head) (s : Stmt) → Returned us ts
    → with_head (lexeme-with_return u) ts head ≡ Ok s → with_head u us head ≡ Ok s
head_returned u us ts None s r e = cc
head_returned u us ts (Some head) s r e = operands_returned head u.rest us ts s r e

named_step : (b : Bool) (u : Lexeme) (us ts : Tokens) (d f : OperandFault) (s : Stmt) → Returned us ts
    → cond b (with_head (lexeme-with_return u) ts (head_of u.text)) (Err d) ≡ Ok s
    → cond b (with_head u us (head_of u.text)) (Err f) ≡ Ok s
named_step true u us ts d f s r e = head_returned u us ts (head_of u.text) s r e
named_step false u us ts d f s r e = cc

statement_returned : (us ts : Tokens) (s : Stmt) → Returned us ts → statement_of ts ≡ Ok s → statement_of us ≡ Ok s
statement_returned (End m) (End n) s r e = e
statement_returned us (Bad n) s r e = cc
statement_returned (End m) (Next t ts) s r e = absurd r
statement_returned (Bad m) (End n) s r e = absurd r
statement_returned (Bad m) (Next t ts) s r e = absurd r
statement_returned (Next u us) (End n) s r e = absurd r
statement_returned (Next u us) (Next t ts) s (f, r) e =
    let g : statement_from (lexeme-with_return u) ts ≡ Ok s = subst (λ (l : Lexeme). statement_from l ts ≡ Ok s) f e in
    named_step (same_kind u.kind kinds.Name) u us ts _ _ s r g

-- what a line says

labelled_same : (label : Option (List ℕ)) (a b : Result Stmt OperandFault) (l : LineStmt)
    → ((s : Stmt) → b ≡ Ok s → a ≡ Ok s) → labelled label b ≡ Ok l → labelled label a ≡ Ok l
labelled_same label a (Ok s) l h e = ap (labelled label) (h s refl) ∙ e
labelled_same label a (Err f) l h e = cc

colon_step : (rest : List ℕ) → eqb (slice_index (with_return rest) 0) 58 ≡ eqb (slice_index rest 0) 58
colon_step [] = refl
colon_step (b ∷ rest) = refl

labelled-with_return : (u : Lexeme) → is_labelled (lexeme-with_return u) ≡ is_labelled u
labelled-with_return u = ap (λ b. same_kind u.kind kinds.Name && b) (colon_step u.rest)

behind_step : (b : Bool) (u : Lexeme) (d f : OperandFault) (l : LineStmt) → (rest : List ℕ) → u.rest ≡ 58 ∷ rest
    → cond b (labelled (Some u.text) (statement_of (tokens (drop 1 (with_return u.rest))))) (Err d) ≡ Ok l
    → cond b (labelled (Some u.text) (statement_of (tokens (drop 1 u.rest)))) (Err f) ≡ Ok l
behind_step true u d f l rest e h =
    let g : labelled (Some u.text) (statement_of (tokens (with_return rest))) ≡ Ok l =
    ap (λ (r : List ℕ). labelled (Some u.text) (statement_of (tokens (drop 1 (with_return r))))) (sym e) ∙ h in
    ap (λ (r : List ℕ). labelled (Some u.text) (statement_of (tokens (drop 1 r)))) e
    ∙ labelled_same (Some u.text) (statement_of (tokens rest)) (statement_of (tokens (with_return rest))) l
    (λ s k. statement_returned (tokens rest) (tokens (with_return rest)) s (tokens-with_return rest) k) g
behind_step false u d f l rest e h = cc

colon_first : (rest : List ℕ) → eqb (slice_index rest 0) 58 ≡ true → (more : List ℕ) × (rest ≡ 58 ∷ more)
colon_first [] h = cc
colon_first (b ∷ rest) h = (rest, ap (λ c. c ∷ rest) (eqb-true b 58 h))

and-second : (a b : Bool) → (a && b) ≡ true → b ≡ true
and-second true b h = h
and-second false b h = cc

line_step : (b : Bool) (u : Lexeme) (us ts : Tokens) (l : LineStmt) → is_labelled u ≡ b → Returned us ts
    → cond b (line_after_label (lexeme-with_return u)) (labelled None (statement_of (Next (lexeme-with_return u) ts)))
    ≡ Ok l
    → cond b (line_after_label u) (labelled None (statement_of (Next u us))) ≡ Ok l
line_step true u us ts l e r h =
    let (rest, f) = colon_first u.rest (and-second (same_kind u.kind kinds.Name) _ e) in
    behind_step (is_label u.text) u _ _ l rest f h
line_step false u us ts l e r h =
    labelled_same None (statement_of (Next u us)) (statement_of (Next (lexeme-with_return u) ts)) l
    (λ s k. statement_returned (Next u us) (Next (lexeme-with_return u) ts) s (refl, r) k) h

line_returned : (us ts : Tokens) (l : LineStmt) → Returned us ts → line_of ts ≡ Ok l → line_of us ≡ Ok l
line_returned (End m) (End n) l r e = e
line_returned us (Bad n) l r e = cc
line_returned (End m) (Next t ts) l r e = absurd r
line_returned (Bad m) (End n) l r e = absurd r
line_returned (Bad m) (Next t ts) l r e = absurd r
line_returned (Next u us) (End n) l r e = absurd r
line_returned (Next u us) (Next t ts) l (f, r) e =
    let g : line_of (Next (lexeme-with_return u) ts) ≡ Ok l = subst (λ (x : Lexeme). line_of (Next x ts) ≡ Ok l) f e in
    line_step (is_labelled u) u us ts l refl r
    (ap (λ b.
    cond b (line_after_label (lexeme-with_return u)) (labelled None (statement_of (Next (lexeme-with_return u) ts))))
    (sym (labelled-with_return u))
    ∙ g)

located_ok : (n : ℕ) (r : Result LineStmt OperandFault) (l : LineStmt) → located n r ≡ Ok l → r ≡ Ok l
located_ok n (Ok i) l e = cc
located_ok n (Err f) l e = cc

pub read-with_return : (line : List ℕ) (l : LineStmt) → read (line ++ 13 ∷ []) ≡ Ok l → read line ≡ Ok l
unfolding read
read-with_return line l e =
    let f = located_ok (length (with_return line)) (line_of (tokens (with_return line))) l e in
    ap (located (length line)) (line_returned (tokens line) (tokens (with_return line)) l (tokens-with_return line) f)
