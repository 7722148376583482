-- The instruction that a line says is one of the table.
use Rattle.std.proofs.Common.{◌≡◌, ℕ, ℤ, pos, negsuc, ◌<◌, ◌≤◌, ◌^◌, List, [], ◌∷◌, Bool, true, cond, nat_lt, nat_le}
use Rattle.std.proofs.Common.{Option, None, Some, Ok, IfSome, find, refl, inl, inr, arith}
use Rattle.std.specs.Prelude.{⊤}
use Rattle.std.specs.List.{AllByRecursion}
use Rattle.std.specs.Str.{bytes_eq}
use Rattle.std.specs.Option.{option_map, option_or, option_and_then, unwrap_or}
use Rattle.std.proofs.lemmas.Bool.Decides.{nat_tests}
use Rattle.std.proofs.lemmas.Int.{ints}
use Rattle.alpha_table.specs.declared.names.Mnemonic.{Mnemonic}
use Rattle.alpha_table.specs.declared.names.Mnemonic.TheVariants as mnemonics
use Rattle.alpha_table.specs.declared.form.Form.{Form}
use Rattle.alpha_table.specs.declared.form.Form.TheVariants.{Mem}
use Rattle.alpha_table.specs.declared.op.Op.{Op}
use Rattle.alpha_table.specs.declared.op.OperandRule.{OperandRule}
use Rattle.alpha_table.specs.declared.op.OperandRule.TheVariants.{Any, Unary, UnaryRegister, Version}
use Rattle.alpha_table.specs.declared.rows.MemOp.{MemOp}
use Rattle.alpha_table.specs.declared.rows.BranchOp.{BranchOp}
use Rattle.alpha_table.specs.declared.rows.BranchOp.TheVariants.{Bsr}
use Rattle.alpha_table.specs.declared.rows.JumpKind.{JumpKind}
use Rattle.alpha_table.specs.Op.{op_row}
use Rattle.alpha_table.specs.Row.{IsInsn, IsSigned, IsSource}
use Rattle.alpha_table.specs.Decoded.{decoded}
use Rattle.alpha_words.specs.declared.PalCall.{PalCall}
use Rattle.alpha_token.specs.Bytes.{is_label}
use Rattle.alpha_token.specs.Numeral.{number_value}
use Rattle.alpha_token.specs.Tokens.{Lexeme, Tokens, End, Bad, Next, left_of, tokens}
use Rattle.alpha_token.proofs.ConditionalChoices.{cond-either}
use Rattle.alpha_operands.specs.declared.names.Half.{Half}
use Rattle.alpha_operands.specs.declared.names.Half.TheVariants as halves
use Rattle.alpha_operands.specs.declared.piece.Piece.{Piece}
use Rattle.alpha_operands.specs.declared.piece.Piece.TheVariants as pieces
use Rattle.alpha_operands.specs.declared.number.Sign.{Sign}
use Rattle.alpha_operands.specs.declared.number.Sign.TheVariants as signs
use Rattle.alpha_operands.specs.declared.number.Number.{Number}
use Rattle.alpha_operands.specs.declared.number.Number.TheVariants as numbers
use Rattle.alpha_operands.specs.declared.operands.LineFaultKind.TheVariants.{UnknownName, OutOfRange}
use Rattle.alpha_operands.specs.Names.{register_of, operator_of, registers, named, numbered}
use Rattle.alpha_operands.specs.Ranges.{signed, in_range, call_of, number_of, offset_of, IsNumber}
use Rattle.alpha_operands.specs.Shapes.{Pattern, patterns}
use Rattle.alpha_operands.specs.Operands.{Slots, nothing, filled}
use Rattle.alpha_operands.specs.Walk.{is_whole, piece_behind, front_after, sign_after, follow}
use Rattle.alpha_operands.specs.Grammar.{AreOperands}
use Rattle.alpha_operands.proofs.PatternsApart.{shapes-distinct}
use Rattle.alpha_operands.proofs.SlotChanges.{a_value, cond-ok, ok-injective}
use Rattle.alpha_operands.proofs.Grammar.{cond-ok_or_fault, grammar-took, grammar-went, spells-follow}
use Rattle.alpha_operands.proofs.OperandRanges.{if_in-inside, follow-within}
use Rattle.alpha_text.specs.Heads.{every_pseudo_op, pseudo_op_name, mnemonic_at, pseudo_op_at, head_of, shape_of}
use Rattle.alpha_text.specs.Statements.{Stmt, reg, displacement_in, words_in, hint_in, jump_hint, source_in, link}
use Rattle.alpha_text.specs.Statements.{half_stmt, memory_stmt, branch_stmt, jump_form, operate_form, insn_stmt}
use Rattle.alpha_text.specs.Statements.{move_number, move_form, entry_stmt, pseudo_form, pseudo_op_stmt, stmt_by}
use Rattle.alpha_text.specs.Statements as says
use Rattle.alpha_text.specs.Reading.{LineStmt, read}
use Rattle.alpha_text.specs.Grammar.{IsStatement, IsLine, IsBehindLabel}
use Rattle.alpha_text.proofs.Lines.{read-is}

-- ---- the operands

-- the numbers whose type alone bounds them
abbrev IsField : Number → Type 0
IsField (numbers.Displacement n) = IsSigned 15 n
IsField (numbers.Immediate n) = IsSigned 15 n
IsField (numbers.Literal n) = n < 256
IsField _ = ⊤

small_sign : (sign : Sign) (n : ℕ) → in_range 32767 32768 sign n ≡ true → IsSigned 15 (signed sign n)
small_sign signs.Plus n h = let l : n ≤ 32767 = grind (arith, nat_tests) in (omega (arith, ints), omega (arith, ints))
small_sign signs.Minus n h = let l : n ≤ 32768 = grind (arith, nat_tests) in (omega (arith, ints), omega (arith, ints))

call_field : (n : ℕ) (x : Number)
    → cond (nat_lt n (2 ^ 26)) (option_map numbers.Call (call_of (decoded n))) None ≡ Some x → IsField x
call_field n x =
    cond-either (λ o. o ≡ Some x → IsField x) (nat_lt n (2 ^ 26)) (option_map numbers.Call (call_of (decoded n))) None
    (λ e. call (call_of (decoded n))) (λ e h. cc)
  where
    call : (c : Option PalCall) → option_map numbers.Call c ≡ Some x → IsField x
    call None h = cc
    call (Some c) h = let k : numbers.Call c ≡ x = cc in rw (← k) tt

number_field : (p : Piece) (sign : Sign) (n : ℕ) (x : Number) → number_of p sign n ≡ Some x → IsField x
unfolding number_of
number_field pieces.Displacement sign n x h =
    let (b, e) = if_in-inside (in_range 32767 32768 sign n) _ x h in
    rw (← e) (small_sign sign n b)
number_field pieces.Immediate sign n x h =
    let (b, e) = if_in-inside (in_range 32767 32768 sign n) _ x h in
    rw (← e) (small_sign sign n b)
number_field pieces.Literal sign n x h =
    let (b, e) = if_in-inside (nat_le n 255) _ x h in
    rw (← e) (let l : n < 256 = grind (arith, nat_tests) in l)
number_field pieces.Hint sign n x h = let (b, e) = if_in-inside _ _ x h in rw (← e) tt
number_field pieces.Distance sign n x h = let (b, e) = if_in-inside _ _ x h in rw (← e) tt
number_field pieces.Whole sign n x h = let (b, e) = if_in-inside _ _ x h in rw (← e) tt
number_field pieces.Zeroed sign n x h = let (b, e) = if_in-inside _ _ x h in rw (← e) tt
number_field pieces.Align sign n x h = let (b, e) = if_in-inside _ _ x h in rw (← e) tt
number_field pieces.Level sign n x h = let (b, e) = if_in-inside _ _ x h in rw (← e) tt
number_field pieces.Pal sign n x h = call_field n x h
number_field pieces.Nothing sign n x h = let (b, e) = if_in-inside _ _ x h in rw (← e) tt
number_field pieces.Byte sign n x h = let (b, e) = if_in-inside _ _ x h in rw (← e) tt
number_field pieces.Word sign n x h = let (b, e) = if_in-inside _ _ x h in rw (← e) tt
number_field pieces.Long sign n x h = let (b, e) = if_in-inside _ _ x h in rw (← e) tt
number_field pieces.Quad sign n x h = let (b, e) = if_in-inside _ _ x h in rw (← e) tt
number_field p sign n x h = cc

-- registers and numbers that fit the fields of instructions
record Fits (o : Slots) : Type 0 where
  ra : IfSome o.ra (λ r. r < 32)
  rb : IfSome o.rb (λ r. r < 32)
  rc : IfSome o.rc (λ r. r < 32)
  field : IfSome o.number IsField

register_small : (name : List ℕ) (r : ℕ) → register_of name ≡ Some r → r < 32
unfolding register_of
register_small name r = by (named registers name)
  where
    by : (o : Option ℕ) → option_and_then numbered o ≡ Some r → r < 32
    by None h = cc
    by (Some n) h =
        cond-either (λ x. x ≡ Some r → r < 32) (nat_lt n 32) (Some n) None
        (λ e g. let same : n ≡ r = cc in grind (arith, nat_tests)) (λ e g. cc) h

filled-fits : (p : Piece) (t : Lexeme) (sign : Sign) (o r : Slots) → Fits o → filled p t sign o ≡ Ok r → Fits r
unfolding filled
filled-fits pieces.Ra t sign o r f h =
    let (v, e, k) = a_value (register_of t.text) UnknownName _ r h in
    rw (← k) (record { ra = register_small t.text v e; rb = f.rb; rc = f.rc; field = f.field })
filled-fits pieces.Rb t sign o r f h =
    let (v, e, k) = a_value (register_of t.text) UnknownName _ r h in
    rw (← k) (record { ra = f.ra; rb = register_small t.text v e; rc = f.rc; field = f.field })
filled-fits pieces.Rc t sign o r f h =
    let (v, e, k) = a_value (register_of t.text) UnknownName _ r h in
    rw (← k) (record { ra = f.ra; rb = f.rb; rc = register_small t.text v e; field = f.field })
filled-fits pieces.Operator t sign o r f h =
    let (v, e, k) = a_value (operator_of t.text) UnknownName _ r h in
    rw (← k) (record { ra = f.ra; rb = f.rb; rc = f.rc; field = f.field })
filled-fits pieces.Label t sign o r f h =
    let (b, k) = cond-ok (is_label t.text) _ r h in
    rw (← k) (record { ra = f.ra; rb = f.rb; rc = f.rc; field = f.field })
filled-fits pieces.Offset t sign o r f h =
    let (v, e, k) = a_value (offset_of sign (number_value t.text)) OutOfRange _ r h in
    rw (← k) (record { ra = f.ra; rb = f.rb; rc = f.rc; field = f.field })
filled-fits pieces.Text t sign o r f h =
    rw (← ok-injective _ r h) (record { ra = f.ra; rb = f.rb; rc = f.rc; field = f.field })
filled-fits pieces.Comma t sign o r f h =
    rw (← ok-injective _ r h) (record { ra = f.ra; rb = f.rb; rc = f.rc; field = f.field })
filled-fits pieces.Again t sign o r f h =
    rw (← ok-injective _ r h) (record { ra = f.ra; rb = f.rb; rc = f.rc; field = f.field })
filled-fits pieces.Open t sign o r f h =
    rw (← ok-injective _ r h) (record { ra = f.ra; rb = f.rb; rc = f.rc; field = f.field })
filled-fits pieces.Close t sign o r f h =
    rw (← ok-injective _ r h) (record { ra = f.ra; rb = f.rb; rc = f.rc; field = f.field })
filled-fits pieces.Minus t sign o r f h =
    rw (← ok-injective _ r h) (record { ra = f.ra; rb = f.rb; rc = f.rc; field = f.field })
filled-fits pieces.Plus t sign o r f h =
    rw (← ok-injective _ r h) (record { ra = f.ra; rb = f.rb; rc = f.rc; field = f.field })
filled-fits pieces.Less t sign o r f h =
    rw (← ok-injective _ r h) (record { ra = f.ra; rb = f.rb; rc = f.rc; field = f.field })
filled-fits pieces.Dot t sign o r f h =
    rw (← ok-injective _ r h) (record { ra = f.ra; rb = f.rb; rc = f.rc; field = f.field })
filled-fits p t sign o r f h =
    let (v, e, k) = a_value (number_of p sign (number_value t.text)) OutOfRange _ r h in
    rw (← k) (record { ra = f.ra; rb = f.rb; rc = f.rc; field = number_field p sign (number_value t.text) v e })

follow-fits : (all : List Pattern) (front : Pattern) (sign : Sign) (ts : Tokens) (o r : Slots) → Fits o
    → follow all front sign ts o ≡ Ok r → Fits r
follow-fits all front sign (End left) o r f h = rw (← (cond-ok_or_fault (is_whole all front) o r left h).1) f
follow-fits all front sign (Bad left) o r f h = cc
follow-fits all front sign (Next t ts) o r f h =
    let (p, e, g) = grammar-took t sign o (piece_behind all front t.kind)
    (λ p filled. follow all (front_after front p) (sign_after p) ts filled) r h in
    let (next, k, m) = grammar-went (left_of t) (filled p t sign o)
    (λ filled. follow all (front_after front p) (sign_after p) ts filled) r g in
    follow-fits all (front_after front p) (sign_after p) ts next r (filled-fits p t sign o next f k) m

nothing-fits : Fits nothing
nothing-fits = record { ra = tt; rb = tt; rc = tt; field = tt }

-- ---- the instructions

unwrap_or-register : (r : Option ℕ) (other : ℕ) → IfSome r (λ n. n < 32) → other < 32 → unwrap_or r other < 32
unwrap_or-register None other h l = l
unwrap_or-register (Some n) other h l = h

plain_register : (r : Option ℕ) → IfSome r (λ n. n < 32) → reg r < 32
plain_register r h = unwrap_or-register r 31 h (omega arith)

no_displacement : (bits : ℕ) → 0 < 2 ^ bits → IsSigned bits (pos 0)
no_displacement bits h = (omega (arith, ints), omega (arith, ints))

displacement : (n : Option Number) → IfSome n IsField → IsSigned 15 (displacement_in n)
displacement (Some (numbers.Displacement n)) h = h
displacement _ h = (omega (arith, ints), omega (arith, ints))

words_in-IsSigned : (n : Option Number) → IfSome n IsNumber → IsSigned 20 (words_in n)
words_in-IsSigned (Some (numbers.Words n)) h = h
words_in-IsSigned _ h = (omega (arith, ints), omega (arith, ints))

hint_in-bound : (n : Option Number) → IfSome n IsNumber → hint_in n < 2 ^ 14
hint_in-bound (Some (numbers.Hint n)) h = h
hint_in-bound _ h = omega arith

hint_of : (rb : Option ℕ) (n : Option Number) → IfSome n IsNumber → jump_hint rb n < 2 ^ 14
hint_of None n h = omega arith
hint_of (Some r) n h = hint_in-bound n h

source_in-IsSource : (n : Option Number) (rb : Option ℕ) → IfSome n IsField → IfSome rb (λ r. r < 32)
    → IsSource (source_in n rb)
source_in-IsSource (Some (numbers.Literal n)) rb h k = h
source_in-IsSource _ rb h k = plain_register rb k

-- the instruction of a statement is one of the table
abbrev pub SaysInsn : Stmt → Type 0
SaysInsn (says.code i) = IsInsn i
SaysInsn (says.target i label offset) = IsInsn i
SaysInsn (says.high i label offset) = IsInsn i
SaysInsn (says.low i label offset) = IsInsn i
SaysInsn _ = ⊤

half_insn : (half : Option Half) (i : Form) (label : List ℕ) (offset : ℤ) → IsInsn i
    → SaysInsn (half_stmt half i label offset)
half_insn None i label offset h = h
half_insn (Some halves.High) i label offset h = h
half_insn (Some halves.Low) i label offset h = h

memory_insn : (op : MemOp) (o : Slots) (label : Option (List ℕ)) → Fits o → SaysInsn (memory_stmt op o label)
memory_insn op o (Some label) f =
    half_insn o.half (Mem op (reg o.ra) (reg o.rb) (pos 0)) label o.offset
    (plain_register o.ra f.ra, plain_register o.rb f.rb, no_displacement 15 (omega arith))
memory_insn op o None f = (plain_register o.ra f.ra, plain_register o.rb f.rb, displacement o.number f.field)

link_small : (op : BranchOp) → link op < 32
link_small Bsr = omega arith
link_small _ = omega arith

branch_insn : (op : BranchOp) (o : Slots) (label : Option (List ℕ)) → Fits o → IfSome o.number IsNumber
    → SaysInsn (branch_stmt op o label)
branch_insn op o (Some label) f n =
    (unwrap_or-register o.ra (link op) f.ra (link_small op), no_displacement 20 (omega arith))
branch_insn op o None f n = (unwrap_or-register o.ra (link op) f.ra (link_small op), words_in-IsSigned o.number n)

jump_insn : (kind : JumpKind) (o : Slots) → Fits o → IfSome o.number IsNumber → IsInsn (jump_form kind o)
jump_insn kind o f n =
    (plain_register o.ra f.ra, unwrap_or-register o.rb 26 f.rb (omega arith), hint_of o.rb o.number n)

operate_insn : (rule : OperandRule) (op : Op) (o : Slots) → (op_row op).operands ≡ rule → Fits o
    → IsInsn (operate_form rule op o)
operate_insn Any op o e f =
    (plain_register o.ra f.ra, source_in-IsSource o.number o.rb f.field f.rb, plain_register o.rc f.rc, rw e tt)
operate_insn Unary op o e f =
    (omega arith, source_in-IsSource o.number o.rb f.field f.rb, plain_register o.rc f.rc, rw e refl)
operate_insn UnaryRegister op o e f = (omega arith, plain_register o.rb f.rb, plain_register o.rc f.rc, rw e (refl, tt))
operate_insn Version op o e f =
    (omega arith, (let l : 1 < 256 = omega arith in l), plain_register o.rc f.rc, rw e (refl, refl))

named_insn : (m : Mnemonic) (o : Slots) → Fits o → IfSome o.number IsNumber → SaysInsn (insn_stmt m o)
named_insn (mnemonics.Mem op) o f n = memory_insn op o o.label f
named_insn (mnemonics.Branch op) o f n = branch_insn op o o.label f n
named_insn (mnemonics.Jump kind) o f n = jump_insn kind o f n
named_insn (mnemonics.Operate op) o f n = operate_insn (op_row op).operands op o refl f
named_insn (mnemonics.Misc op) o f n = tt
named_insn (mnemonics.Fetch modify) o f n = plain_register o.rb f.rb
named_insn (mnemonics.Pal call) o f n = tt

-- ---- the instructions of other names

move_insn : (n : ℤ) (rc : ℕ) → IsSigned 15 n → rc < 32 → IsInsn (move_number n rc)
move_insn (pos n) rc s l =
    cond-either IsInsn (nat_le n 255) _ _
    (λ e. ((let a : 31 < 32 = omega arith in a), (let b : n < 256 = grind (arith, nat_tests) in b), l, tt))
    (λ e. (l, (let a : 31 < 32 = omega arith in a), s))
move_insn (negsuc n) rc s l = (l, (let a : 31 < 32 = omega arith in a), s)

zero_sources : (o : Slots) → Fits o → (31 < 32) × (reg o.rb < 32) × (reg o.rc < 32) × ⊤
zero_sources o f = (omega arith, plain_register o.rb f.rb, plain_register o.rc f.rc, tt)

moved_insn : (o : Slots) (n : Option Number) → Fits o → IfSome n IsField → IsInsn (move_form o n)
moved_insn o (Some (numbers.Immediate n)) f h = move_insn n (reg o.rc) h (plain_register o.rc f.rc)
moved_insn o _ f h = zero_sources o f

entry_none : (o : Slots) (label : Option (List ℕ)) → SaysInsn (entry_stmt o label)
entry_none o None = tt
entry_none o (Some label) = tt

found_in : {A : Type 0} (xs : List A) (test : A → Bool) (P : A → Type 0) → AllByRecursion P xs → IfSome (find test xs) P
found_in [] test P h = tt
found_in (x ∷ xs) test P (a, h) =
    cond-either (λ o. IfSome o P) (test x) (Some x) (find test xs) (λ e. a) (λ e. found_in xs test P h)

one_or_other : {A B C : Type 0} (z : Option C) (x : Option A) (y : Option B) (f : A → C) (g : B → C)
    → option_or (option_map f x) (option_map g y) ≡ z → (P : C → Type 0) → ((a : A) → P (f a)) → IfSome y (λ b. P (g b))
    → IfSome z P
one_or_other z (Some a) y f g e P h k = rw (← e) (h a)
one_or_other z None (Some b) f g e P h k = rw (← e) k
one_or_other z None None f g e P h k = rw (← e) tt

-- a statement with these operands says an instruction of the table
abbrev AlwaysSaysInsn : (Slots → List ℕ → Stmt) → Type 0
AlwaysSaysInsn say = (o : Slots) (list : List ℕ) → Fits o → IfSome o.number IsNumber → SaysInsn (say o list)

-- each name beside the table, in the order of the list
own_insn : (name : List ℕ)
    → IfSome (pseudo_op_at name) (λ own. AlwaysSaysInsn (λ o list. pseudo_op_stmt (pseudo_form own o) own o list))
unfolding every_pseudo_op
own_insn name =
    found_in every_pseudo_op (λ own. bytes_eq (pseudo_op_name own) name)
    (λ own. AlwaysSaysInsn (λ o list. pseudo_op_stmt (pseudo_form own o) own o list)) (
      skip,
      (
        skip,
        (
          skip,
          (
            skip,
            (
              skip,
              (
                skip,
                (
                  skip,
                  (
                    skip,
                    (
                      skip,
                      (
                        skip,
                        (
                          skip,
                          (
                            skip,
                            (
                              skip,
                              (
                                entry,
                                (
                                  skip,
                                  (
                                    move,
                                    (clear, (idle, (unop, (zero, (zero, (zero, (zero, (zero, (zero, (skip, tt)))))))))),
                                  ),
                                ),
                              ),
                            ),
                          ),
                        ),
                      ),
                    ),
                  ),
                ),
              ),
            ),
          ),
        ),
      ),
    )
  where
    skip : (o : Slots) (list : List ℕ) → Fits o → IfSome o.number IsNumber → ⊤
    skip o list f n = tt

    entry : AlwaysSaysInsn (λ o list. entry_stmt o o.label)
    entry o list f n = entry_none o o.label

    move : AlwaysSaysInsn (λ o list. says.code (move_form o o.number))
    move o list f n = moved_insn o o.number f f.field

    clear : (o : Slots) (list : List ℕ) → Fits o → IfSome o.number IsNumber
        → (31 < 32) × (31 < 32) × (reg o.rc < 32) × ⊤
    clear o list f n = (omega arith, omega arith, plain_register o.rc f.rc, tt)

    idle : (o : Slots) (list : List ℕ) → Fits o → IfSome o.number IsNumber → (31 < 32) × (31 < 32) × (31 < 32) × ⊤
    idle o list f n = (omega arith, omega arith, omega arith, tt)

    unop : (o : Slots) (list : List ℕ) → Fits o → IfSome o.number IsNumber → (31 < 32) × (30 < 32) × IsSigned 15 (pos 0)
    unop o list f n = (omega arith, omega arith, no_displacement 15 (omega arith))

    zero : (o : Slots) (list : List ℕ) → Fits o → IfSome o.number IsNumber
        → (31 < 32) × (reg o.rb < 32) × (reg o.rc < 32) × ⊤
    zero o list f n = zero_sources o f

head_insn : (name : List ℕ) → IfSome (head_of name) (λ head. AlwaysSaysInsn (stmt_by head))
unfolding head_of
head_insn name =
    one_or_other (head_of name) (mnemonic_at name) (pseudo_op_at name) _ _ refl (λ head. AlwaysSaysInsn (stmt_by head))
    (λ m o list f n. named_insn m o f n) (own_insn name)

-- ---- the lines

operands_fit : (all : _) (ts : Tokens) (o : Slots) → AreOperands (patterns all) ts o → Fits o × IfSome o.number IsNumber
operands_fit all ts o (q, c, s) =
    let followed = spells-follow (patterns all) (shapes-distinct all) [] q signs.Plus ts nothing o c s in (
      follow-fits (patterns all) [] signs.Plus ts nothing o nothing-fits followed,
      follow-within (patterns all) [] signs.Plus ts nothing o tt followed,
    )

statement_insn : (ts : Tokens) (s : Stmt) → IsStatement ts s → SaysInsn s
statement_insn (End left) s h = rw h tt
statement_insn (Bad left) s h = absurd h
statement_insn (Next t ts) s (k, head, e, o, a, says) =
    let (f, n) = operands_fit (shape_of head) ts o a in
    let known = rw e at (head_insn t.text) in
    rw says (known o _ f n)

labelled_insn : (ts : Tokens) (l : LineStmt) → IsBehindLabel ts l → SaysInsn l.statement
labelled_insn (End left) l h = absurd h
labelled_insn (Bad left) l h = absurd h
labelled_insn (Next t ts) l (k, e, s) = statement_insn _ l.statement s

line_insn : (ts : Tokens) (l : LineStmt) → IsLine ts l → SaysInsn l.statement
line_insn ts l (inl (k, h)) = labelled_insn ts l h
line_insn ts l (inr (k, e, s)) = statement_insn ts l.statement s

pub read-insn : (line : List ℕ) (l : LineStmt) → read line ≡ Ok l → SaysInsn l.statement
read-insn line l h = line_insn (tokens line) l ((read-is line l).0 h)
