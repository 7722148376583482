-- What stands behind a name is read apart from it.
use Rattle.std.proofs.Common.{◌≡◌, ℕ, ℤ, pos, negsuc, List, [], ◌∷◌, ◌++◌, ◌<◌, ◌^◌, Bool, true, false, not, ◌&&◌, eqb}
use Rattle.std.proofs.Common.{Some, None, Ok, length, get_or, refl, sym, ap, arith}
use Prim.Native.Nat.{zero, suc}
use Rattle.std.specs.List.{list_all}
use Rattle.std.specs.Char.{is_ascii_alphabetic}
use Rattle.std.proofs.lemmas.Int.{ints}
use Rattle.std.proofs.lemmas.Bool.{and_parts}
use Rattle.alpha_table.specs.Names.{name_of, mnemonic_of}
use Rattle.alpha_table.specs.declared.form.Form.{Form}
use Rattle.alpha_table.specs.declared.form.Form.TheVariants.{Mem, Branch, Jump, Operate, Misc, Fetch, Pal}
use Rattle.alpha_table.specs.declared.form.Src.{Src}
use Rattle.alpha_table.specs.declared.form.Src.TheVariants.{Reg, Lit}
use Rattle.alpha_table.specs.Row.{IsSigned, IsSource, IsInsn, OperandsFit}
use Rattle.alpha_table.specs.Op.{op_row}
use Rattle.alpha_table.specs.declared.op.Op.{Op}
use Rattle.alpha_table.specs.declared.op.OperandRule.{OperandRule}
use Rattle.alpha_table.specs.declared.op.OperandRule.TheVariants.{Any, Unary, UnaryRegister, Version}
use Rattle.alpha_table.specs.declared.rows.MemOp.{MemOp}
use Rattle.alpha_table.specs.declared.rows.BranchOp.{BranchOp}
use Rattle.alpha_table.specs.declared.rows.BranchOp.TheVariants as branches
use Rattle.alpha_table.specs.declared.rows.JumpKind.{JumpKind}
use Rattle.alpha_table.specs.declared.rows.JumpKind.TheVariants as jumps
use Rattle.alpha_token.specs.declared.token.TokenKind.TheVariants as kinds
use Rattle.alpha_token.specs.Bytes.{begins_name, goes_on_name}
use Rattle.alpha_token.specs.Tokens.{Next, tokens}
use Rattle.alpha_operands.specs.Shapes.{patterns}
use Rattle.alpha_operands.specs.Operands.{Slots, nothing}
use Rattle.alpha_operands.specs.Walk.{operands}
use Rattle.alpha_text.specs.Statements.{Stmt, code, branch_stmt, operate_form}
use Rattle.alpha_text.specs.Canon.{Word, reg, words_of, behind_name, source_words}
use Rattle.alpha_text.specs.Reading.{statement_of, line_of}
use Rattle.alpha_text.specs.declared.head.Head.{Head}
use Rattle.alpha_text.specs.declared.head.Head.TheVariants as heads
use Rattle.alpha_text.specs.declared.head.PseudoOp.{PseudoOp}
use Rattle.alpha_text.specs.declared.head.PseudoOp.TheVariants as owns
use Rattle.alpha_text.specs.Heads.{branch_shape, operate_shape, head_of, head_name, pseudo_op_name}
use Rattle.alpha_text.specs.SuffixWords.{BeginsWithout, Says, SaysBy, IsApart}
use Rattle.alpha_text.proofs.NameLookups.{head_of-insn, head_of-pseudo_op_name, name_of-word}
use Rattle.alpha_text.proofs.FormatOperands.{memory_forward, memory_back, branch_forward, branch_itself, branch_back}
use Rattle.alpha_text.proofs.FormatOperands.{call_forward, call_itself, call_back, jump_words, return_words}
use Rattle.alpha_text.proofs.FormatOperands.{operate_register}
use Rattle.alpha_text.proofs.FormatOperands.{operate_literal, unary_register, unary_literal, pair_words, single_word}
use Rattle.alpha_text.proofs.FormatOperands.{prefetch_words, alone_words}
use Rattle.alpha_text.proofs.CanonicalTokens.{is_word, is_ascii_alphabetic-begins_name, token-named}

-- a name of the tables begins a name, goes on as one, and isn't `.` alone
abbrev is_named : List ℕ → Bool
is_named [] = false
is_named (b ∷ ds) = (begins_name b && list_all goes_on_name ds) && not (eqb b 46 && eqb (length ds) 0)

word_named : (name : List ℕ) → is_word name ≡ true → is_named name ≡ true
word_named [] h = cc
word_named (b ∷ ds) h =
    let (a, rest) = and_parts (is_ascii_alphabetic b) (list_all goes_on_name ds) h in
    let (begins, dot) = is_ascii_alphabetic-begins_name b a in
    rw (begins, rest, dot) refl

own_named : (pseudo_op : PseudoOp) → is_named (pseudo_op_name pseudo_op) ≡ true
own_named owns.Byte = refl
own_named pseudo_op = refl

head_named : (head : Head) → is_named (head_name head) ≡ true
head_named (heads.Insn m) = word_named (name_of m) (name_of-word m)
head_named (heads.PseudoOp own) = own_named own

head_of-head : (head : Head) → head_of (head_name head) ≡ Some head
head_of-head (heads.Insn m) = head_of-insn (name_of m) m refl
head_of-head (heads.PseudoOp own) = head_of-pseudo_op_name (pseudo_op_name own) own refl

BeginsWithout-suffix : (behind : List ℕ) → IsApart behind → BeginsWithout goes_on_name behind
BeginsWithout-suffix [] apart = tt
BeginsWithout-suffix (b ∷ s) (a, c) = a

named_tokens : (name s : List ℕ) → is_named name ≡ true → BeginsWithout goes_on_name s
    → tokens (name ++ s) ≡ Next (record { kind = kinds.Name; text = name; rest = s }) (tokens s)
named_tokens [] s h stop = cc
named_tokens (b ∷ ds) s h stop =
    let (a, more) = and_parts (begins_name b && list_all goes_on_name ds) (not (eqb b 46 && eqb (length ds) 0)) h in
    let (begins, rest) = and_parts (begins_name b) (list_all goes_on_name ds) a in
    token-named b ds s begins more rest stop

-- a line that begins with a name of the tables
head_tokens : (head : Head) (behind : List ℕ) → IsApart behind
    → tokens (head_name head ++ behind)
    ≡ Next (record { kind = kinds.Name; text = head_name head; rest = behind }) (tokens behind)
head_tokens head behind apart =
    named_tokens (head_name head) behind (head_named head) (BeginsWithout-suffix behind apart)

no_colon : (behind : List ℕ) → IsApart behind → eqb (get_or behind 0 0) 58 ≡ false
no_colon [] apart = refl
no_colon (b ∷ s) (a, c) = c

pub statement_says : (head : Head) (behind : List ℕ) (s : Stmt) → IsApart behind → SaysBy head behind s
    → statement_of (tokens (head_name head ++ behind)) ≡ Ok s
statement_says head behind s apart (o, h, says) = rw (head_tokens head behind apart, head_of-head head, h, says) refl

pub line_says : (head : Head) (behind : List ℕ) (s : Stmt) → IsApart behind → SaysBy head behind s
    → line_of (tokens (head_name head ++ behind)) ≡ Ok (record { label = None; statement = s })
line_says head behind s apart (o, h, says) =
    rw (head_tokens head behind apart, no_colon behind apart, head_of-head head, h, says) refl

pub is_apart : (ws : List Word) → IsApart (behind_name ws)
is_apart [] = tt
is_apart (w ∷ ws) = (refl, refl)

abbrev SaysSo : Form → Type 0
SaysSo i = Says (mnemonic_of i) (behind_name (words_of i)) (code i)

says_mem : (op : MemOp) (ra rb : ℕ) (disp : ℤ) → ra < 32 → rb < 32 → IsSigned 15 disp → SaysSo (Mem op ra rb disp)
says_mem op ra rb (pos n) a b d = (_, memory_forward ra rb n a b (omega (arith, ints)), refl)
says_mem op ra rb (negsuc n) a b d = (_, memory_back ra rb n a b (omega (arith, ints)), refl)

-- the operands of a branch, whichever its shape
branch_operands : (op : BranchOp) (ra : ℕ) (disp : ℤ) → ra < 32 → IsSigned 20 disp
    → (o : Slots) × (operands (patterns (branch_shape op)) (tokens (behind_name (words_of (Branch op ra disp)))) ≡ Ok o)
    × (branch_stmt op o o.label ≡ code (Branch op ra disp))
branch_operands branches.Br ra (pos n) a d = (_, call_forward ra n a (omega (arith, ints)), refl)
branch_operands branches.Br ra (negsuc zero) a d = (_, call_itself ra a, refl)
branch_operands branches.Br ra (negsuc (suc n)) a d = (_, call_back ra n a (omega (arith, ints)), refl)
branch_operands branches.Bsr ra (pos n) a d = (_, call_forward ra n a (omega (arith, ints)), refl)
branch_operands branches.Bsr ra (negsuc zero) a d = (_, call_itself ra a, refl)
branch_operands branches.Bsr ra (negsuc (suc n)) a d = (_, call_back ra n a (omega (arith, ints)), refl)
branch_operands op ra (pos n) a d = (_, branch_forward ra n a (omega (arith, ints)), refl)
branch_operands op ra (negsuc zero) a d = (_, branch_itself ra a, refl)
branch_operands op ra (negsuc (suc n)) a d = (_, branch_back ra n a (omega (arith, ints)), refl)

says_jump : (kind : JumpKind) (ra rb hint : ℕ) → ra < 32 → rb < 32 → hint < 2 ^ 14 → SaysSo (Jump kind ra rb hint)
says_jump jumps.Ret ra rb hint a b c = (_, return_words ra rb hint a b c, refl)
says_jump kind ra rb hint a b c = (_, jump_words ra rb hint a b c, refl)

-- the operands of an operate instruction, by what its row takes
operate_operands : (rule : OperandRule) (op : Op) (ra : ℕ) (src : Src) (rc : ℕ) → ra < 32 → IsSource src → rc < 32
    → OperandsFit rule ra src →
    (o : Slots)
    × (operands (patterns (operate_shape rule)) (tokens (behind_name (source_words rule ra src ++ (reg rc ∷ []))))
    ≡ Ok o)
    × (operate_form rule op o ≡ Operate op ra src rc)
operate_operands Any op ra (Reg rb) rc a b c fit = (_, (operate_register ra rb rc a b c), refl)
operate_operands Any op ra (Lit n) rc a b c fit = (_, (operate_literal ra n rc a b c), refl)
operate_operands Unary op ra (Reg rb) rc a b c fit =
    (_, (unary_register rb rc b c), ap (λ r. Operate op r (Reg rb) rc) (sym fit))
operate_operands Unary op ra (Lit n) rc a b c fit =
    (_, (unary_literal n rc b c), ap (λ r. Operate op r (Lit n) rc) (sym fit))
operate_operands UnaryRegister op ra (Reg rb) rc a b c fit =
    (_, (pair_words rb rc b c), ap (λ r. Operate op r (Reg rb) rc) (sym fit.0))
operate_operands UnaryRegister op ra (Lit n) rc a b c fit = absurd fit.1
operate_operands Version op ra src rc a b c fit = (_, (single_word rc c), rw (fit.0, fit.1) refl)

says_operate : (op : Op) (ra : ℕ) (src : Src) (rc : ℕ) → ra < 32 → IsSource src → rc < 32
    → OperandsFit (op_row op).operands ra src → SaysSo (Operate op ra src rc)
says_operate op ra src rc a b c fit =
    let (o, h, says) = operate_operands (op_row op).operands op ra src rc a b c fit in
    (o, h, ap code says)

-- what stands behind the name in the canonical line of an instruction
pub says_insn : (i : Form) → IsInsn i → SaysSo i
says_insn (Mem op ra rb disp) (a, b, d) = says_mem op ra rb disp a b d
says_insn (Branch op ra disp) (a, d) = branch_operands op ra disp a d
says_insn (Jump kind ra rb hint) (a, b, c) = says_jump kind ra rb hint a b c
says_insn (Operate op ra src rc) (a, b, c, fit) = says_operate op ra src rc a b c fit
says_insn (Misc op) good = (nothing, alone_words, refl)
says_insn (Fetch modify rb) good = (_, prefetch_words rb good, refl)
says_insn (Pal call) good = (nothing, alone_words, refl)
