-- A line that is read has counts of zeroed bytes and powers of two within their ranges.
use Rattle.std.proofs.Common.{◌≡◌, ℕ, ◌≤◌, ◌^◌, List, [], Option, Some, None, Ok, IfSome, inl, inr, lit≤}
use Rattle.alpha_token.specs.Tokens.{Tokens, End, Bad, Next, tokens}
use Rattle.alpha_table.specs.declared.form.Form.{Form}
use Rattle.alpha_table.specs.declared.names.Mnemonic.TheVariants as mnemonics
use Rattle.alpha_table.specs.declared.rows.MemOp.{MemOp}
use Rattle.alpha_table.specs.declared.rows.BranchOp.{BranchOp}
use Rattle.std.specs.Prelude.{ℤ}
use Rattle.alpha_operands.specs.declared.names.Half.{Half}
use Rattle.alpha_operands.specs.declared.names.Half.TheVariants as halves
use Rattle.alpha_operands.specs.declared.number.Number.{Number}
use Rattle.alpha_operands.specs.declared.number.Number.TheVariants as numbers
use Rattle.alpha_operands.specs.declared.number.Sign.TheVariants as signs
use Rattle.alpha_operands.specs.Ranges.{IsNumber}
use Rattle.alpha_operands.specs.Shapes.{patterns}
use Rattle.alpha_operands.specs.Operands.{Slots, nothing}
use Rattle.alpha_operands.specs.Grammar.{AreOperands}
use Rattle.alpha_operands.proofs.PatternsApart.{shapes-distinct}
use Rattle.alpha_operands.proofs.Grammar.{spells-follow}
use Rattle.alpha_operands.proofs.OperandRanges.{follow-within}
use Rattle.alpha_text.specs.declared.head.PseudoOp.TheVariants as owns
use Rattle.alpha_text.specs.declared.head.Head.{Head}
use Rattle.alpha_text.specs.declared.head.Head.TheVariants as heads
use Rattle.alpha_text.specs.Heads.{shape_of}
use Rattle.alpha_text.specs.Statements.{Stmt, stmt_by, half_stmt, memory_stmt, branch_stmt, entry_stmt, zeroed_in}
use Rattle.alpha_text.specs.Statements.{align_in}
use Rattle.alpha_text.specs.Reading.{LineStmt, read}
use Rattle.alpha_text.specs.Grammar.{IsStatement, IsLine, IsBehindLabel}
use Rattle.alpha_text.proofs.Lines.{read-is}
use Rattle.alpha_text.specs.Bounds.{IsWithin}

half-within : (half : Option Half) (insn : Form) (label : List ℕ) (offset : ℤ)
    → IsWithin (half_stmt half insn label offset)
half-within None insn label offset = tt
half-within (Some halves.High) insn label offset = tt
half-within (Some halves.Low) insn label offset = tt

memory-within : (op : MemOp) (o : Slots) (label : Option (List ℕ)) → IsWithin (memory_stmt op o label)
memory-within op o None = tt
memory-within op o (Some label) = half-within o.half _ label o.offset

branch-within : (op : BranchOp) (o : Slots) (label : Option (List ℕ)) → IsWithin (branch_stmt op o label)
branch-within op o None = tt
branch-within op o (Some label) = tt

entry-within : (o : Slots) (label : Option (List ℕ)) → IsWithin (entry_stmt o label)
entry-within o None = tt
entry-within o (Some label) = tt

zeroed-within : (n : Option Number) → IfSome n IsNumber → zeroed_in n ≤ 2 ^ 24
zeroed-within (Some (numbers.Zeroed n)) h = h
zeroed-within _ h = lit≤ tt

align-within : (n : Option Number) → IfSome n IsNumber → align_in n ≤ 13
align-within (Some (numbers.Align n)) h = h
align-within _ h = lit≤ tt

stmt_by-within : (head : Head) (o : Slots) (list : List ℕ) → IfSome o.number IsNumber → IsWithin (stmt_by head o list)
stmt_by-within (heads.Insn (mnemonics.Mem op)) o list h = memory-within op o o.label
stmt_by-within (heads.Insn (mnemonics.Branch op)) o list h = branch-within op o o.label
stmt_by-within (heads.Insn (mnemonics.Jump kind)) o list h = tt
stmt_by-within (heads.Insn (mnemonics.Operate op)) o list h = tt
stmt_by-within (heads.Insn (mnemonics.Misc op)) o list h = tt
stmt_by-within (heads.Insn (mnemonics.Fetch modify)) o list h = tt
stmt_by-within (heads.Insn (mnemonics.Pal call)) o list h = tt
stmt_by-within (heads.PseudoOp owns.Zero) o list h = zeroed-within o.number h
stmt_by-within (heads.PseudoOp owns.Align) o list h = align-within o.number h
stmt_by-within (heads.PseudoOp owns.Entry) o list h = entry-within o o.label
stmt_by-within (heads.PseudoOp _) o list h = tt

number-within : (head : Head) (ts : Tokens) (o : Slots) → AreOperands (patterns (shape_of head)) ts o
    → IfSome o.number IsNumber
number-within head ts o (q, c, s) =
    follow-within (patterns (shape_of head)) [] signs.Plus ts nothing o tt
    (spells-follow (patterns (shape_of head)) (shapes-distinct (shape_of head)) [] q signs.Plus ts nothing o c s)

statement-within : (ts : Tokens) (s : Stmt) → IsStatement ts s → IsWithin s
statement-within (End left) s h = rw h tt
statement-within (Bad left) s h = absurd h
statement-within (Next t ts) s (k, head, e, o, a, says) = rw says (stmt_by-within head o _ (number-within head ts o a))

labelled-within : (ts : Tokens) (l : LineStmt) → IsBehindLabel ts l → IsWithin l.statement
labelled-within (End left) l h = absurd h
labelled-within (Bad left) l h = absurd h
labelled-within (Next t ts) l (k, e, s) = statement-within _ l.statement s

line-within : (ts : Tokens) (l : LineStmt) → IsLine ts l → IsWithin l.statement
line-within ts l (inl (k, h)) = labelled-within ts l h
line-within ts l (inr (k, e, s)) = statement-within ts l.statement s

pub read-within : (line : List ℕ) (l : LineStmt) → read line ≡ Ok l → IsWithin l.statement
read-within line l h = line-within (tokens line) l ((read-is line l).0 h)
