-- The list and the text of an item are read to their ends.
use Rattle.std.proofs.Common.{◌≡◌, ℕ, ℤ, List, [], ◌-◌, ◌≤◌, Option, Some, None, Ok, length, length-drop, take, drop}
use Rattle.std.proofs.Common.{refl, sym, ◌∙◌, ap, subst, inl, inr, arith}
use Rattle.std.specs.List.{prefix_len}
use Rattle.std.specs.Option.{unwrap_or}
use Rattle.std.proofs.lemmas.List.{take-append-drop}
use Rattle.alpha_table.specs.declared.form.Form.{Form}
use Rattle.alpha_table.specs.declared.names.Mnemonic.{Mnemonic}
use Rattle.alpha_table.specs.declared.names.Mnemonic.TheVariants as mnemonics
use Rattle.alpha_table.specs.declared.rows.BranchOp.{BranchOp}
use Rattle.alpha_table.specs.declared.rows.MemOp.{MemOp}
use Rattle.alpha_token.specs.Bytes.{is_blank}
use Rattle.alpha_token.specs.Quoted.{IsText}
use Rattle.alpha_token.specs.Tokens.{Tokens, End, Bad, Next, tokens}
use Rattle.alpha_token.proofs.TokenSuffixes.{tokens-blanks, tokens-behind}
use Rattle.alpha_operands.specs.declared.names.Half.{Half}
use Rattle.alpha_operands.specs.declared.names.Half.TheVariants as halves
use Rattle.alpha_operands.specs.declared.shape.Shape.{Shape}
use Rattle.alpha_operands.specs.declared.shape.Shape.TheVariants as shapes
use Rattle.alpha_operands.specs.Shapes.{patterns}
use Rattle.alpha_operands.specs.Operands.{Slots}
use Rattle.alpha_operands.specs.Values.{list_shape, IsWholeList}
use Rattle.alpha_operands.specs.Walk.{operands}
use Rattle.alpha_operands.proofs.ListReading.{values-read, left-within}
use Rattle.alpha_operands.proofs.Quotes.{operand_text-read}
use Rattle.alpha_text.specs.declared.head.PseudoOp.{PseudoOp}
use Rattle.alpha_text.specs.declared.head.PseudoOp.TheVariants as owns
use Rattle.alpha_text.specs.declared.head.Head.{Head}
use Rattle.alpha_text.specs.declared.head.Head.TheVariants as heads
use Rattle.alpha_text.specs.Heads.{shape_of, pseudo_op_shape}
use Rattle.alpha_text.specs.Statements.{Stmt, values, text, stmt_by, insn_stmt, pseudo_op_stmt, pseudo_form, half_stmt}
use Rattle.alpha_text.specs.Statements.{memory_stmt, branch_stmt, entry_stmt}
use Rattle.alpha_text.specs.Reading.{LineStmt, list_in, read}
use Rattle.alpha_text.specs.Grammar.{IsStatement, IsBehindLabel}
use Rattle.alpha_text.proofs.Lines.{are-operands, read-is}

-- the list or the text of a statement is read to its end
abbrev IsRead : Stmt → Type 0
IsRead (values bytes list) = IsWholeList bytes list
IsRead (text t) = IsText t
IsRead _ = Unit {0}

-- an instruction has neither
half-plain : (half : Option Half) (insn : Form) (label : List ℕ) (offset : ℤ)
    → IsRead (half_stmt half insn label offset)
half-plain (Some halves.High) insn label offset = tt
half-plain (Some halves.Low) insn label offset = tt
half-plain None insn label offset = tt

memory-plain : (op : MemOp) (o : Slots) (label : Option (List ℕ)) → IsRead (memory_stmt op o label)
memory-plain op o (Some label) = half-plain o.half _ label o.offset
memory-plain op o None = tt

branch-plain : (op : BranchOp) (o : Slots) (label : Option (List ℕ)) → IsRead (branch_stmt op o label)
branch-plain op o (Some label) = tt
branch-plain op o None = tt

entry-plain : (o : Slots) (label : Option (List ℕ)) → IsRead (entry_stmt o label)
entry-plain o (Some label) = tt
entry-plain o None = tt

insn-plain : (m : Mnemonic) (o : Slots) → IsRead (insn_stmt m o)
insn-plain (mnemonics.Mem op) o = memory-plain op o o.label
insn-plain (mnemonics.Branch op) o = branch-plain op o o.label
insn-plain m o = tt

-- the list of a statement, from its first value to the end of its last one
list-read : (bytes : ℕ) (s : Shape) (behind : List ℕ) (o : Slots) → list_shape bytes ≡ Some s
    → operands (patterns s) (tokens behind) ≡ Ok o → IsWholeList bytes (list_in behind o.left)
list-read bytes s behind o shape h =
    let list : List ℕ = drop (prefix_len is_blank behind) behind in
    let n : ℕ = length (drop (prefix_len is_blank behind) behind) - o.left in
    let whole : operands (patterns s) (tokens list) ≡ Ok o =
    ap (operands (patterns s)) (sym (tokens-blanks behind)) ∙ h in
    let within : o.left ≤ length list = left-within bytes s list o shape whole in
    values-read bytes (take n list) (drop n list) (
      s,
      o,
      shape,
      ap (λ line. operands (patterns s) (tokens line)) (take-append-drop n list) ∙ whole,
      omega (arith, length-drop n list),
    )

text-or-none : (behind : List ℕ) (o : Slots) (x : Option (List ℕ))
    → operands (patterns shapes.Text) (tokens behind) ≡ Ok o → o.text ≡ x → IsText (unwrap_or x [])
text-or-none behind o None h e = ([], refl)
text-or-none behind o (Some t) h e = operand_text-read (patterns shapes.Text) behind t o h e

own-read : (pseudo_op : PseudoOp) (behind : List ℕ) (o : Slots)
    → operands (patterns (pseudo_op_shape pseudo_op)) (tokens behind) ≡ Ok o
    → IsRead (pseudo_op_stmt (pseudo_form pseudo_op o) pseudo_op o (list_in behind o.left))
own-read owns.Byte behind o h = list-read 1 shapes.Bytes behind o refl h
own-read owns.Word behind o h = list-read 2 shapes.Words behind o refl h
own-read owns.Long behind o h = list-read 4 shapes.Longs behind o refl h
own-read owns.Quad behind o h = list-read 8 shapes.Quads behind o refl h
own-read owns.Ascii behind o h = text-or-none behind o o.text h refl
own-read owns.Entry behind o h = entry-plain o o.label
own-read pseudo_op behind o h = tt

stmt_by-read : (head : Head) (behind : List ℕ) (o : Slots) → operands (patterns (shape_of head)) (tokens behind) ≡ Ok o
    → IsRead (stmt_by head o (list_in behind o.left))
stmt_by-read (heads.Insn m) behind o h = insn-plain m o
stmt_by-read (heads.PseudoOp own) behind o h = own-read own behind o h

statement-read : (line : List ℕ) (ts : Tokens) (s : Stmt) → tokens line ≡ ts → IsStatement ts s → IsRead s
statement-read line (End left) s e h = rw h tt
statement-read line (Bad left) s e h = absurd h
statement-read line (Next t ts) s e (k, head, found, o, are, says) =
    rw says
    (stmt_by-read head t.rest o
    (ap (operands (patterns (shape_of head))) (sym (tokens-behind line t ts e)) ∙ are-operands head ts o are))

labelled-read : (ts : Tokens) (l : LineStmt) → IsBehindLabel ts l → IsRead l.statement
labelled-read (End left) l h = absurd h
labelled-read (Bad left) l h = absurd h
labelled-read (Next t ts) l (good, label, h) =
    statement-read (drop 1 t.rest) (tokens (drop 1 t.rest)) l.statement refl h

item-read : (line : List ℕ) (l : LineStmt) → read line ≡ Ok l → IsRead l.statement
item-read line l h =
    elim ((read-is line l).0 h) [
      | inl (x, y) ↦ labelled-read (tokens line) l y
      | inr (none, label, s) ↦ statement-read line (tokens line) l.statement refl s
    ]

pub list-whole : (line : List ℕ) (l : LineStmt) (bytes : ℕ) (list : List ℕ) → read line ≡ Ok l
    → l.statement ≡ values bytes list → IsWholeList bytes list
list-whole line l bytes list h e = subst IsRead e (item-read line l h)

pub text-whole : (line : List ℕ) (l : LineStmt) (t : List ℕ) → read line ≡ Ok l → l.statement ≡ text t → IsText t
text-whole line l t h e = subst IsRead e (item-read line l h)
