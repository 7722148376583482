-- The class of an instruction word, by the tables of the Architecture Handbook.
use Rattle.std.specs.Prelude.{ℕ, ℤ, Bool, true, false, Option, Some, None, List, [], ◌∷◌, ◌==◌, ◌&&◌, if◌then◌else◌}
use Rattle.std.specs.Option.{option_map, option_and_then, option_or}
use Rattle.alpha_words.specs.Field.{field, signed_field}
use Rattle.alpha_words.specs.declared.Level.{Level}
use Rattle.alpha_words.specs.declared.Level.TheVariants.{One, Two}
use Rattle.alpha_words.specs.declared.PalCall.{PalCall}
use Rattle.alpha_words.specs.declared.PalCall.TheVariants.{Bpt, Bugchk, Callsys, Imb, Rdunique, Wrunique, Gentrap}
use Rattle.alpha_table.specs.declared.op.Op.{Op}
use Rattle.alpha_table.specs.declared.op.Op.TheVariants.{Addl, S4addl, Subl, S4subl, Cmpbge, S8addl, S8subl, Cmpult}
use Rattle.alpha_table.specs.declared.op.Op.TheVariants.{Addq, S4addq, Subq, S4subq, Cmpeq, S8addq, S8subq, Cmpule}
use Rattle.alpha_table.specs.declared.op.Op.TheVariants.{AddlV, SublV, Cmplt, AddqV, SubqV, Cmple, And, Bic, Cmovlbs}
use Rattle.alpha_table.specs.declared.op.Op.TheVariants.{Cmovlbc, Bis, Cmoveq, Cmovne, Ornot, Xor, Cmovlt, Cmovge, Eqv}
use Rattle.alpha_table.specs.declared.op.Op.TheVariants.{Amask, Cmovle, Cmovgt, Implver, Mskbl, Extbl, Insbl, Mskwl}
use Rattle.alpha_table.specs.declared.op.Op.TheVariants.{Extwl, Inswl, Mskll, Extll, Insll, Zap, Zapnot, Mskql, Srl}
use Rattle.alpha_table.specs.declared.op.Op.TheVariants.{Extql, Sll, Insql, Sra, Mskwh, Inswh, Extwh, Msklh, Inslh}
use Rattle.alpha_table.specs.declared.op.Op.TheVariants.{Extlh, Mskqh, Insqh, Extqh, Mull, Mulq, Umulh, MullV, MulqV}
use Rattle.alpha_table.specs.declared.op.Op.TheVariants.{Sextb, Sextw, Ctpop, Ctlz, Cttz}
use Rattle.alpha_table.specs.declared.op.Cond.{Cond}
use Rattle.alpha_table.specs.declared.op.Cond.TheVariants.{Lbc, Lbs, Eq, Ne, Lt, Le, Ge, Gt}
use Rattle.alpha_table.specs.declared.op.TrapOp.TheVariants as traps
use Rattle.alpha_table.specs.declared.rows.MemOp.TheVariants.{Lda, Ldah}
use Rattle.alpha_table.specs.declared.rows.Extension.{Extension}
use Rattle.alpha_table.specs.declared.rows.Extension.TheVariants.{Zero, Sign}
use Rattle.alpha_table.specs.declared.columns.MemAccess.{MemAccess}
use Rattle.alpha_table.specs.declared.form.Src.{Src}
use Rattle.alpha_table.specs.declared.form.Src.TheVariants.{Reg, Lit}
use Rattle.alpha_table.specs.Class.{Class, operate, trigger, address, load, store, load_locked, store_conditional}
use Rattle.alpha_table.specs.Class.{branch, jump, barrier, idle}

-- what a table has under a number
abbrev pub row_under : {X : Type 0} → ℕ → List (ℕ × X) → Option X
row_under n [] = None
row_under n (row ∷ rows) = if row.0 == n then Some row.1 else row_under n rows

-- an access to so many bytes
abbrev pub aligned : ℕ → ℤ → ℕ → MemAccess
aligned rb disp bytes = record { base = rb; disp = disp; bytes = bytes; clears = false }

-- an access of LDQ_U and STQ_U, which clear the three low bits of the address
abbrev pub unaligned : ℕ → ℤ → MemAccess
unaligned rb disp = record { base = rb; disp = disp; bytes = 8; clears = true }

-- a load that isn't locked, which into R31 makes no access
abbrev pub loading : Extension → MemAccess → ℕ → Class
loading extension access ra = if ra == 31 then idle else load extension access ra

-- the memory instructions by their opcodes
abbrev pub memory_table : ℕ → ℕ → ℤ → List (ℕ × Class)
memory_table ra rb disp =
    (0x08, address Lda ra rb disp) ∷ (0x09, address Ldah ra rb disp) ∷ (0x0a, loading Zero (aligned rb disp 1) ra) ∷
    (0x0b, loading Zero (unaligned rb disp) ra) ∷ (0x0c, loading Zero (aligned rb disp 2) ra) ∷
    (0x0d, store (aligned rb disp 2) ra) ∷ (0x0e, store (aligned rb disp 1) ra) ∷ (0x0f, store (unaligned rb disp) ra) ∷
    (0x28, loading Sign (aligned rb disp 4) ra) ∷ (0x29, loading Zero (aligned rb disp 8) ra) ∷
    (0x2a, load_locked Sign (aligned rb disp 4) ra) ∷ (0x2b, load_locked Zero (aligned rb disp 8) ra) ∷
    (0x2c, store (aligned rb disp 4) ra) ∷ (0x2d, store (aligned rb disp 8) ra) ∷
    (0x2e, store_conditional (aligned rb disp 4) ra) ∷ (0x2f, store_conditional (aligned rb disp 8) ra) ∷ []

-- the operate instructions by their functions: integer arithmetic, opcode 10
abbrev pub arithmetic : List (ℕ × Op)
arithmetic =
    (0x00, Addl) ∷ (0x02, S4addl) ∷ (0x09, Subl) ∷ (0x0b, S4subl) ∷ (0x0f, Cmpbge) ∷ (0x12, S8addl) ∷ (0x1b, S8subl) ∷
    (0x1d, Cmpult) ∷ (0x20, Addq) ∷ (0x22, S4addq) ∷ (0x29, Subq) ∷ (0x2b, S4subq) ∷ (0x2d, Cmpeq) ∷ (0x32, S8addq) ∷
    (0x3b, S8subq) ∷ (0x3d, Cmpule) ∷ (0x40, AddlV) ∷ (0x49, SublV) ∷ (0x4d, Cmplt) ∷ (0x60, AddqV) ∷ (0x69, SubqV) ∷
    (0x6d, Cmple) ∷ []

-- logical functions and conditional moves, opcode 11
abbrev pub logical : List (ℕ × Op)
logical =
    (0x00, And) ∷ (0x08, Bic) ∷ (0x14, Cmovlbs) ∷ (0x16, Cmovlbc) ∷ (0x20, Bis) ∷ (0x24, Cmoveq) ∷ (0x26, Cmovne) ∷
    (0x28, Ornot) ∷ (0x40, Xor) ∷ (0x44, Cmovlt) ∷ (0x46, Cmovge) ∷ (0x48, Eqv) ∷ (0x61, Amask) ∷ (0x64, Cmovle) ∷
    (0x66, Cmovgt) ∷ (0x6c, Implver) ∷ []

-- shifts and byte manipulation, opcode 12
abbrev pub bytewise : List (ℕ × Op)
bytewise =
    (0x02, Mskbl) ∷ (0x06, Extbl) ∷ (0x0b, Insbl) ∷ (0x12, Mskwl) ∷ (0x16, Extwl) ∷ (0x1b, Inswl) ∷ (0x22, Mskll) ∷
    (0x26, Extll) ∷ (0x2b, Insll) ∷ (0x30, Zap) ∷ (0x31, Zapnot) ∷ (0x32, Mskql) ∷ (0x34, Srl) ∷ (0x36, Extql) ∷
    (0x39, Sll) ∷ (0x3b, Insql) ∷ (0x3c, Sra) ∷ (0x52, Mskwh) ∷ (0x57, Inswh) ∷ (0x5a, Extwh) ∷ (0x62, Msklh) ∷
    (0x67, Inslh) ∷ (0x6a, Extlh) ∷ (0x72, Mskqh) ∷ (0x77, Insqh) ∷ (0x7a, Extqh) ∷ []

-- multiplication, opcode 13
abbrev pub multiplication : List (ℕ × Op)
multiplication = (0x00, Mull) ∷ (0x20, Mulq) ∷ (0x30, Umulh) ∷ (0x40, MullV) ∷ (0x60, MulqV) ∷ []

-- sign extension and bit counts, opcode 1C
abbrev pub bit_counts : List (ℕ × Op)
bit_counts = (0x00, Sextb) ∷ (0x01, Sextw) ∷ (0x30, Ctpop) ∷ (0x32, Ctlz) ∷ (0x33, Cttz) ∷ []

abbrev pub operate_tables : List (ℕ × List (ℕ × Op))
operate_tables =
    (0x10, arithmetic) ∷ (0x11, logical) ∷ (0x12, bytewise) ∷ (0x13, multiplication) ∷ (0x1c, bit_counts) ∷ []

-- the branches by their opcodes: what each tests its register for, and BR and BSR, which always turn
abbrev pub branch_table : List (ℕ × Option Cond)
branch_table =
    (0x30, None) ∷ (0x34, None) ∷ (0x38, Some Lbc) ∷ (0x39, Some Eq) ∷ (0x3a, Some Lt) ∷ (0x3b, Some Le) ∷
    (0x3c, Some Lbs) ∷ (0x3d, Some Ne) ∷ (0x3e, Some Ge) ∷ (0x3f, Some Gt) ∷ []

-- TRAPB, EXCB, MB and WMB by their functions, and FETCH and FETCH_M
abbrev pub barrier_table : List (ℕ × Class)
barrier_table = (0x0000, barrier None) ∷ (0x0400, barrier None) ∷ (0x4000, idle) ∷ (0x4400, idle) ∷ []

abbrev pub prefetch_table : List (ℕ × Class)
prefetch_table = (0x8000, idle) ∷ (0xa000, idle) ∷ []

-- the PALcode calls by their functions
abbrev pub call_table : List (ℕ × PalCall)
call_table =
    (0x80, Bpt) ∷ (0x81, Bugchk) ∷ (0x83, Callsys) ∷ (0x86, Imb) ∷ (0x9e, Rdunique) ∷ (0x9f, Wrunique) ∷ (0xaa, Gentrap)
    ∷ []

-- the second source of an operate word: a literal where bit 12 is set, else a register behind three zeros
abbrev pub source_in : ℕ → Option Src
source_in word =
    if field 12 12 word == 1 then Some (Lit (field 20 13 word))
    else if field 15 13 word == 0 then Some (Reg (field 20 16 word)) else None

-- Whether the sources are as the instruction requires: where it has one alone the first is R31, CTPOP, CTLZ and CTTZ
-- take no literal, and IMPLVER takes the literal 1.
abbrev pub sources_fit : Op → ℕ → Src → Bool
sources_fit Amask ra src = ra == 31
sources_fit Sextb ra src = ra == 31
sources_fit Sextw ra src = ra == 31
sources_fit Ctpop ra (Reg rb) = ra == 31
sources_fit Ctpop ra (Lit n) = false
sources_fit Ctlz ra (Reg rb) = ra == 31
sources_fit Ctlz ra (Lit n) = false
sources_fit Cttz ra (Reg rb) = ra == 31
sources_fit Cttz ra (Lit n) = false
sources_fit Implver ra (Reg rb) = false
sources_fit Implver ra (Lit n) = ra == 31 && n == 1
sources_fit op ra src = true

-- an operate instruction: one with `/V` is a trigger
abbrev pub operating : Op → ℕ → Src → ℕ → Class
operating AddlV ra src rc = trigger traps.AddlV ra src rc
operating SublV ra src rc = trigger traps.SublV ra src rc
operating AddqV ra src rc = trigger traps.AddqV ra src rc
operating SubqV ra src rc = trigger traps.SubqV ra src rc
operating MullV ra src rc = trigger traps.MullV ra src rc
operating MulqV ra src rc = trigger traps.MulqV ra src rc
operating op ra src rc = operate op ra src rc

-- the class of a word, by its format
abbrev pub memory_in : ℕ → Option Class
memory_in word =
    row_under (field 31 26 word) (memory_table (field 25 21 word) (field 20 16 word) (signed_field 15 0 word))

abbrev pub branch_in : ℕ → Option Class
branch_in word =
    option_map (λ condition. branch condition (field 25 21 word) (signed_field 20 0 word))
    (row_under (field 31 26 word) branch_table)

abbrev pub jump_in : ℕ → Option Class
jump_in word = if field 31 26 word == 0x1a then Some (jump (field 25 21 word) (field 20 16 word)) else None

abbrev pub operate_in : ℕ → Option Class
operate_in word =
    option_and_then (λ op. option_and_then (λ src.
    if sources_fit op (field 25 21 word) src then Some (operating op (field 25 21 word) src (field 4 0 word)) else None)
    (source_in word)) (option_and_then (row_under (field 11 5 word)) (row_under (field 31 26 word) operate_tables))

abbrev pub misc_in : ℕ → Option Class
misc_in word =
    if field 31 26 word == 0x18 && (field 25 21 word == 31 && field 20 16 word == 31)
    then row_under (field 15 0 word) barrier_table else None

abbrev pub fetch_in : ℕ → Option Class
fetch_in word =
    if field 31 26 word == 0x18 && field 25 21 word == 31 then row_under (field 15 0 word) prefetch_table else None

abbrev pub pal_in : ℕ → Option Class
pal_in word =
    if field 31 26 word == 0 then option_map (λ call. barrier (Some call)) (row_under (field 25 0 word) call_table)
    else None

unfoldable pub class_in : ℕ → Option Class
class_in word =
    option_or (memory_in word) (option_or (branch_in word) (option_or (jump_in word) (option_or (operate_in word)
    (option_or (misc_in word) (option_or (fetch_in word) (pal_in word))))))

-- the least level whose implementations have an instruction of the class: the bit counts are there from level 2 on
abbrev pub level_in : Class → Level
level_in (operate Ctpop ra src rc) = Two
level_in (operate Ctlz ra src rc) = Two
level_in (operate Cttz ra src rc) = Two
level_in class = One
