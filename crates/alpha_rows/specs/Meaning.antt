-- What a row says of the word at its place.
use Rattle.std.specs.Prelude.{◌≡◌, ℕ, ℤ, pos, ◌+◌, ◌≤◌, ◌+ℤ◌, Bool, true, false, ◌==◌, if◌then◌else◌, Option, Some}
use Rattle.std.specs.Prelude.{None}
use Rattle.std.specs.Prelude.{List, FitsSigned}
use Rattle.std.specs.Int.{w16, w32}
use Rattle.alpha_words.specs.declared.Level.{Level}
use Rattle.alpha_words.specs.Regs.{reg}
use Rattle.alpha_table.specs.declared.op.Cond.{Cond}
use Rattle.alpha_table.specs.declared.op.Cond.TheVariants as conds
use Rattle.alpha_table.specs.declared.op.Op.{Op}
use Rattle.alpha_table.specs.declared.op.Op.TheVariants as ops
use Rattle.alpha_table.specs.declared.rows.MemOp.{MemOp}
use Rattle.alpha_table.specs.declared.rows.MemOp.TheVariants as memories
use Rattle.alpha_table.specs.declared.form.Src.{Src}
use Rattle.alpha_table.specs.declared.form.Src.TheVariants.{Reg, Lit}
use Rattle.alpha_table.specs.declared.form.Form.{Form}
use Rattle.alpha_table.specs.declared.form.Form.TheVariants.{Mem, Operate}
use Rattle.alpha_table.specs.Class.{Class, operate, address, branch, jump, idle}
use Rattle.alpha_table.specs.ClassOf.{class_of}
use Rattle.alpha_values.specs.Numbers.{signed}
use Rattle.alpha_values.specs.Source.{source_value}
use Rattle.alpha_values.specs.Outcome.{outcome_of}
use Rattle.alpha_rows.specs.declared.row.Row.{Row}
use Rattle.alpha_rows.specs.declared.row.RowOp.{RowOp}
use Rattle.alpha_rows.specs.declared.row.RowOp.TheVariants as rows

-- A row leaves the loop; it goes on to the next word and changes nothing; it is an operate instruction, whose second
-- source is a register or a literal; a memory instruction; a branch that tests its register; one without a condition,
-- without a link and with one; a jump.
pub data RowMeaning : Type 0 where
  leaves : RowMeaning
  idles : RowMeaning
  operates : (op : Op) (literal : Bool) → RowMeaning
  accesses : (op : MemOp) → RowMeaning
  tests : (condition : Cond) → RowMeaning
  branches : RowMeaning
  links : RowMeaning
  jumps : RowMeaning

abbrev pub meaning_of : RowOp → RowMeaning
meaning_of rows.Leave = leaves
meaning_of rows.Idle = idles
meaning_of rows.Branch = branches
meaning_of rows.BranchLink = links
meaning_of rows.Jump = jumps
meaning_of rows.Lda = accesses memories.Lda
meaning_of rows.Ldah = accesses memories.Ldah
meaning_of rows.Ldbu = accesses memories.Ldbu
meaning_of rows.Ldwu = accesses memories.Ldwu
meaning_of rows.Ldl = accesses memories.Ldl
meaning_of rows.Ldq = accesses memories.Ldq
meaning_of rows.LdqU = accesses memories.LdqU
meaning_of rows.Stb = accesses memories.Stb
meaning_of rows.Stw = accesses memories.Stw
meaning_of rows.Stl = accesses memories.Stl
meaning_of rows.Stq = accesses memories.Stq
meaning_of rows.StqU = accesses memories.StqU
meaning_of rows.Blbc = tests conds.Lbc
meaning_of rows.Beq = tests conds.Eq
meaning_of rows.Blt = tests conds.Lt
meaning_of rows.Ble = tests conds.Le
meaning_of rows.Blbs = tests conds.Lbs
meaning_of rows.Bne = tests conds.Ne
meaning_of rows.Bge = tests conds.Ge
meaning_of rows.Bgt = tests conds.Gt
meaning_of rows.AddlReg = operates ops.Addl false
meaning_of rows.AddlLit = operates ops.Addl true
meaning_of rows.SublReg = operates ops.Subl false
meaning_of rows.SublLit = operates ops.Subl true
meaning_of rows.MullReg = operates ops.Mull false
meaning_of rows.MullLit = operates ops.Mull true
meaning_of rows.AddqReg = operates ops.Addq false
meaning_of rows.AddqLit = operates ops.Addq true
meaning_of rows.SubqReg = operates ops.Subq false
meaning_of rows.SubqLit = operates ops.Subq true
meaning_of rows.MulqReg = operates ops.Mulq false
meaning_of rows.MulqLit = operates ops.Mulq true
meaning_of rows.AddlVReg = operates ops.AddlV false
meaning_of rows.AddlVLit = operates ops.AddlV true
meaning_of rows.SublVReg = operates ops.SublV false
meaning_of rows.SublVLit = operates ops.SublV true
meaning_of rows.MullVReg = operates ops.MullV false
meaning_of rows.MullVLit = operates ops.MullV true
meaning_of rows.AddqVReg = operates ops.AddqV false
meaning_of rows.AddqVLit = operates ops.AddqV true
meaning_of rows.SubqVReg = operates ops.SubqV false
meaning_of rows.SubqVLit = operates ops.SubqV true
meaning_of rows.MulqVReg = operates ops.MulqV false
meaning_of rows.MulqVLit = operates ops.MulqV true
meaning_of rows.S4addqReg = operates ops.S4addq false
meaning_of rows.S4addqLit = operates ops.S4addq true
meaning_of rows.S8addqReg = operates ops.S8addq false
meaning_of rows.S8addqLit = operates ops.S8addq true
meaning_of rows.CmpeqReg = operates ops.Cmpeq false
meaning_of rows.CmpeqLit = operates ops.Cmpeq true
meaning_of rows.CmpltReg = operates ops.Cmplt false
meaning_of rows.CmpltLit = operates ops.Cmplt true
meaning_of rows.CmpleReg = operates ops.Cmple false
meaning_of rows.CmpleLit = operates ops.Cmple true
meaning_of rows.CmpultReg = operates ops.Cmpult false
meaning_of rows.CmpultLit = operates ops.Cmpult true
meaning_of rows.CmpuleReg = operates ops.Cmpule false
meaning_of rows.CmpuleLit = operates ops.Cmpule true
meaning_of rows.AndReg = operates ops.And false
meaning_of rows.AndLit = operates ops.And true
meaning_of rows.BisReg = operates ops.Bis false
meaning_of rows.BisLit = operates ops.Bis true
meaning_of rows.XorReg = operates ops.Xor false
meaning_of rows.XorLit = operates ops.Xor true
meaning_of rows.BicReg = operates ops.Bic false
meaning_of rows.BicLit = operates ops.Bic true
meaning_of rows.OrnotReg = operates ops.Ornot false
meaning_of rows.OrnotLit = operates ops.Ornot true
meaning_of rows.EqvReg = operates ops.Eqv false
meaning_of rows.EqvLit = operates ops.Eqv true
meaning_of rows.SllReg = operates ops.Sll false
meaning_of rows.SllLit = operates ops.Sll true
meaning_of rows.SrlReg = operates ops.Srl false
meaning_of rows.SrlLit = operates ops.Srl true
meaning_of rows.SraReg = operates ops.Sra false
meaning_of rows.SraLit = operates ops.Sra true
meaning_of rows.S4addlReg = operates ops.S4addl false
meaning_of rows.S4addlLit = operates ops.S4addl true
meaning_of rows.S8addlReg = operates ops.S8addl false
meaning_of rows.S8addlLit = operates ops.S8addl true
meaning_of rows.S4sublReg = operates ops.S4subl false
meaning_of rows.S4sublLit = operates ops.S4subl true
meaning_of rows.S8sublReg = operates ops.S8subl false
meaning_of rows.S8sublLit = operates ops.S8subl true
meaning_of rows.S4subqReg = operates ops.S4subq false
meaning_of rows.S4subqLit = operates ops.S4subq true
meaning_of rows.S8subqReg = operates ops.S8subq false
meaning_of rows.S8subqLit = operates ops.S8subq true
meaning_of rows.UmulhReg = operates ops.Umulh false
meaning_of rows.UmulhLit = operates ops.Umulh true
meaning_of rows.SextbReg = operates ops.Sextb false
meaning_of rows.SextbLit = operates ops.Sextb true
meaning_of rows.SextwReg = operates ops.Sextw false
meaning_of rows.SextwLit = operates ops.Sextw true
meaning_of rows.CmovlbsReg = operates ops.Cmovlbs false
meaning_of rows.CmovlbsLit = operates ops.Cmovlbs true
meaning_of rows.CmovlbcReg = operates ops.Cmovlbc false
meaning_of rows.CmovlbcLit = operates ops.Cmovlbc true
meaning_of rows.CmoveqReg = operates ops.Cmoveq false
meaning_of rows.CmoveqLit = operates ops.Cmoveq true
meaning_of rows.CmovneReg = operates ops.Cmovne false
meaning_of rows.CmovneLit = operates ops.Cmovne true
meaning_of rows.CmovltReg = operates ops.Cmovlt false
meaning_of rows.CmovltLit = operates ops.Cmovlt true
meaning_of rows.CmovleReg = operates ops.Cmovle false
meaning_of rows.CmovleLit = operates ops.Cmovle true
meaning_of rows.CmovgeReg = operates ops.Cmovge false
meaning_of rows.CmovgeLit = operates ops.Cmovge true
meaning_of rows.CmovgtReg = operates ops.Cmovgt false
meaning_of rows.CmovgtLit = operates ops.Cmovgt true
meaning_of rows.CmpbgeReg = operates ops.Cmpbge false
meaning_of rows.CmpbgeLit = operates ops.Cmpbge true
meaning_of rows.MskblReg = operates ops.Mskbl false
meaning_of rows.MskblLit = operates ops.Mskbl true
meaning_of rows.ExtblReg = operates ops.Extbl false
meaning_of rows.ExtblLit = operates ops.Extbl true
meaning_of rows.InsblReg = operates ops.Insbl false
meaning_of rows.InsblLit = operates ops.Insbl true
meaning_of rows.MskwlReg = operates ops.Mskwl false
meaning_of rows.MskwlLit = operates ops.Mskwl true
meaning_of rows.ExtwlReg = operates ops.Extwl false
meaning_of rows.ExtwlLit = operates ops.Extwl true
meaning_of rows.InswlReg = operates ops.Inswl false
meaning_of rows.InswlLit = operates ops.Inswl true
meaning_of rows.MskllReg = operates ops.Mskll false
meaning_of rows.MskllLit = operates ops.Mskll true
meaning_of rows.ExtllReg = operates ops.Extll false
meaning_of rows.ExtllLit = operates ops.Extll true
meaning_of rows.InsllReg = operates ops.Insll false
meaning_of rows.InsllLit = operates ops.Insll true
meaning_of rows.ZapReg = operates ops.Zap false
meaning_of rows.ZapLit = operates ops.Zap true
meaning_of rows.ZapnotReg = operates ops.Zapnot false
meaning_of rows.ZapnotLit = operates ops.Zapnot true
meaning_of rows.MskqlReg = operates ops.Mskql false
meaning_of rows.MskqlLit = operates ops.Mskql true
meaning_of rows.ExtqlReg = operates ops.Extql false
meaning_of rows.ExtqlLit = operates ops.Extql true
meaning_of rows.InsqlReg = operates ops.Insql false
meaning_of rows.InsqlLit = operates ops.Insql true
meaning_of rows.MskwhReg = operates ops.Mskwh false
meaning_of rows.MskwhLit = operates ops.Mskwh true
meaning_of rows.InswhReg = operates ops.Inswh false
meaning_of rows.InswhLit = operates ops.Inswh true
meaning_of rows.ExtwhReg = operates ops.Extwh false
meaning_of rows.ExtwhLit = operates ops.Extwh true
meaning_of rows.MsklhReg = operates ops.Msklh false
meaning_of rows.MsklhLit = operates ops.Msklh true
meaning_of rows.InslhReg = operates ops.Inslh false
meaning_of rows.InslhLit = operates ops.Inslh true
meaning_of rows.ExtlhReg = operates ops.Extlh false
meaning_of rows.ExtlhLit = operates ops.Extlh true
meaning_of rows.MskqhReg = operates ops.Mskqh false
meaning_of rows.MskqhLit = operates ops.Mskqh true
meaning_of rows.InsqhReg = operates ops.Insqh false
meaning_of rows.InsqhLit = operates ops.Insqh true
meaning_of rows.ExtqhReg = operates ops.Extqh false
meaning_of rows.ExtqhLit = operates ops.Extqh true
meaning_of rows.CtpopReg = operates ops.Ctpop false
meaning_of rows.CtlzReg = operates ops.Ctlz false
meaning_of rows.CttzReg = operates ops.Cttz false

-- the second source of an operate row
abbrev pub source_in : Bool → Row → Src
source_in false s = Reg s.b
source_in true s = Lit s.imm

-- a word that goes on to the next one and changes nothing
abbrev pub IsIdle : Class → Type 0
IsIdle idle = Unit {0}
IsIdle (operate op ra src rc) = rc ≡ 31
IsIdle (address op ra rb disp) = ra ≡ 31
IsIdle class = ⊥

-- a branch at place k, of n words, whose target is this place, which may be the one behind the last word
pub record BranchesTo (condition : Option Cond) (ra target n k : ℕ) (class : Class) : Type 0 where
  pub disp : ℤ
  pub fits : FitsSigned w32 disp
  pub is : class ≡ branch condition ra disp
  pub there : pos target ≡ pos (k + 1) +ℤ disp
  pub within : target ≤ n

-- what a branch without a condition or with one is, by its register
abbrev pub branch_meaning : Option Cond → ℕ → RowMeaning
branch_meaning None ra = if ra == 31 then branches else links
branch_meaning (Some condition) ra = tests condition

-- what a row at place k, of n words, says of the instruction there
abbrev pub Denotes : RowMeaning → Row → ℕ → ℕ → Form → Type 0
Denotes leaves s n k i = Unit {0}
Denotes idles s n k i = IsIdle (class_of i)
Denotes (operates op literal) s n k i = i ≡ Operate op s.a (source_in literal s) s.c
Denotes (accesses op) s n k i = i ≡ Mem op s.a s.b (signed w16 s.imm)
Denotes (tests condition) s n k i = BranchesTo (Some condition) s.a s.imm n k (class_of i)
Denotes branches s n k i = BranchesTo None 31 s.imm n k (class_of i)
Denotes links s n k i = BranchesTo None s.a s.imm n k (class_of i)
Denotes jumps s n k i = class_of i ≡ jump s.a s.b

-- what an operate row leaves, none where it overflows
abbrev pub value_in : Level → RowMeaning → Row → List ℕ → Option ℕ
value_in level (operates op literal) s regs =
    outcome_of level op (reg regs s.a) (source_value regs (source_in literal s)) (reg regs s.c)
value_in level row s regs = None
