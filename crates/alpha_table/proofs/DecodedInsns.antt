-- The decoded instruction of a word is the one of the table.
use Rattle.std.proofs.Common.{◌≡◌, ◌≤◌, ◌≢◌, ◌<◌, ◌^◌, ℕ, pos, ◌+◌, ◌+ℤ◌, ◌-ℤ◌, ◌≤ℤ◌, ◌<ℤ◌, ltb, Bool, true, false}
use Rattle.std.proofs.Common.{Option, Some, None, List, [], ◌∷◌, ◌==◌, ◌&&◌, cond, eqb, find, ◌⊎◌, inl, inr, ⊎_elim}
use Rattle.std.proofs.Common.{refl, sym, ap, ◌∙◌, subst, arith}
use Rattle.std.specs.Prelude.{is_none, not, IfSome}
use Rattle.std.specs.Option.{option_map, option_or, unwrap_or, IfNone}
use Rattle.std.proofs.lemmas.Bool.{eq-eqb, eqb-true, eqb-false, ltb-true, ltb-false, and_parts}
use Rattle.std.proofs.lemmas.Int.{ints}
use Rattle.std.proofs.lemmas.Option.{option_and_then_some, cond_some}
use Rattle.alpha_words.specs.Field.{field}
use Rattle.alpha_words.specs.declared.PalCall.{PalCall}
use Rattle.alpha_table.specs.declared.op.Op.{Op}
use Rattle.alpha_table.specs.declared.op.OperandRule.{OperandRule}
use Rattle.alpha_table.specs.declared.op.OperandRule.TheVariants.{Any, Unary, UnaryRegister, Version}
use Rattle.alpha_table.specs.declared.rows.MemOp.{MemOp}
use Rattle.alpha_table.specs.declared.rows.BranchOp.{BranchOp}
use Rattle.alpha_table.specs.declared.rows.JumpKind.{JumpKind}
use Rattle.alpha_table.specs.declared.rows.MiscOp.{MiscOp}
use Rattle.alpha_table.specs.declared.form.Src.{Src}
use Rattle.alpha_table.specs.declared.form.Src.TheVariants.{Reg, Lit}
use Rattle.alpha_table.specs.declared.form.Form.{Form}
use Rattle.alpha_table.specs.declared.form.Form.TheVariants.{Mem, Branch, Jump, Operate, Misc, Fetch, Pal}
use Rattle.alpha_table.specs.Op.{op_row}
use Rattle.alpha_table.specs.Rows.{mem_row, branch_row, jump_kind, misc_row, fetch_function, pal_function}
use Rattle.alpha_table.specs.Row.{Row, SourceField, IsSource, IsRegister, OperandsFit, IsInsn}
use Rattle.alpha_table.specs.Decoded.{every_op, every_mem, every_branch, every_jump, every_misc, every_pal, operate_at}
use Rattle.alpha_table.specs.Decoded.{memory_at, branch_at, jump_at, fetch_at, pal_at, source_of, source_is}
use Rattle.alpha_table.specs.Decoded.{is_register, operands_fit, memory_form, branch_form, jump_form, operate_form}
use Rattle.alpha_table.specs.Decoded.{misc_form, fetch_form, pal_form, decoded}
use Rattle.alpha_table.specs.Insn.{source_in, form_in, form_row, Decodes, is_at, matches_row, is_free, is_operate}
use Rattle.alpha_table.specs.declared.rows.JumpKind.TheVariants as jumps
use Rattle.alpha_table.specs.declared.insn.InsnRow.{InsnRow}
use Rattle.alpha_table.specs.declared.insn.InsnRow.TheVariants as rows
use Prim.Native.Nat.{zero, suc}
use Rattle.alpha_table.proofs.Lookups.{operate_known, memory_known, branch_known, jump_known, misc_known, fetch_known}
use Rattle.alpha_table.proofs.Lookups.{pal_known, memory_at-branch, memory_at-operate, branch_at-operate, jump-operate}
use Rattle.alpha_table.proofs.Lookups.{is_operate-row, opcode-operate, opcode-memory, opcode-branch}

-- what is found passes the test
find-passes : {X : Type 0} (p : X → Bool) (xs : List X) (x : X) → find p xs ≡ Some x → p x ≡ true
find-passes p [] x h = cc
find-passes p (y ∷ ys) x h = cases (p y) refl h (find-passes p ys x)
  where
    cases : (b : Bool) → p y ≡ b → cond b (Some y) (find p ys) ≡ Some x → (find p ys ≡ Some x → p x ≡ true) → p x ≡ true
    cases true e h later = let same : y ≡ x = cc in subst (λ z. p z ≡ true) same e
    cases false e h later = later h

-- the row that is found has the number
found_by : {R : Type 0} (number : R → ℕ) (rows : List R) (n : ℕ) (r : R) → find (λ row. number row == n) rows ≡ Some r
    → number r ≡ n
found_by number rows n r h = eqb-true (number r) n (find-passes (λ row. number row == n) rows r h)

option_map_some : {A B : Type 0} (f : A → B) (o : Option A) (y : B) → option_map f o ≡ Some y
    → (x : A) × (o ≡ Some x) × (f x ≡ y)
option_map_some f None y h = cc
option_map_some f (Some x) y h = (x, refl, cc)

option_or_some : (a b : Option Form) (i : Form) → option_or a b ≡ Some i → (a ≡ Some i) ⊎ (b ≡ Some i)
option_or_some None b i h = inr h
option_or_some (Some j) b i h = inl h

-- a field of one bit that isn't 1 is 0
not_one : (w : ℕ) → (field 12 12 w ≡ 1 → ⊥) → field 12 12 w ≡ 0
not_one w h = omega arith

-- the second source of a word is the one that bit 12 tells
pub SourceField-source_in : (w : ℕ) (src : Src) → SourceField w src → source_in w ≡ src
SourceField-source_in w (Reg rb) h = rw (h.2, h.0) refl
SourceField-source_in w (Lit n) h = rw (h.1, h.0) refl

-- each format by itself

memory_form-row : (w : ℕ) (op : MemOp) (ra rb : ℕ) (disp : _) → Row w (Mem op ra rb disp)
    → memory_form w ≡ Some (Mem op ra rb disp)
unfolding memory_form
memory_form-row w op ra rb disp h = rw (h.0, (memory_known op).0, h.1, h.2, h.3) refl

branch_form-row : (w : ℕ) (op : BranchOp) (ra : ℕ) (disp : _) → Row w (Branch op ra disp)
    → branch_form w ≡ Some (Branch op ra disp)
unfolding branch_form
branch_form-row w op ra disp h = rw (h.0, (branch_known op).0, h.1, h.2) refl

jump_form-row : (w : ℕ) (kind : JumpKind) (ra rb hint : ℕ) → Row w (Jump kind ra rb hint)
    → jump_form w ≡ Some (Jump kind ra rb hint)
unfolding jump_form
jump_form-row w kind ra rb hint h = rw (h.0, h.3, (jump_known kind).0, h.1, h.2, h.4) refl

misc_form-row : (w : ℕ) (op : MiscOp) → Row w (Misc op) → misc_form w ≡ Some (Misc op)
unfolding misc_form
misc_form-row w op h = rw (h.0, h.1, h.2, h.3, (misc_known op).0) refl

fetch_form-row : (w : ℕ) (modify : Bool) (rb : ℕ) → Row w (Fetch modify rb) → fetch_form w ≡ Some (Fetch modify rb)
unfolding fetch_form
fetch_form-row w modify rb h = rw (h.0, h.1, h.3, h.2, (fetch_known modify).0) refl

pal_form-row : (w : ℕ) (call : PalCall) → Row w (Pal call) → pal_form w ≡ Some (Pal call)
unfolding pal_form
pal_form-row w call h = rw (h.0, h.1, (pal_known call).0) refl

source_of-field : (w : ℕ) (src : Src) → SourceField w src → source_of w ≡ Some src
unfolding source_of
source_of-field w (Reg rb) h = rw (h.2, h.1, h.0) refl
source_of-field w (Lit n) h = rw (h.1, h.0) refl

is_register-fits : (src : Src) → IsRegister src → is_register src ≡ true
is_register-fits (Reg r) h = refl
is_register-fits (Lit n) h = absurd h

operands_fit-fits : (rule : OperandRule) (ra : ℕ) (src : Src) → OperandsFit rule ra src
    → operands_fit rule ra src ≡ true
operands_fit-fits Any ra src h = refl
operands_fit-fits Unary ra src h = eq-eqb ra 31 h
operands_fit-fits UnaryRegister ra src h = rw (h.0, is_register-fits src h.1) refl
operands_fit-fits Version ra src h = rw (h.0, h.1) refl

operate_form-row : (w : ℕ) (op : Op) (ra : ℕ) (src : Src) (rc : ℕ) → Row w (Operate op ra src rc)
    → operate_form w ≡ Some (Operate op ra src rc)
unfolding operate_form
operate_form-row w op ra src rc h =
    rw (
      h.0,
      h.1,
      (operate_known op).0,
      source_of-field w src h.3,
      h.2,
      operands_fit-fits (op_row op).operands ra src h.5,
      h.4,
    ) refl

-- a word of one format has no row of an earlier one

memory_form-none : (w opcode : ℕ) → field 31 26 w ≡ opcode → memory_at opcode ≡ None → memory_form w ≡ None
unfolding memory_form
memory_form-none w opcode e none = rw (e, none) refl

branch_form-none : (w opcode : ℕ) → field 31 26 w ≡ opcode → branch_at opcode ≡ None → branch_form w ≡ None
unfolding branch_form
branch_form-none w opcode e none = rw (e, none) refl

jump_form-none : (w opcode : ℕ) → field 31 26 w ≡ opcode → eqb opcode 0x1a ≡ false → jump_form w ≡ None
unfolding jump_form
jump_form-none w opcode e other = rw (e, other) refl

operate_form-none : (w opcode : ℕ) → field 31 26 w ≡ opcode → ((function : ℕ) → operate_at opcode function ≡ None)
    → operate_form w ≡ None
unfolding operate_form
operate_form-none w opcode e none = rw (e, none (field 11 5 w)) refl

misc_form-none : (w opcode : ℕ) → field 31 26 w ≡ opcode → eqb opcode 0x18 ≡ false → misc_form w ≡ None
unfolding misc_form
misc_form-none w opcode e other = rw (e, other) refl

fetch_form-none : (w opcode : ℕ) → field 31 26 w ≡ opcode → eqb opcode 0x18 ≡ false → fetch_form w ≡ None
unfolding fetch_form
fetch_form-none w opcode e other = rw (e, other) refl

cond_same : {A : Type 0} (b : Bool) (x : A) → cond b x x ≡ x
cond_same true x = refl
cond_same false x = refl

misc_form-fetch : (w : ℕ) (modify : Bool) (rb : ℕ) → Row w (Fetch modify rb) → misc_form w ≡ None
unfolding misc_form
misc_form-fetch w false rb h =
    rw h.3 (cond_same (field 31 26 w == 0x18 && (field 25 21 w == 31 && field 20 16 w == 31)) None)
misc_form-fetch w true rb h =
    rw h.3 (cond_same (field 31 26 w == 0x18 && (field 25 21 w == 31 && field 20 16 w == 31)) None)

pub decoded-Row : (w : ℕ) (i : Form) → Row w i → decoded w ≡ Some i
unfolding decoded
decoded-Row w (Mem op ra rb disp) h = rw (memory_form-row w op ra rb disp h) refl
decoded-Row w (Branch op ra disp) h =
    rw (memory_form-none w ((branch_row op).opcode) h.0 (memory_at-branch op), branch_form-row w op ra disp h) refl
decoded-Row w (Jump kind ra rb hint) h =
    rw (memory_form-none w 0x1a h.0 refl, branch_form-none w 0x1a h.0 refl, jump_form-row w kind ra rb hint h) refl
decoded-Row w (Operate op ra src rc) h =
    rw (
      memory_form-none w (op_row op).opcode h.0 (memory_at-operate op),
      branch_form-none w (op_row op).opcode h.0 (branch_at-operate op),
      jump_form-none w (op_row op).opcode h.0 (jump-operate op),
      operate_form-row w op ra src rc h,
    ) refl
decoded-Row w (Misc op) h =
    rw (
      memory_form-none w 0x18 h.0 refl,
      branch_form-none w 0x18 h.0 refl,
      jump_form-none w 0x18 h.0 refl,
      operate_form-none w 0x18 h.0 (λ _. refl),
      misc_form-row w op h,
    ) refl
decoded-Row w (Fetch modify rb) h =
    rw (
      memory_form-none w 0x18 h.0 refl,
      branch_form-none w 0x18 h.0 refl,
      jump_form-none w 0x18 h.0 refl,
      operate_form-none w 0x18 h.0 (λ _. refl),
      misc_form-fetch w modify rb h,
      fetch_form-row w modify rb h,
    ) refl
decoded-Row w (Pal call) h =
    rw (
      memory_form-none w 0 h.0 refl,
      branch_form-none w 0 h.0 refl,
      jump_form-none w 0 h.0 refl,
      operate_form-none w 0 h.0 (λ _. refl),
      misc_form-none w 0 h.0 refl,
      fetch_form-none w 0 h.0 refl,
      pal_form-row w call h,
    ) refl

-- the other way: what is decoded has the row

-- a choice that gives something took the first way
cond_none : {A : Type 0} (b : Bool) (o : Option A) (x : A) → cond b o None ≡ Some x → (b ≡ true) × (o ≡ Some x)
cond_none true o x h = (refl, h)
cond_none false o x h = cc

memory_form-is : (w : ℕ) (i : Form) → memory_form w ≡ Some i → Row w i
unfolding memory_form
memory_form-is w i h =
    let m = option_map_some _ _ i h in
    let e = found_by (λ op. (mem_row op).opcode) every_mem (field 31 26 w) m.0 m.1 in
    subst (Row w) m.2 (sym e, refl, refl, refl)

branch_form-is : (w : ℕ) (i : Form) → branch_form w ≡ Some i → Row w i
unfolding branch_form
branch_form-is w i h =
    let m = option_map_some _ _ i h in
    let e = found_by (λ op. (branch_row op).opcode) every_branch (field 31 26 w) m.0 m.1 in
    subst (Row w) m.2 (sym e, refl, refl)

jump_form-is : (w : ℕ) (i : Form) → jump_form w ≡ Some i → Row w i
unfolding jump_form
jump_form-is w i h =
    let c = cond_none _ _ i h in
    let m = option_map_some (λ kind. Jump kind (field 25 21 w) (field 20 16 w) (field 13 0 w))
    (jump_at (field 15 14 w)) i c.1 in
    let e = found_by jump_kind every_jump (field 15 14 w) m.0 m.1 in
    subst (Row w) m.2 (eqb-true (field 31 26 w) 0x1a c.0, refl, refl, sym e, refl)

misc_form-is : (w : ℕ) (i : Form) → misc_form w ≡ Some i → Row w i
unfolding misc_form
misc_form-is w i h =
    let c = cond_none _ _ i h in
    let m = option_map_some _ _ i c.1 in
    let e = found_by (λ op. (misc_row op).function) every_misc (field 15 0 w) m.0 m.1 in
    let b = and_parts (field 31 26 w == 0x18) (field 25 21 w == 31 && field 20 16 w == 31) c.0 in
    let r = and_parts (field 25 21 w == 31) (field 20 16 w == 31) b.1 in
    subst (Row w) m.2
    (eqb-true (field 31 26 w) 0x18 b.0, eqb-true (field 25 21 w) 31 r.0, eqb-true (field 20 16 w) 31 r.1, sym e)

fetch_form-is : (w : ℕ) (i : Form) → fetch_form w ≡ Some i → Row w i
unfolding fetch_form
fetch_form-is w i h =
    let c = cond_none _ _ i h in
    let m = option_map_some (λ modify. Fetch modify (field 20 16 w)) (fetch_at (field 15 0 w)) i c.1 in
    let e = found_by fetch_function (false ∷ true ∷ []) (field 15 0 w) m.0 m.1 in
    let b = and_parts (field 31 26 w == 0x18) (field 25 21 w == 31) c.0 in
    subst (Row w) m.2 (eqb-true (field 31 26 w) 0x18 b.0, eqb-true (field 25 21 w) 31 b.1, refl, sym e)

pal_form-is : (w : ℕ) (i : Form) → pal_form w ≡ Some i → Row w i
unfolding pal_form
pal_form-is w i h =
    let c = cond_none _ _ i h in
    let m = option_map_some Pal (pal_at (field 25 0 w)) i c.1 in
    let e = found_by pal_function every_pal (field 25 0 w) m.0 m.1 in
    subst (Row w) m.2 (eqb-true (field 31 26 w) 0 c.0, sym e)

source_of-is : (w : ℕ) (src : Src) → source_of w ≡ Some src → SourceField w src
unfolding source_of
source_of-is w src h = cases (field 12 12 w == 1) (field 15 13 w == 0) refl refl h
  where
    cases : (p q : Bool) → (field 12 12 w == 1) ≡ p → (field 15 13 w == 0) ≡ q
        → cond p (Some (Lit (field 20 13 w))) (cond q (Some (Reg (field 20 16 w))) None) ≡ Some src → SourceField w src
    cases true q e f h = let m : Lit (field 20 13 w) ≡ src = cc in subst (SourceField w) m (refl, eqb-true _ _ e)
    cases false true e f h =
        let m : Reg (field 20 16 w) ≡ src = cc in
        subst (SourceField w) m (refl, eqb-true _ _ f, not_one w (eqb-false _ _ e))
    cases false false e f h = cc

source_is-same : (src : Src) (n : ℕ) → source_is src n ≡ true → src ≡ Lit n
source_is-same (Reg r) n h = cc
source_is-same (Lit m) n h = ap Lit (eqb-true m n h)

is_register-is : (src : Src) → is_register src ≡ true → IsRegister src
is_register-is (Reg r) h = tt
is_register-is (Lit n) h = cc

operands_fit-is : (rule : OperandRule) (ra : ℕ) (src : Src) → operands_fit rule ra src ≡ true → OperandsFit rule ra src
operands_fit-is Any ra src h = tt
operands_fit-is Unary ra src h = eqb-true ra 31 h
operands_fit-is UnaryRegister ra src h =
    let b = and_parts (ra == 31) (is_register src) h in
    (eqb-true ra 31 b.0, is_register-is src b.1)
operands_fit-is Version ra src h =
    let b = and_parts (ra == 31) (source_is src 1) h in
    (eqb-true ra 31 b.0, source_is-same src 1 b.1)

found_operate : (opcode function : ℕ) (op : Op) → operate_at opcode function ≡ Some op
    → ((op_row op).opcode ≡ opcode) × ((op_row op).function ≡ function)
found_operate opcode function op h =
    let passes =
    find-passes (λ row. (op_row row).opcode == opcode && (op_row row).function == function) every_op op h in
    let b = and_parts ((op_row op).opcode == opcode) ((op_row op).function == function) passes in
    (eqb-true (op_row op).opcode opcode b.0, eqb-true (op_row op).function function b.1)

operate_form-is : (w : ℕ) (i : Form) → operate_form w ≡ Some i → Row w i
unfolding operate_form
operate_form-is w i h =
    option_and_then_some _ _ i h (λ op found inner.
    option_and_then_some _ _ i inner (λ src taken last.
    let c = cond_some (operands_fit (op_row op).operands (field 25 21 w) src)
    (Operate op (field 25 21 w) src (field 4 0 w)) i last in
    let e = found_operate (field 31 26 w) (field 11 5 w) op found in
    subst (Row w) c.1 (
      sym e.0,
      sym e.1,
      refl,
      source_of-is w src taken,
      refl,
      operands_fit-is (op_row op).operands (field 25 21 w) src c.0,
    )))

pub Row-decoded : (w : ℕ) (i : Form) → decoded w ≡ Some i → Row w i
unfolding decoded
Row-decoded w i h =
    ⊎_elim (memory_form-is w i) (λ h.
    ⊎_elim (branch_form-is w i) (λ h.
    ⊎_elim (jump_form-is w i) (λ h.
    ⊎_elim (operate_form-is w i) (λ h.
    ⊎_elim (misc_form-is w i) (λ h.
    ⊎_elim (fetch_form-is w i) (pal_form-is w i)
    (option_or_some _ _ i h)) (option_or_some _ _ i h)) (option_or_some _ _ i h)) (option_or_some _ _ i h))
    (option_or_some _ _ i h)) (option_or_some _ _ i h)

-- a word has one instruction at most
pub Row-deterministic : (w : ℕ) (i j : Form) → Row w i → Row w j → i ≡ j
Row-deterministic w i j h g = let e = decoded-Row w i h in let f = decoded-Row w j g in cc

pub decoded_none : (w : ℕ) → ((i : Form) → Row w i → ⊥) → decoded w ≡ None
decoded_none w none = cases (decoded w) refl
  where
    cases : (o : Option Form) → decoded w ≡ o → decoded w ≡ None
    cases None e = e
    cases (Some i) e = absurd (none i (Row-decoded w i e))

-- what is the word's instruction, or nothing where it has none, is what is decoded
pub decoded-is_Row : (w : ℕ) (o : Option Form) → IfSome o (Row w) → IfNone o ((i : Form) → Row w i → ⊥) → o ≡ decoded w
decoded-is_Row w (Some i) row none = sym (decoded-Row w i row)
decoded-is_Row w None row none = sym (decoded_none w none)

-- a number below the full range is known by the signed number of its digits
same_signed : (half full f g : ℕ) → f < full → g < full
    → cond (ltb f half) (pos f) (pos f -ℤ pos full) ≡ cond (ltb g half) (pos g) (pos g -ℤ pos full) → f ≡ g
same_signed half full f g a b h = cases (ltb f half) (ltb g half) h
  where
    cases : (p q : Bool) → cond p (pos f) (pos f -ℤ pos full) ≡ cond q (pos g) (pos g -ℤ pos full) → f ≡ g
    cases true true h = omega (arith, ints)
    cases true false h = absurd (omega (arith, ints))
    cases false true h = absurd (omega (arith, ints))
    cases false false h = omega (arith, ints)

-- an instruction has one word
pub Row-injective : (v w : ℕ) (i : Form) → v < 2 ^ 32 → w < 2 ^ 32 → Row v i → Row w i → v ≡ w
Row-injective v w (Mem op ra rb disp) a b h g =
    let d = same_signed (2 ^ 15) (2 ^ 16) (field 15 0 v) (field 15 0 w) (omega arith) (omega arith) (h.3 ∙ sym g.3) in
    omega arith
Row-injective v w (Branch op ra disp) a b h g =
    let d = same_signed (2 ^ 20) (2 ^ 21) (field 20 0 v) (field 20 0 w) (omega arith) (omega arith) (h.2 ∙ sym g.2) in
    omega arith
Row-injective v w (Operate op ra (Reg rb) rc) a b h g = omega arith
Row-injective v w i a b h g = omega arith

signed_range : (half full f : ℕ) → half + half ≡ full → f < full
    → (pos 0 ≤ℤ (cond (ltb f half) (pos f) (pos f -ℤ pos full) +ℤ pos half))
    × (cond (ltb f half) (pos f) (pos f -ℤ pos full) <ℤ pos half)
signed_range half full f twice h = cases (ltb f half) refl
  where
    cases : (b : Bool) → ltb f half ≡ b
        → (pos 0 ≤ℤ (cond b (pos f) (pos f -ℤ pos full) +ℤ pos half)) × (cond b (pos f) (pos f -ℤ pos full) <ℤ pos half)
    cases true e = let below = ltb-true _ _ e in (omega (arith, ints), omega (arith, ints))
    cases false e = let above = ltb-false _ _ e in (omega (arith, ints), omega (arith, ints))

IsSource-field : (w : ℕ) (src : Src) → SourceField w src → IsSource src
IsSource-field w (Reg rb) h = omega arith
IsSource-field w (Lit n) h = omega arith

-- a word's instruction has each field within its row
pub IsInsn-Row : (w : ℕ) (i : Form) → Row w i → IsInsn i
IsInsn-Row w (Mem op ra rb disp) h =
    (omega arith, omega arith, rw (← h.3) (signed_range (2 ^ 15) (2 ^ 16) (field 15 0 w) refl (omega arith)))
IsInsn-Row w (Branch op ra disp) h =
    (omega arith, rw (← h.2) (signed_range (2 ^ 20) (2 ^ 21) (field 20 0 w) refl (omega arith)))
IsInsn-Row w (Jump kind ra rb hint) h = (omega arith, omega arith, omega arith)
IsInsn-Row w (Operate op ra src rc) h = (omega arith, IsSource-field w src h.3, omega arith, h.5)
IsInsn-Row w (Misc op) h = tt
IsInsn-Row w (Fetch modify rb) h = omega arith
IsInsn-Row w (Pal call) h = tt

-- a word of one format's opcodes stands for no instruction of another

pub only_operate : (w : ℕ) → (0x10 ≤ field 31 26 w) × (field 31 26 w ≤ 0x1c) → (field 31 26 w ≢ 0x18)
    → (field 31 26 w ≢ 0x1a) → ((op : Op) (ra : ℕ) (src : Src) (rc : ℕ) → Row w (Operate op ra src rc) → ⊥) → (i : Form)
    → Row w i → ⊥
only_operate w e no_misc no_jump none (Mem op ra rb disp) h = let o = opcode-memory op in omega arith
only_operate w e no_misc no_jump none (Branch op ra disp) h = let o = opcode-branch op in omega arith
only_operate w e no_misc no_jump none (Jump kind ra rb hint) h = no_jump h.0
only_operate w e no_misc no_jump none (Operate op ra src rc) h = none op ra src rc h
only_operate w e no_misc no_jump none (Misc op) h = no_misc h.0
only_operate w e no_misc no_jump none (Fetch modify rb) h = no_misc h.0
only_operate w e no_misc no_jump none (Pal call) h = omega arith

-- each number of two bits is a kind
pub jump_kind-jump_at : (n : ℕ) → n < 4 → n ≡ jump_kind (unwrap_or (jump_at n) jumps.Jmp)
jump_kind-jump_at zero h = refl
jump_kind-jump_at (suc zero) h = refl
jump_kind-jump_at (suc (suc zero)) h = refl
jump_kind-jump_at (suc (suc (suc zero))) h = refl
jump_kind-jump_at (suc (suc (suc (suc n)))) h = absurd (omega arith)

-- what follows where there is nothing
pub IfNone-weaker : {A : Type 0} {P Q : Type 0} (o : Option A) → (P → Q) → IfNone o P → IfNone o Q
IfNone-weaker None f h = f h
IfNone-weaker (Some x) f h = tt

-- an operate word whose operands its row refuses
operate_of : (o f : ℕ) (op : Op) → o ≡ (op_row op).opcode → f ≡ (op_row op).function → operate_at o f ≡ Some op
operate_of o f op a b = rw (a, b) ((operate_known op).0)

-- an operate word whose operands its row refuses
pub Row-operate_refused : (w : ℕ) (op : Op) → is_at (field 31 26 w) (field 11 5 w) op ≡ true
    → (SourceField w (source_in w) × OperandsFit (op_row op).operands (field 25 21 w) (source_in w) → ⊥) → (i : Form)
    → Row w i → ⊥
Row-operate_refused w op row refused =
    let e = and_parts ((op_row op).opcode == field 31 26 w) ((op_row op).function == field 11 5 w) row in
    let opcode : (op_row op).opcode ≡ field 31 26 w = eqb-true _ _ e.0 in
    let function : (op_row op).function ≡ field 11 5 w = eqb-true _ _ e.1 in
    let range = opcode-operate op in
    only_operate w (omega arith, omega arith) (λ f. omega arith) (λ f. omega arith)
    (λ other ra src rc h. taken opcode function other ra src rc h)
  where
    taken : (op_row op).opcode ≡ field 31 26 w → (op_row op).function ≡ field 11 5 w
        → (other : Op) (ra : ℕ) (src : Src) (rc : ℕ) → Row w (Operate other ra src rc) → ⊥
    taken opcode function other ra src rc h =
        let a = operate_of (field 31 26 w) (field 11 5 w) op (sym opcode) (sym function) in
        let b = operate_of (field 31 26 w) (field 11 5 w) other h.0 h.1 in
        let same : other ≡ op = cc in
        let alike : src ≡ source_in w = sym (SourceField-source_in w src h.3) in
        refused (
          subst (SourceField w) alike h.3,
          subst (λ o. OperandsFit (op_row o).operands (field 25 21 w) (source_in w)) same
              (subst (λ s. OperandsFit (op_row other).operands (field 25 21 w) s) alike
              (subst (λ r. OperandsFit (op_row other).operands r src) (sym h.2) h.5)),
        )

-- operands fit by what they are
pub OperandsFit-equal : (a b : OperandRule) (r n : ℕ) (x y : Src) → a ≡ b → r ≡ n → x ≡ y → OperandsFit a r x
    → OperandsFit b n y
OperandsFit-equal a b r n x y e f g h =
    subst (λ k. OperandsFit k n y) e (subst (λ m. OperandsFit a m y) f (subst (λ z. OperandsFit a r z) g h))

-- an operate word with a second source, and operands that its row takes
pub Decodes-operate : (w : ℕ) (op : Op) → is_at (field 31 26 w) (field 11 5 w) op ≡ true → SourceField w (source_in w)
    → OperandsFit (op_row op).operands (field 25 21 w) (source_in w) → Decodes (rows.Operate op) w
Decodes-operate w op h src fit =
    let e = and_parts ((op_row op).opcode == field 31 26 w) ((op_row op).function == field 11 5 w) h in
    (refl, (sym (eqb-true _ _ e.0), sym (eqb-true _ _ e.1), refl, src, refl, fit))

-- whether an operate word has a second source
pub literal_source : (w : ℕ) → field 12 12 w ≡ 1 → SourceField w (source_in w)
literal_source w h =
    let e : source_in w ≡ Lit (field 20 13 w) = rw h refl in
    subst (SourceField w) (sym e) (refl, h)

pub register_source : (w : ℕ) → (field 12 12 w ≡ 1 → ⊥)
    → (SourceField w (source_in w) → field 15 13 w ≡ 0) × (field 15 13 w ≡ 0 → SourceField w (source_in w))
register_source w h =
    let zero : field 12 12 w ≡ 0 = not_one w h in
    let e : source_in w ≡ Reg (field 20 16 w) = rw zero refl in (
      λ s. let t : SourceField w (Reg (field 20 16 w)) = subst (SourceField w) e s in t.1,
      λ z. subst (SourceField w) (sym e) (refl, z, zero),
    )

-- opcode and function alone tell the row
abbrev pub is_told : InsnRow → Bool
is_told (rows.Mem op) = true
is_told (rows.Branch op) = true
is_told rows.Jump = true
is_told (rows.Misc op) = true
is_told (rows.Fetch modify) = true
is_told (rows.Pal call) = true
is_told (rows.Operate op) = false
is_told (rows.Ruled op) = false
is_told rows.Other = false

-- a row that opcode and function tell
pub Decodes-matching_row : (w : ℕ) (row : InsnRow) → matches_row (field 31 26 w) (field 11 5 w) row ≡ true
    → is_told row ≡ true
    → Decodes row w
Decodes-matching_row w (rows.Mem op) h told = (refl, (sym (eqb-true _ _ h), refl, refl, refl))
Decodes-matching_row w (rows.Branch op) h told = (refl, (sym (eqb-true _ _ h), refl, refl))
Decodes-matching_row w rows.Jump h told =
    let kind = jump_kind-jump_at (field 15 14 w) (omega arith) in
    (refl, (eqb-true _ _ h, refl, refl, kind, refl))
Decodes-matching_row w (rows.Misc op) h told = cc
Decodes-matching_row w row h told = cc

-- no word has the row of those that have none
pub Decodes-other_none : (w : ℕ) (row : InsnRow) → Decodes row w → row ≡ rows.Other → (i : Form) → Row w i → ⊥
Decodes-other_none w row h e i has =
    let same : form_row (form_in rows.Other w) ≡ rows.Other = (subst (λ k. Decodes k w) e h).0 in
    cc

not_both : (b : Bool) → not b ≡ true → b ≡ true → ⊥
not_both true h e = cc
not_both false h e = cc

none_found : {A : Type 0} (o : Option A) (x : A) → is_none o ≡ true → o ≡ Some x → ⊥
none_found None x h e = cc
none_found (Some y) x h e = cc

-- a word that no row has, and whose opcode no format has
pub Row-no_format : (w : ℕ) → matches_row (field 31 26 w) (field 11 5 w) rows.Other ≡ true → field 31 26 w ≢ 0
    → field 31 26 w ≢ 0x18 → (i : Form) → Row w i → ⊥
Row-no_format w h pal misc i row = cases a.0 b.0 c.0 c.1 i row
  where
    o : ℕ
    o = field 31 26 w

    free : Bool
    free = is_free (is_operate o) o (field 11 5 w)

    a : (is_none (memory_at o) ≡ true) × ((is_none (branch_at o) && (not (o == 0x1a) && free)) ≡ true)
    a = and_parts (is_none (memory_at o)) (is_none (branch_at o) && (not (o == 0x1a) && free)) h

    b : (is_none (branch_at o) ≡ true) × ((not (o == 0x1a) && free) ≡ true)
    b = and_parts (is_none (branch_at o)) (not (o == 0x1a) && free) a.1

    c : (not (o == 0x1a) ≡ true) × (free ≡ true)
    c = and_parts (not (o == 0x1a)) free b.1

    cases : is_none (memory_at o) ≡ true → is_none (branch_at o) ≡ true → not (o == 0x1a) ≡ true → free ≡ true
        → (i : Form) → Row w i → ⊥
    cases memory branch jump operate (Mem op ra rb disp) g =
        none_found (memory_at o) op memory (subst (λ n. memory_at n ≡ Some op) (sym g.0) (memory_known op).0)
    cases memory branch jump operate (Branch op ra disp) g =
        none_found (branch_at o) op branch (subst (λ n. branch_at n ≡ Some op) (sym g.0) (branch_known op).0)
    cases memory branch jump operate (Jump kind ra rb hint) g = not_both (o == 0x1a) jump (eq-eqb o 0x1a g.0)
    cases memory branch jump operate (Operate op ra src rc) g =
        let t : is_operate o ≡ true = subst (λ n. is_operate n ≡ true) (sym g.0) (is_operate-row op) in
        none_found (operate_at o (field 11 5 w)) op (subst (λ k. is_free k o (field 11 5 w) ≡ true) t operate)
        (operate_of o (field 11 5 w) op g.0 g.1)
    cases memory branch jump operate (Misc op) g = misc g.0
    cases memory branch jump operate (Fetch modify rb) g = misc g.0
    cases memory branch jump operate (Pal call) g = pal g.0

pub ruleset decoding = (decoded-Row, decoded_none, IsInsn-Row)
