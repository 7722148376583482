-- The class of a word by the tables is that of the instruction which the look-ups in the rows find.
use Rattle.std.proofs.Common.{◌≡◌, ℕ, ℤ, ◌<◌, suc, zero, Bool, true, false, ◌==◌, ◌&&◌, cond, Option, Some, None, List}
use Rattle.std.proofs.Common.{[], ◌∷◌, map, find, refl, sym, ap, ◌∙◌, subst, arith}
use Rattle.std.specs.Prelude.{if◌then◌else◌, slice_get}
use Rattle.std.specs.Option.{option_map, option_and_then, option_or}
use Rattle.std.proofs.lemmas.Bool.{eqb-true}
use Rattle.alpha_words.specs.Field.{field, signed_field}
use Rattle.alpha_words.specs.declared.PalCall.{PalCall}
use Rattle.alpha_table.specs.declared.op.Op.{Op}
use Rattle.alpha_table.specs.declared.op.Op.TheVariants as ops
use Rattle.alpha_table.specs.declared.rows.MemOp.{MemOp}
use Rattle.alpha_table.specs.declared.rows.BranchOp.{BranchOp}
use Rattle.alpha_table.specs.declared.rows.MiscOp.{MiscOp}
use Rattle.alpha_table.specs.declared.form.Src.{Src}
use Rattle.alpha_table.specs.declared.form.Src.TheVariants.{Reg, Lit}
use Rattle.alpha_table.specs.declared.form.Form.{Form}
use Rattle.alpha_table.specs.declared.form.Form.TheVariants.{Mem, Branch, Jump, Operate, Misc, Fetch, Pal}
use Rattle.alpha_table.specs.Op.{op_row}
use Rattle.alpha_table.specs.Rows.{mem_row, branch_row, misc_row, fetch_function, pal_function}
use Rattle.alpha_table.specs.Class.{Class, branch, jump, barrier}
use Rattle.alpha_table.specs.ClassOf.{class_of}
use Rattle.alpha_table.specs.Words.{row_under, operate_tables, barrier_table, prefetch_table, call_table, source_in}
use Rattle.alpha_table.specs.Words.{sources_fit, operating, memory_in, branch_in, jump_in, operate_in, misc_in}
use Rattle.alpha_table.specs.Words.{fetch_in, pal_in, class_in}
use Rattle.alpha_table.specs.Code.{class_at}
use Rattle.alpha_table.specs.Decoded.{decoded, memory_at, branch_at, jump_at, operate_at, misc_at, fetch_at, pal_at}
use Rattle.alpha_table.specs.Decoded.{every_op, every_mem, every_branch, every_misc, every_pal, memory_form}
use Rattle.alpha_table.specs.Decoded.{branch_form, jump_form, operate_form, misc_form, fetch_form, pal_form, source_of}
use Rattle.alpha_table.specs.Decoded.{operands_fit}

-- ---- a table by its numbers, and a look at each row

cond_map : {T X : Type 0} (value : T → X) (b : Bool) (x : T) (o : Option T) (m : Option X) → m ≡ option_map value o
    → cond b (Some (value x)) m ≡ option_map value (cond b (Some x) o)
cond_map value true x o m e = refl
cond_map value false x o m e = e

row_under-find : {T X : Type 0} (key : T → ℕ) (value : T → X) (n : ℕ) (rows : List T)
    → row_under n (map (λ x. (key x, value x)) rows) ≡ option_map value (find (λ x. key x == n) rows)
row_under-find key value n [] = refl
row_under-find key value n (x ∷ xs) =
    cond_map value (key x == n) x (find (λ y. key y == n) xs) (row_under n (map (λ y. (key y, value y)) xs))
    (row_under-find key value n xs)

-- ---- memory instructions, branches and jumps

memory_twice : (ra rb : ℕ) (disp : ℤ) (o : Option MemOp)
    → option_map (λ op. class_of (Mem op ra rb disp)) o ≡ option_map class_of (option_map (λ op. Mem op ra rb disp) o)
memory_twice ra rb disp None = refl
memory_twice ra rb disp (Some op) = refl

memory_same : (w : ℕ) → memory_in w ≡ option_map class_of (memory_form w)
unfolding memory_form
memory_same w =
    row_under-find (λ op. (mem_row op).opcode)
    (λ op. class_of (Mem op (field 25 21 w) (field 20 16 w) (signed_field 15 0 w))) (field 31 26 w) every_mem
    ∙ memory_twice (field 25 21 w) (field 20 16 w) (signed_field 15 0 w) (memory_at (field 31 26 w))

branch_twice : (ra : ℕ) (disp : ℤ) (o : Option BranchOp)
    → option_map (λ condition. branch condition ra disp) (option_map (λ op. (branch_row op).condition) o)
    ≡ option_map class_of (option_map (λ op. Branch op ra disp) o)
branch_twice ra disp None = refl
branch_twice ra disp (Some op) = refl

branch_same : (w : ℕ) → branch_in w ≡ option_map class_of (branch_form w)
unfolding branch_form
branch_same w =
    ap (option_map (λ condition. branch condition (field 25 21 w) (signed_field 20 0 w)))
    (row_under-find (λ op. (branch_row op).opcode) (λ op. (branch_row op).condition) (field 31 26 w) every_branch)
    ∙ branch_twice (field 25 21 w) (signed_field 20 0 w) (branch_at (field 31 26 w))

jump_class : (ra rb hint k : ℕ) → k < 4
    → Some (jump ra rb) ≡ option_map class_of (option_map (λ kind. Jump kind ra rb hint) (jump_at k))
jump_class ra rb hint zero h = refl
jump_class ra rb hint (suc zero) h = refl
jump_class ra rb hint (suc (suc zero)) h = refl
jump_class ra rb hint (suc (suc (suc zero))) h = refl
jump_class ra rb hint (suc (suc (suc (suc k)))) h = absurd (omega arith)

cond_class : (b : Bool) (x : Option Class) (y : Option Form) → x ≡ option_map class_of y
    → cond b x None ≡ option_map class_of (cond b y None)
cond_class true x y e = e
cond_class false x y e = refl

jump_same : (w : ℕ) → jump_in w ≡ option_map class_of (jump_form w)
unfolding jump_form
jump_same w =
    cond_class (field 31 26 w == 0x1a) (Some (jump (field 25 21 w) (field 20 16 w)))
    (option_map (λ kind. Jump kind (field 25 21 w) (field 20 16 w) (field 13 0 w)) (jump_at (field 15 14 w)))
    (jump_class (field 25 21 w) (field 20 16 w) (field 13 0 w) (field 15 14 w) (omega arith))

-- ---- operate instructions

choice_by_opcode : Bool → Bool → Bool → Bool → Bool → ℕ → Bool
choice_by_opcode a b c d e n = cond (n == 0x10) a (cond (n == 0x11) b (cond (n == 0x12) c (cond (n == 0x13) d e)))

op_by_choices : Bool → Bool → Bool → Bool → Bool → ℕ → Option Op
op_by_choices a b c d e f =
    find (λ op. choice_by_opcode a b c d e (op_row op).opcode && (op_row op).function == f) every_op

operate_at-op_by_choices : (o f : ℕ)
    → operate_at o f ≡ op_by_choices (0x10 == o) (0x11 == o) (0x12 == o) (0x13 == o) (0x1c == o) f
unfolding op_by_choices choice_by_opcode
operate_at-op_by_choices o f = refl

picked_none : (a b c d e : Bool) (f : ℕ) → a ≡ false → b ≡ false → c ≡ false → d ≡ false → e ≡ false
    → op_by_choices a b c d e f ≡ None
unfolding op_by_choices choice_by_opcode
picked_none false false false false false f ha hb hc hd he = refl
picked_none true b c d e f ha hb hc hd he = cc
picked_none false true c d e f ha hb hc hd he = cc
picked_none false false true d e f ha hb hc hd he = cc
picked_none false false false true e f ha hb hc hd he = cc
picked_none false false false false true f ha hb hc hd he = cc

nested_none : (o : ℕ) → (0x10 == o) ≡ false → (0x11 == o) ≡ false → (0x12 == o) ≡ false → (0x13 == o) ≡ false
    → (0x1c == o) ≡ false → row_under o operate_tables ≡ None
nested_none o ha hb hc hd he = rw (ha, hb, hc, hd, he) refl

IsFound : ℕ → ℕ → Type 0
IsFound f o = option_and_then (row_under f) (row_under o operate_tables) ≡ operate_at o f

row_under-operate_at : (o f : ℕ) → option_and_then (row_under f) (row_under o operate_tables) ≡ operate_at o f
unfolding IsFound
row_under-operate_at o f = by0 (0x10 == o) refl
  where
    by4 : (b : Bool) → (0x1c == o) ≡ b → (0x10 == o) ≡ false → (0x11 == o) ≡ false → (0x12 == o) ≡ false
        → (0x13 == o) ≡ false
        → option_and_then (row_under f) (row_under o operate_tables) ≡ operate_at o f
    by4 true e ha hb hc hd = subst (IsFound f) (eqb-true 0x1c o e) refl
    by4 false e ha hb hc hd =
        ap (option_and_then (row_under f)) (nested_none o ha hb hc hd e)
        ∙ sym (operate_at-op_by_choices o f
        ∙ picked_none (0x10 == o) (0x11 == o) (0x12 == o) (0x13 == o) (0x1c == o) f ha hb hc hd e)

    by3 : (b : Bool) → (0x13 == o) ≡ b → (0x10 == o) ≡ false → (0x11 == o) ≡ false → (0x12 == o) ≡ false
        → option_and_then (row_under f) (row_under o operate_tables) ≡ operate_at o f
    by3 true e ha hb hc = subst (IsFound f) (eqb-true 0x13 o e) refl
    by3 false e ha hb hc = by4 (0x1c == o) refl ha hb hc e

    by2 : (b : Bool) → (0x12 == o) ≡ b → (0x10 == o) ≡ false → (0x11 == o) ≡ false
        → option_and_then (row_under f) (row_under o operate_tables) ≡ operate_at o f
    by2 true e ha hb = subst (IsFound f) (eqb-true 0x12 o e) refl
    by2 false e ha hb = by3 (0x13 == o) refl ha hb e

    by1 : (b : Bool) → (0x11 == o) ≡ b → (0x10 == o) ≡ false
        → option_and_then (row_under f) (row_under o operate_tables) ≡ operate_at o f
    by1 true e ha = subst (IsFound f) (eqb-true 0x11 o e) refl
    by1 false e ha = by2 (0x12 == o) refl ha e

    by0 : (b : Bool) → (0x10 == o) ≡ b → option_and_then (row_under f) (row_under o operate_tables) ≡ operate_at o f
    by0 true e = subst (IsFound f) (eqb-true 0x10 o e) refl
    by0 false e = by1 (0x11 == o) refl e

and_true : (b : Bool) → b ≡ (b && true)
and_true true = refl
and_true false = refl

and_false : (b : Bool) → false ≡ (b && false)
and_false true = refl
and_false false = refl

fit_same : (op : Op) (ra : ℕ) (src : Src) → sources_fit op ra src ≡ operands_fit (op_row op).operands ra src
fit_same ops.Implver ra (Reg rb) = and_false (ra == 31)
fit_same ops.Implver ra (Lit n) = refl
fit_same ops.Ctpop ra (Reg rb) = and_true (ra == 31)
fit_same ops.Ctpop ra (Lit n) = and_false (ra == 31)
fit_same ops.Ctlz ra (Reg rb) = and_true (ra == 31)
fit_same ops.Ctlz ra (Lit n) = and_false (ra == 31)
fit_same ops.Cttz ra (Reg rb) = and_true (ra == 31)
fit_same ops.Cttz ra (Lit n) = and_false (ra == 31)
fit_same _ ra src = refl

operating_same : (op : Op) (ra : ℕ) (src : Src) (rc : ℕ) → operating op ra src rc ≡ class_of (Operate op ra src rc)
operating_same ops.AddlV ra src rc = refl
operating_same _ ra src rc = refl

cond_lift : (b c : Bool) (x : Class) (i : Form) → b ≡ c → x ≡ class_of i
    → cond b (Some x) None ≡ option_map class_of (cond c (Some i) None)
cond_lift true true x i e same = ap Some same
cond_lift false false x i e same = refl
cond_lift true false x i e same = cc
cond_lift false true x i e same = cc

operate_twice : (ra rc : ℕ) (os : Option Src) (o : Option Op)
    → option_and_then
    (λ op. option_and_then (λ src. if sources_fit op ra src then Some (operating op ra src rc) else None) os) o
    ≡ option_map class_of (option_and_then (λ op. option_and_then (λ src. if operands_fit (op_row op).operands ra src
    then Some (Operate op ra src rc) else None) os) o)
operate_twice ra rc os None = refl
operate_twice ra rc None (Some op) = refl
operate_twice ra rc (Some src) (Some op) =
    cond_lift (sources_fit op ra src) (operands_fit (op_row op).operands ra src) (operating op ra src rc)
    (Operate op ra src rc)
    (fit_same op ra src) (operating_same op ra src rc)

operate_same : (w : ℕ) → operate_in w ≡ option_map class_of (operate_form w)
unfolding operate_form source_of
operate_same w =
    ap (option_and_then (λ op. option_and_then (λ src.
    if sources_fit op (field 25 21 w) src then Some (operating op (field 25 21 w) src (field 4 0 w)) else None)
    (source_in w)))
    (row_under-operate_at (field 31 26 w) (field 11 5 w))
    ∙ operate_twice (field 25 21 w) (field 4 0 w) (source_of w) (operate_at (field 31 26 w) (field 11 5 w))

-- ---- the others

misc_twice : (o : Option MiscOp) → option_map (λ op. class_of (Misc op)) o ≡ option_map class_of (option_map Misc o)
misc_twice None = refl
misc_twice (Some op) = refl

misc_same : (w : ℕ) → misc_in w ≡ option_map class_of (misc_form w)
unfolding misc_form
misc_same w =
    cond_class (field 31 26 w == 0x18 && (field 25 21 w == 31 && field 20 16 w == 31))
    (row_under (field 15 0 w) barrier_table) (option_map Misc (misc_at (field 15 0 w)))
    (row_under-find (λ op. (misc_row op).function) (λ op. class_of (Misc op)) (field 15 0 w) every_misc
    ∙ misc_twice (misc_at (field 15 0 w)))

fetch_twice : (rb : ℕ) (o : Option Bool)
    → option_map (λ modify. class_of (Fetch modify rb)) o
    ≡ option_map class_of (option_map (λ modify. Fetch modify rb) o)
fetch_twice rb None = refl
fetch_twice rb (Some modify) = refl

fetch_same : (w : ℕ) → fetch_in w ≡ option_map class_of (fetch_form w)
unfolding fetch_form
fetch_same w =
    cond_class (field 31 26 w == 0x18 && field 25 21 w == 31) (row_under (field 15 0 w) prefetch_table)
    (option_map (λ modify. Fetch modify (field 20 16 w)) (fetch_at (field 15 0 w)))
    (row_under-find fetch_function (λ modify. class_of (Fetch modify (field 20 16 w)))
    (field 15 0 w) (false ∷ true ∷ [])
    ∙ fetch_twice (field 20 16 w) (fetch_at (field 15 0 w)))

pal_twice : (o : Option PalCall)
    → option_map (λ call. barrier (Some call)) (option_map (λ call. call) o) ≡ option_map class_of (option_map Pal o)
pal_twice None = refl
pal_twice (Some call) = refl

pal_same : (w : ℕ) → pal_in w ≡ option_map class_of (pal_form w)
unfolding pal_form
pal_same w =
    cond_class (field 31 26 w == 0) (option_map (λ call. barrier (Some call)) (row_under (field 25 0 w) call_table))
    (option_map Pal (pal_at (field 25 0 w)))
    (ap (option_map (λ call. barrier (Some call))) (row_under-find pal_function (λ call. call) (field 25 0 w) every_pal)
    ∙ pal_twice (pal_at (field 25 0 w)))

-- ---- a word

option_map-class_of_or : (x y : Option Class) (a b : Option Form) → x ≡ option_map class_of a
    → y ≡ option_map class_of b
    → option_or x y ≡ option_map class_of (option_or a b)
option_map-class_of_or x y None b p q = ap (λ m. option_or m y) p ∙ q
option_map-class_of_or x y (Some i) b p q = ap (λ m. option_or m y) p

pub class_in-decoded : (w : ℕ) → class_in w ≡ option_map class_of (decoded w)
unfolding class_in decoded
class_in-decoded w =
    option_map-class_of_or _ _ _ _ (memory_same w)
    (option_map-class_of_or _ _ _ _ (branch_same w)
    (option_map-class_of_or _ _ _ _ (jump_same w) (option_map-class_of_or _ _ _ _ (operate_same w)
    (option_map-class_of_or _ _ _ _ (misc_same w) (option_map-class_of_or _ _ _ _ (fetch_same w) (pal_same w))))))

class_at_by : (o : Option ℕ) → option_and_then class_in o ≡ option_map class_of (option_and_then decoded o)
class_at_by None = refl
class_at_by (Some w) = class_in-decoded w

pub class_at-decoded : (code : List ℕ) (k : ℕ)
    → class_at code k ≡ option_map class_of (option_and_then decoded (slice_get code k))
unfolding class_at
class_at-decoded code k = class_at_by (slice_get code k)
