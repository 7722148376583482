-- What the words of code are: their classes by place, and the bounds of their numbers.
use Rattle.std.proofs.Common.{◌≡◌, ◌<◌, ◌≤◌, ◌%◌, ◌^◌, ◌⊎◌, ℕ, ℤ, pos, negsuc, Bool, true, false, List, length, Option}
use Rattle.std.proofs.Common.{Some, None, slice_get, cond, eqb, sym, ◌∙◌, subst, FitsSigned, refl, inl, inr, arith}
use Rattle.std.proofs.Common.{option_and_then}
use Rattle.std.specs.Int.{w16}
use Rattle.std.specs.Option.{option_map}
use Rattle.std.proofs.lemmas.Int.{ints}
use Rattle.std.proofs.lemmas.Option.{slice_get_within}
use Rattle.alpha_table.specs.declared.columns.MemAccess.{MemAccess}
use Rattle.alpha_table.specs.declared.form.Form.{Form}
use Rattle.alpha_table.specs.declared.form.Form.TheVariants.{Mem, Branch, Jump, Operate, Misc, Fetch, Pal}
use Rattle.alpha_table.specs.declared.rows.MemOp.{MemOp}
use Rattle.alpha_table.specs.declared.rows.MemOp.TheVariants as memories
use Rattle.alpha_table.specs.declared.rows.MemRole.{MemRole}
use Rattle.alpha_table.specs.declared.rows.MemRole.TheVariants.{Address, Load, Store, LoadLocked, StoreConditional}
use Rattle.alpha_table.specs.declared.op.OpRole.{OpRole}
use Rattle.alpha_table.specs.declared.op.OpRole.TheVariants as roles
use Rattle.alpha_table.specs.declared.op.Op.{Op}
use Rattle.alpha_table.specs.declared.form.Src.{Src}
use Rattle.alpha_table.specs.Op.{op_row}
use Rattle.alpha_table.specs.Class.{Class, load, barrier, idle}
use Rattle.alpha_table.specs.ClassOf.{class_of, memory_class, operate_class}
use Rattle.alpha_table.specs.Code.{class_at, trap_rc, kind}
use Rattle.alpha_table.specs.Uses.{access}
use Rattle.alpha_table.specs.Decoded.{decoded}
use Rattle.alpha_table.specs.Words.{class_in}
use Rattle.alpha_table.specs.Row.{IsInsn, IsSigned}
use Rattle.alpha_table.specs.Rows.{mem_row}
use Rattle.alpha_table.proofs.DecodedInsns.{Row-decoded, IsInsn-Row}
use Rattle.alpha_table.proofs.Classes.{class_at-decoded}

-- an access of a word: a displacement of 16 bits, and as many bytes as divide 16 and fit into 64 bits
pub record IsNarrow (c : MemAccess) : Type 0 where
  pub disp : FitsSigned w16 c.disp
  pub divides : 16 % c.bytes ≡ 0
  pub small : 256 ^ c.bytes ≤ 2 ^ 64

-- a class that the table gives
pub record IsTabled (class : Class) : Type 0 where
  pub access : (c : MemAccess) → access (Some class) ≡ Some c → IsNarrow c
  pub destination : (r : ℕ) → trap_rc (Some class) ≡ Some r → r < 32

-- a class without an access and without a trap
class-no_access : (class : Class) → access (Some class) ≡ None → trap_rc (Some class) ≡ None → IsTabled class
class-no_access class a t = record { access = λ c e. cc; destination = λ r e. cc }

-- a class with an access and without a trap
accessing : (class : Class) (at : MemAccess) → access (Some class) ≡ Some at → trap_rc (Some class) ≡ None → IsNarrow at
    → IsTabled class
accessing class at a t n = record {
  access = λ c e. (let same : at ≡ c = cc in subst IsNarrow same n);
  destination = λ r e. cc;
}

mem_row-size : (op : MemOp)
    → ((16 % (mem_row op).bytes ≡ 0) × (256 ^ (mem_row op).bytes ≤ 2 ^ 64)) ⊎ ((mem_row op).role ≡ Address)
mem_row-size memories.Lda = inr refl
mem_row-size memories.Ldah = inr refl
mem_row-size _ = inl (refl, omega arith)

signed_narrow : (d : ℤ) → IsSigned 15 d → FitsSigned w16 d
signed_narrow (pos n) h = record { sfits = omega (arith, ints, h.0, h.1) }
signed_narrow (negsuc n) h = record { sfits = omega (arith, ints, h.0, h.1) }

IsTabled-cond_idle : (b : Bool) (class : Class) → IsTabled class → IsTabled (cond b idle class)
IsTabled-cond_idle true class h = class-no_access idle refl refl
IsTabled-cond_idle false class h = h

memory_tabled : (role : MemRole) (op : MemOp) (at : MemAccess) (ra : ℕ) → FitsSigned w16 at.disp
    → ((16 % at.bytes ≡ 0) × (256 ^ at.bytes ≤ 2 ^ 64)) ⊎ (role ≡ Address)
    → IsTabled (memory_class role op at ra)
memory_tabled Address op at ra fits h = class-no_access _ refl refl
memory_tabled (Load extension) op at ra fits (inl h) =
    IsTabled-cond_idle (eqb ra 31) (load extension at ra)
    (accessing _ at refl refl (record { disp = fits; divides = h.0; small = h.1 }))
memory_tabled (Load extension) op at ra fits (inr h) = cc
memory_tabled Store op at ra fits (inl h) =
    accessing _ at refl refl (record { disp = fits; divides = h.0; small = h.1 })
memory_tabled Store op at ra fits (inr h) = cc
memory_tabled (LoadLocked extension) op at ra fits (inl h) =
    accessing _ at refl refl (record { disp = fits; divides = h.0; small = h.1 })
memory_tabled (LoadLocked extension) op at ra fits (inr h) = cc
memory_tabled StoreConditional op at ra fits (inl h) =
    accessing _ at refl refl (record { disp = fits; divides = h.0; small = h.1 })
memory_tabled StoreConditional op at ra fits (inr h) = cc

operate_tabled : (role : OpRole) (op : Op) (ra : ℕ) (src : Src) (rc : ℕ) → rc < 32
    → IsTabled (operate_class role op ra src rc)
operate_tabled roles.Plain op ra src rc h = class-no_access _ refl refl
operate_tabled roles.Move op ra src rc h = class-no_access _ refl refl
operate_tabled (roles.Trap t) op ra src rc h = record {
  access = λ c e. cc;
  destination = λ r e. (let same : rc ≡ r = cc in omega arith);
}

misc_tabled : (b : Bool) → IsTabled (cond b (barrier None) idle)
misc_tabled true = class-no_access _ refl refl
misc_tabled false = class-no_access _ refl refl

form_tabled : (i : Form) → IsInsn i → IsTabled (class_of i)
form_tabled (Mem op ra rb disp) h = memory_tabled (mem_row op).role op _ ra (signed_narrow disp h.2) (mem_row-size op)
form_tabled (Branch op ra disp) h = class-no_access _ refl refl
form_tabled (Jump kind ra rb hint) h = class-no_access _ refl refl
form_tabled (Operate op ra src rc) h = operate_tabled (op_row op).role op ra src rc h.2
form_tabled (Misc op) h = misc_tabled _
form_tabled (Fetch modify rb) h = class-no_access _ refl refl
form_tabled (Pal call) h = class-no_access _ refl refl

pub class_at-IsTabled : (code : List ℕ) (k : ℕ) (class : Class) → class_at code k ≡ Some class → IsTabled class
class_at-IsTabled code k class e = by (slice_get code k) (sym (class_at-decoded code k) ∙ e)
  where
    made : (w : ℕ) (o : Option Form) → decoded w ≡ o → option_map class_of o ≡ Some class → IsTabled class
    made w None d f = cc
    made w (Some i) d f =
        let same : class_of i ≡ class = cc in
        subst IsTabled same (form_tabled i (IsInsn-Row w i (Row-decoded w i d)))

    by : (o : Option ℕ) → option_map class_of (option_and_then decoded o) ≡ Some class → IsTabled class
    by None f = cc
    by (Some w) f = made w (decoded w) refl f

pub access-IsNarrow : (code : List ℕ) (k : ℕ) (c : MemAccess) → access (class_at code k) ≡ Some c → IsNarrow c
access-IsNarrow code k c e = by (class_at code k) refl e
  where
    by : (o : Option Class) → class_at code k ≡ o → access o ≡ Some c → IsNarrow c
    by None f a = cc
    by (Some class) f a = (class_at-IsTabled code k class f).access c a

pub trap_rc-lt : (code : List ℕ) (k r : ℕ) → trap_rc (class_at code k) ≡ Some r → r < 32
trap_rc-lt code k r e = by (class_at code k) refl e
  where
    by : (o : Option Class) → class_at code k ≡ o → trap_rc o ≡ Some r → r < 32
    by None f a = cc
    by (Some class) f a = (class_at-IsTabled code k class f).destination r a

-- a word stands in the code
pub class_within : (code : List ℕ) (k : ℕ) (class : Class) → class_at code k ≡ Some class → k < length code
unfolding class_at
class_within code k class e = by (slice_get code k) refl e
  where
    by : (o : Option ℕ) → slice_get code k ≡ o → option_and_then class_in o ≡ Some class → k < length code
    by None g f = cc
    by (Some w) g f = slice_get_within code k w g
