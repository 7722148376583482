-- Words that only go on, by the places at which they stand.
use Rattle.std.proofs.Common.{◌≡◌, ℕ, zero, suc, ◌+◌, ◌*◌, ◌-◌, ◌%◌, ◌^◌, ◌<◌, ℤ, pos, negsuc, ◌+ℤ◌, ◌*ℤ◌, Bool, true}
use Rattle.std.proofs.Common.{false, cond, eqb, List, length, map, slice_get, Option, None, Some, refl, sym, ap, subst}
use Rattle.std.proofs.Common.{◌∙◌, add-one, FitsSigned, w32, arith}
use Rattle.std.specs.Option.{option_map_or, option_and_then}
use Rattle.std.proofs.lemmas.Bool.{false≢true}
use Rattle.std.proofs.lemmas.Int.{ints}
use Rattle.std.proofs.lemmas.List.{length-map}
use Rattle.alpha_words.specs.Regs.{reg, put}
use Rattle.alpha_words.specs.Digits.{little, low_bytes}
use Rattle.alpha_words.specs.declared.Completion.TheVariants.{Wrap}
use Rattle.alpha_words.specs.declared.Level.{Level}
use Rattle.alpha_table.specs.declared.op.Cond.{Cond}
use Rattle.alpha_table.specs.declared.op.Op.{Op}
use Rattle.alpha_table.specs.declared.op.OpRole.{OpRole}
use Rattle.alpha_table.specs.declared.op.OpRole.TheVariants.{Plain, Move, Trap}
use Rattle.alpha_table.specs.declared.op.TrapOp.{TrapOp}
use Rattle.alpha_table.specs.declared.rows.Extension.{Extension}
use Rattle.alpha_table.specs.declared.rows.MemOp.{MemOp}
use Rattle.alpha_table.specs.declared.columns.MemAccess.{MemAccess}
use Rattle.alpha_table.specs.declared.form.Src.{Src}
use Rattle.alpha_table.specs.declared.form.Form.{Form}
use Rattle.alpha_table.specs.Op.{role_trap, trap_of, op_row}
use Rattle.alpha_table.specs.Class.{Class, operate, trigger, address, load, store, branch, idle}
use Rattle.alpha_table.specs.ClassOf.{operate_class, class_of}
use Rattle.alpha_table.specs.Code.{class_at}
use Rattle.alpha_table.specs.Decoded.{decoded}
use Rattle.alpha_values.specs.Numbers.{register_of}
use Rattle.alpha_values.specs.Source.{source_value}
use Rattle.alpha_values.specs.TrapOp.{overflow_of, completed_of}
use Rattle.alpha_values.specs.Op.{result_of}
use Rattle.alpha_values.specs.Outcome.{outcome_of}
use Rattle.alpha_values.specs.Cond.{is_taken}
use Rattle.alpha_values.specs.Address.{access_address}
use Rattle.alpha_values.proofs.MachineWords.{register_of-mod}
use Rattle.alpha_values.proofs.LawLemmas.{completed-wrap, completed-exact}
use Rattle.alpha_mem.specs.Intent.{Load, Store}
use Rattle.alpha_mem.specs.Block.{Block, shapes}
use Rattle.alpha_mem.specs.Fault.{fault_of}
use Rattle.alpha_mem.specs.Memory.{bytes_at, write_bytes}
use Rattle.alpha_mem.specs.declared.access.MemFault.{MemFault}
use Rattle.alpha_image.specs.Parts.{Parts, IsImage, place_of}
use Rattle.alpha_image.proofs.CodePlaces.{place_of-code}
use Rattle.alpha_table.proofs.CodeWords.{decoded_there, class_at-decoded_word}
use Rattle.alpha_seq.specs.declared.machine.Machine.{Machine}
use Rattle.alpha_seq.specs.State.{State, Went, Stepped, stepped}
use Rattle.alpha_seq.specs.Step.{next_pc, setting, unless, loaded, lda_value, branch_target}
use Rattle.alpha_seq.specs.Machine.{state_of}
use Rattle.alpha_seq.specs.Machine as of_machine
use Rattle.alpha_seq.specs.Executed.{ExecutesWord, Retires, filled}
use Rattle.alpha_seq.specs.FastSteps.{FastSteps, machine_at, ExecutesFast, RunsFast}
use Rattle.alpha_seq.proofs.LoadedValues.{loaded_filled}

-- ---- addresses of places

pub next_place : (base place : ℕ)
    → ((base + 4 * place) % 2 ^ 64 + 4) % 2 ^ 64 ≡ (base + 4 * ((place + 1) % 2 ^ 64)) % 2 ^ 64
next_place base place = omega arith

address-forth : (base place n : ℕ)
    → register_of (pos ((base + 4 * place) % 2 ^ 64 + 4) +ℤ pos 4 *ℤ pos n)
    ≡ (base + 4 * register_of (pos ((place + 1) % 2 ^ 64) +ℤ pos n)) % 2 ^ 64
address-forth base place n =
    let pc = (base + 4 * place) % 2 ^ 64 in
    let next = (place + 1) % 2 ^ 64 in
    let to : register_of (pos (pc + 4) +ℤ pos 4 *ℤ pos n) ≡ (pc + 4 + 4 * n) % 2 ^ 64 =
    register_of-mod _ 0 (pc + 4 + 4 * n) (omega (arith, ints)) in
    let far : register_of (pos next +ℤ pos n) ≡ (next + n) % 2 ^ 64 =
    register_of-mod _ 0 (next + n) (omega (arith, ints)) in
    omega (arith, to, far)

address-back : (base place n : ℕ) → n < 2 ^ 31
    → register_of (pos ((base + 4 * place) % 2 ^ 64 + 4) +ℤ pos 4 *ℤ negsuc n)
    ≡ (base + 4 * register_of (pos ((place + 1) % 2 ^ 64) +ℤ negsuc n)) % 2 ^ 64
address-back base place n small =
    let pc = (base + 4 * place) % 2 ^ 64 in
    let next = (place + 1) % 2 ^ 64 in
    let to : register_of (pos (pc + 4) +ℤ pos 4 *ℤ negsuc n) ≡ (pc + 2 ^ 64 - 4 * n) % 2 ^ 64 =
    register_of-mod _ 1 (pc + 2 ^ 64 - 4 * n) (omega (arith, ints)) in
    let far : register_of (pos next +ℤ negsuc n) ≡ (next + 2 ^ 64 - (n + 1)) % 2 ^ 64 =
    register_of-mod _ 1 (next + 2 ^ 64 - (n + 1)) (omega (arith, ints)) in
    omega (arith, to, far)

pub displaced_place : (base place : ℕ) (d : ℤ) → FitsSigned w32 d
    → register_of (pos ((base + 4 * place) % 2 ^ 64 + 4) +ℤ pos 4 *ℤ d)
    ≡ (base + 4 * register_of (pos ((place + 1) % 2 ^ 64) +ℤ d)) % 2 ^ 64
displaced_place base place (pos n) fits = address-forth base place n
displaced_place base place (negsuc n) fits = address-back base place n (omega (arith, fits.sfits))

-- ---- a word of each class

-- the step that a word makes
abbrev fast_step : State → List ℕ → List Block → ℕ → Stepped
fast_step s regs mem pc = stepped (record s { regs = regs; mem = mem; pc = pc }) Went

pub ExecutesFast-operate : (level : Level) (op : Op) (ra : ℕ) (src : Src) (rc : ℕ) (regs : List ℕ) (mem : List Block)
    (place value : ℕ) (image : Parts)
    → Some value ≡ outcome_of level op (reg regs ra) (source_value regs src) (reg regs rc) → image.level ≡ level
    → ExecutesFast image (operate_class (op_row op).role op ra src rc) regs mem place (put regs rc value) mem
    ((place + 1) % 2 ^ 64)
ExecutesFast-operate level op ra src rc regs mem place value image is levels =
    record { does = λ m same. by m same (op_row op).role refl }
  where
    a : ℕ
    a = reg regs ra

    b : ℕ
    b = source_value regs src

    old : ℕ
    old = reg regs rc

    plain : (m : Machine) → m.image ≡ image → value ≡ result_of level op a b old
        → ExecutesWord Went (operate op ra src rc) (machine_at m regs mem place)
        (machine_at m (put regs rc value) mem ((place + 1) % 2 ^ 64))
    plain m same e = record {
      is = λ input.
          let s = state_of (machine_at m regs mem place) in
          ap (λ (l : Level). fast_step s (put regs rc (result_of l op a b old)) mem (next_pc s))
          (ap (λ (p : Parts). p.level) same ∙ levels)
          ∙ (ap (λ (v : ℕ). fast_step s (put regs rc v) mem (next_pc s)) (sym e)
          ∙ ap (fast_step s (put regs rc value) mem) (next_place m.image.code_base place));
      program = refl;
      kernel = refl;
    }

    exact : (m : Machine) (trap : TrapOp) → overflow_of trap a b ≡ false → value ≡ result_of level op a b old
        → trap_of op ≡ Some trap
        → ExecutesWord Went (trigger trap ra src rc) (machine_at m regs mem place)
        (machine_at m (put regs rc value) mem ((place + 1) % 2 ^ 64))
    exact m trap fits e traps =
        let within : (overflow_of trap a b ≡ true) → ⊥ = λ h. false≢true (sym fits ∙ h) in
        let completed : completed_of trap a b m.completion ≡ value =
        completed-exact trap a b m.completion within
        ∙ (sym (completed-exact trap a b Wrap within) ∙ (completed-wrap level op trap a b old traps ∙ sym e)) in
        record {
          is = λ input.
              let s = state_of (machine_at m regs mem place) in
              rw fits
              (ap (λ (v : ℕ). fast_step s (put regs rc v) mem (next_pc s)) completed
              ∙ ap (fast_step s (put regs rc value) mem) (next_place m.image.code_base place));
          program = refl;
          kernel = refl;
        }

    trapped : (m : Machine) (trap : TrapOp) (over : Bool) → trap_of op ≡ Some trap → overflow_of trap a b ≡ over
        → Some value ≡ cond over None (Some (result_of level op a b old))
        → ExecutesWord Went (trigger trap ra src rc) (machine_at m regs mem place)
        (machine_at m (put regs rc value) mem ((place + 1) % 2 ^ 64))
    trapped m trap true traps over e = absurd cc
    trapped m trap false traps over e =
        exact m trap over (let same : value ≡ result_of level op a b old = cc in same) traps

    found : (o : Option TrapOp) → trap_of op ≡ o
        → Some value
        ≡ cond (option_map_or (λ trap. overflow_of trap a b) o false) None (Some (result_of level op a b old))
    found o e = is ∙ ap (λ (o : Option TrapOp).
        cond (option_map_or (λ trap. overflow_of trap a b) o false) None (Some (result_of level op a b old))) e

    by : (m : Machine) → m.image ≡ image → (role : OpRole) → (op_row op).role ≡ role
        → ExecutesWord Went (operate_class role op ra src rc) (machine_at m regs mem place)
        (machine_at m (put regs rc value) mem ((place + 1) % 2 ^ 64))
    by m same Plain e =
        plain m same (let f = found None (ap role_trap e) in let v : value ≡ result_of level op a b old = cc in v)
    by m same Move e =
        plain m same (let f = found None (ap role_trap e) in let v : value ≡ result_of level op a b old = cc in v)
    by m same (Trap trap) e =
        trapped m trap (overflow_of trap a b) (ap role_trap e) refl (found (Some trap) (ap role_trap e))

pub ExecutesFast-address : (op : MemOp) (ra rb : ℕ) (disp : ℤ) (regs : List ℕ) (mem : List Block) (place : ℕ)
    (image : Parts)
    → ExecutesFast image (address op ra rb disp) regs mem place (put regs ra (lda_value op (reg regs rb) disp)) mem
    ((place + 1) % 2 ^ 64)
ExecutesFast-address op ra rb disp regs mem place image = record {
  does = λ m same. record {
    is = λ input.
        let s = state_of (machine_at m regs mem place) in
        ap (fast_step s (put regs ra (lda_value op (reg regs rb) disp)) mem) (next_place m.image.code_base place);
    program = refl;
    kernel = refl;
  };
}

pub ExecutesFast-idle : (regs : List ℕ) (mem : List Block) (place : ℕ) (image : Parts)
    → ExecutesFast image idle regs mem place regs mem ((place + 1) % 2 ^ 64)
ExecutesFast-idle regs mem place image = record {
  does = λ m same. record {
    is = λ input. ap (fast_step (state_of (machine_at m regs mem place)) regs mem) (next_place m.image.code_base place);
    program = refl;
    kernel = refl;
  };
}

-- a write of R31 is none
put-zero : (regs : List ℕ) (r value : ℕ) → eqb r 31 ≡ true → put regs r value ≡ regs
unfolding put
put-zero regs r value e = rw e refl

pub ExecutesFast-load : (extension : Extension) (at : MemAccess) (ra : ℕ) (regs : List ℕ) (mem : List Block)
    (place addr n : ℕ) (image : Parts)
    → addr ≡ access_address at (reg regs at.base) → fault_of (shapes mem) Load addr at.bytes ≡ None
    → n ≡ little (bytes_at mem addr at.bytes)
    → ExecutesFast image (cond (eqb ra 31) idle (load extension at ra)) regs mem place
    (put regs ra (filled extension n)) mem ((place + 1) % 2 ^ 64)
ExecutesFast-load extension at ra regs mem place addr n image there calm is = by (eqb ra 31) refl
  where
    by : (b : Bool) → eqb ra 31 ≡ b
        → ExecutesFast image (cond b idle (load extension at ra)) regs mem place (put regs ra (filled extension n)) mem
        ((place + 1) % 2 ^ 64)
    by true e =
        subst (λ (l : List ℕ). ExecutesFast image idle regs mem place l mem ((place + 1) % 2 ^ 64))
        (sym (put-zero regs ra (filled extension n) e))
        (ExecutesFast-idle regs mem place image)
    by false e = record {
      does = λ m same. record {
        is = λ input.
            let s = state_of (machine_at m regs mem place) in
            let fault : fault_of (shapes mem) Load (access_address at (reg regs at.base)) at.bytes ≡ None =
            ap (λ (x : ℕ). fault_of (shapes mem) Load x at.bytes) (sym there) ∙ calm in
            let value : loaded extension at s ≡ filled extension n =
            loaded_filled extension at s
            ∙ (ap (λ (x : ℕ). filled extension (little (bytes_at mem x at.bytes))) (sym there)
            ∙ ap (filled extension) (sym is)) in
            ap (λ (f : Option MemFault).
            unless f (access_address at (reg regs at.base)) s (setting s ra (loaded extension at s)))
            fault
            ∙ (ap (λ (v : ℕ). fast_step s (put regs ra v) mem (next_pc s)) value
            ∙ ap (fast_step s (put regs ra (filled extension n)) mem) (next_place m.image.code_base place));
        program = refl;
        kernel = refl;
      };
    }

pub ExecutesFast-store : (at : MemAccess) (ra : ℕ) (regs : List ℕ) (mem new : List Block) (place addr : ℕ)
    (image : Parts)
    → addr ≡ access_address at (reg regs at.base) → fault_of (shapes mem) Store addr at.bytes ≡ None
    → new ≡ write_bytes mem addr (low_bytes at.bytes (reg regs ra))
    → ExecutesFast image (store at ra) regs mem place regs new ((place + 1) % 2 ^ 64)
ExecutesFast-store at ra regs mem new place addr image there calm is = record {
  does = λ m same. record {
    is = λ input.
        let s = state_of (machine_at m regs mem place) in
        let to = access_address at (reg regs at.base) in
        let left = write_bytes mem to (low_bytes at.bytes (reg regs ra)) in
        let fault : fault_of (shapes mem) Store to at.bytes ≡ None =
        ap (λ (x : ℕ). fault_of (shapes mem) Store x at.bytes) (sym there) ∙ calm in
        let written : left ≡ new =
        ap (λ (x : ℕ). write_bytes mem x (low_bytes at.bytes (reg regs ra))) (sym there) ∙ sym is in
        ap (λ (f : Option MemFault). unless f to s (record s { mem = left; pc = next_pc s })) fault
        ∙ (ap (λ (l : List Block). fast_step s regs l (next_pc s)) written
        ∙ ap (fast_step s regs new) (next_place m.image.code_base place));
    program = refl;
    kernel = refl;
  };
}

-- a branch without a condition leaves the next address
pub ExecutesFast-turn : (ra : ℕ) (disp : ℤ) (regs : List ℕ) (mem : List Block) (place next : ℕ) (image : Parts)
    → FitsSigned w32 disp
    → next ≡ (image.code_base + 4 * ((place + 1) % 2 ^ 64)) % 2 ^ 64
    → ExecutesFast image (branch None ra disp) regs mem place (put regs ra next) mem
    (register_of (pos ((place + 1) % 2 ^ 64) +ℤ disp))
ExecutesFast-turn ra disp regs mem place next image fits is = record {
  does = λ m same. record {
    is = λ input.
        let s = state_of (machine_at m regs mem place) in
        let left : next_pc s ≡ next = next_place m.image.code_base place
        ∙ (ap (λ (p : Parts). (p.code_base + 4 * ((place + 1) % 2 ^ 64)) % 2 ^ 64) same ∙ sym is) in
        ap (λ (n : ℕ). fast_step s (put regs ra n) mem (branch_target s disp)) left
        ∙ ap (fast_step s (put regs ra next) mem) (displaced_place m.image.code_base place disp fits);
    program = refl;
    kernel = refl;
  };
}

-- one with a condition goes to its target or to the next word
pub ExecutesFast-branch : (c : Cond) (ra : ℕ) (disp : ℤ) (regs : List ℕ)
    (mem : List Block) (place to : ℕ) (taken : Bool) (image : Parts)
    → FitsSigned w32 disp
    → is_taken c (reg regs ra) ≡ taken
    → to ≡ cond taken (register_of (pos ((place + 1) % 2 ^ 64) +ℤ disp)) ((place + 1) % 2 ^ 64)
    → ExecutesFast image (branch (Some c) ra disp) regs mem place regs mem to
ExecutesFast-branch c ra disp regs mem place to taken image fits takes is = record {
  does = λ m same. record {
    is = λ input.
        let s = state_of (machine_at m regs mem place) in
        ap (λ (b : Bool). fast_step s regs mem (cond b (branch_target s disp) (next_pc s))) takes
        ∙ ap (fast_step s regs mem)
        (by m.image.code_base taken ∙ ap (λ (k : ℕ). (m.image.code_base + 4 * k) % 2 ^ 64) (sym is));
    program = refl;
    kernel = refl;
  };
}
  where
    by : (base : ℕ) (b : Bool)
        → cond b (register_of (pos ((base + 4 * place) % 2 ^ 64 + 4) +ℤ pos 4 *ℤ disp))
        (((base + 4 * place) % 2 ^ 64 + 4) % 2 ^ 64)
        ≡ (base + 4 * cond b (register_of (pos ((place + 1) % 2 ^ 64) +ℤ disp)) ((place + 1) % 2 ^ 64)) % 2 ^ 64
    by base true = displaced_place base place disp fits
    by base false = next_place base place

-- the same, where what is left is named otherwise
pub ExecutesFast-to : (image : Parts) (class : Class) (regs : List ℕ) (mem : List Block) (place : ℕ) (r r' : List ℕ)
    (m m' : List Block) (p p' : ℕ)
    → r' ≡ r → m' ≡ m → p' ≡ p → ExecutesFast image class regs mem place r m p
    → ExecutesFast image class regs mem place r' m' p'
ExecutesFast-to image class regs mem place r r' m m' p p' a b c passes =
    subst (λ (l : List ℕ). ExecutesFast image class regs mem place l m' p') (sym a)
    (subst (λ (l : List Block). ExecutesFast image class regs mem place r l p') (sym b)
    (subst (λ (n : ℕ). ExecutesFast image class regs mem place r m n) (sym c) passes))

-- ---- words behind one another

-- the class of the word at a place
class_there : (p : Parts) (insns : List Form) (place : ℕ) (i : Form) → IsImage p → map decoded p.words ≡ map Some insns
    → place < length insns → slice_get insns place ≡ Some i
    → option_and_then (class_at p.words) (place_of p ((p.code_base + 4 * place) % 2 ^ 64)) ≡ Some (class_of i)
class_there p insns place i good held below there =
    let size : length p.words ≡ length insns =
    sym (length-map p.words decoded) ∙ (ap length held ∙ length-map insns Some) in
    let end = good.fields.words in
    let address : (p.code_base + 4 * place) % 2 ^ 64 ≡ p.code_base + 4 * place = omega arith in
    let at : place_of p ((p.code_base + 4 * place) % 2 ^ 64) ≡ Some place =
    (place_of-code p good ((p.code_base + 4 * place) % 2 ^ 64) place).1 (omega arith, address) in
    ap (option_and_then (class_at p.words)) at
    ∙ class_at-decoded_word p.words place i (decoded_there p.words insns place i held there)

pub RunsFast-none : (image : Parts) (regs : List ℕ) (mem : List Block) (place : ℕ)
    → RunsFast 0 image regs mem place regs mem place
RunsFast-none image regs mem place = record { made = λ m same. refl }

pub RunsFast-more : (n : ℕ) (image : Parts) (insns : List Form) (i : Form) (first regs last : List ℕ)
    (begun mem left : List Block) (start place to : ℕ)
    → IsImage image → map decoded image.words ≡ map Some insns → place < length insns → slice_get insns place ≡ Some i
    → RunsFast n image first begun start regs mem place → ExecutesFast image (class_of i) regs mem place last left to
    → RunsFast (n + 1) image first begun start last left to
RunsFast-more n image insns i first regs last begun mem left start place to good held below there before passes =
    record {
      made = λ m same.
          let here : of_machine.class_here (machine_at m regs mem place) ≡ Some (class_of i) =
          ap (λ (p : Parts). option_and_then (class_at p.words) (place_of p ((p.code_base + 4 * place) % 2 ^ 64))) same
          ∙ class_there image insns place i good held below there in
          subst (λ (k : ℕ). FastSteps k (machine_at m first begun start) (machine_at m last left to))
          (sym (add-one n)) (
            machine_at m regs mem place,
            before.made m same,
            record { class = class_of i; here = here; does = passes.does m same },
          );
    }

-- ---- what holds of each number of steps, held of some, if each step leaves it to the next

pub FastSteps-fold : (P : ℕ → Machine → Type 0)
    → ((k : ℕ) (mid new : Machine) → P k mid → Retires mid new → P (k + 1) new)
    → (n k : ℕ) (old new : Machine) → P k old → FastSteps n old new → P (k + n) new
FastSteps-fold P more zero k old new held same = subst (λ (i : ℕ). P i new) (omega arith) (subst (P k) (sym same) held)
FastSteps-fold P more (suc n) k old new held fast_steps =
    subst (λ (i : ℕ). P i new) (omega arith)
    (more (k + n) fast_steps.0 new (FastSteps-fold P more n k old fast_steps.0 held fast_steps.1) fast_steps.2)
