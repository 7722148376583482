-- Rows behind one another, of which some may be barriers.
use Rattle.std.proofs.Common.{◌≡◌, ℕ, ◌+◌, ◌*◌, ◌%◌, ◌^◌, ◌<◌, ◌≤◌, inl, inr, Bool, true, false, cond, List, length}
use Rattle.std.proofs.Common.{None, Some, refl, sym, ap, subst, ◌∙◌, add-one, arith}
use Rattle.std.specs.Option.{option_and_then}
use Rattle.alpha_table.specs.declared.columns.InsnKind.TheVariants as kinds
use Rattle.alpha_table.specs.declared.rows.MiscOp.{MiscOp}
use Rattle.alpha_table.specs.declared.form.Form.{Form}
use Rattle.alpha_table.specs.declared.form.Form.TheVariants.{Misc}
use Rattle.alpha_table.specs.Rows.{misc_row}
use Rattle.alpha_table.specs.Class.{Class, barrier, idle}
use Rattle.alpha_table.specs.ClassOf.{class_of}
use Rattle.alpha_table.specs.Code.{class_at, class_kind}
use Rattle.alpha_table.specs.Columns.{kind_of}
use Rattle.alpha_table.proofs.CodeWords.{class_at-decoded_word}
use Rattle.alpha_mem.specs.Block.{Block}
use Rattle.alpha_pal.specs.Call.{Silent}
use Rattle.alpha_image.specs.Parts.{Parts, IsImage, place_of}
use Rattle.alpha_image.proofs.CodePlaces.{place_of-code}
use Rattle.alpha_seq.specs.declared.machine.Machine.{Machine}
use Rattle.alpha_seq.specs.State.{Barriered, stepped}
use Rattle.alpha_seq.specs.Machine.{class_here, state_of}
use Rattle.alpha_seq.specs.FastSteps.{machine_at}
use Rattle.alpha_seq.proofs.FastStepLaws.{next_place}
use Rattle.alpha_rows.specs.PassingSteps.{PassesBarrier, GoesOn, PassingSteps, PassesRow, GoesOnRow, RunsOn}
use Rattle.alpha_rows.proofs.RowLaws.{decoded-within}

-- a word with the miscellaneous opcode that is a barrier
pub misc-barrier : (op : MiscOp) (i : Form) → Misc op ≡ i → kind_of i ≡ kinds.Barrier → class_of i ≡ barrier None
misc-barrier op i is e =
    subst (λ (j : Form). class_of j ≡ barrier None) is (by (misc_row op).reports (ap kind_of is ∙ e))
  where
    by : (b : Bool) → class_kind (cond b (barrier None) idle) ≡ kinds.Barrier
        → cond b (barrier None) idle ≡ barrier None
    by true h = refl
    by false h = absurd cc

-- the step of a machine at a barrier
PassesRow-step : (p : Parts) (regs regs' : List ℕ) (mem mem' : List Block) (k k' : ℕ) (m : Machine)
    → PassesRow p regs mem k regs' mem' k' → class_here (machine_at m regs mem k) ≡ Some (barrier None)
    → PassesBarrier (machine_at m regs mem k) (machine_at m regs' mem' k')
PassesRow-step p regs regs' mem mem' k k' m f here =
    subst (λ (l : List ℕ). PassesBarrier (machine_at m regs mem k) (machine_at m l mem' k')) (sym f.same_regs)
    (subst (λ (l : List Block). PassesBarrier (machine_at m regs mem k) (machine_at m regs l k')) (sym f.same_memory)
    (subst (λ (n : ℕ). PassesBarrier (machine_at m regs mem k) (machine_at m regs mem n)) (sym f.next) (record {
      here = here;
      does = record {
        is = λ input.
            let s = state_of (machine_at m regs mem k) in
            ap (λ (pc : ℕ). stepped (record s { pc = pc }) (Barriered Silent pc regs))
            (next_place m.image.code_base k);
        program = refl;
        kernel = refl;
      };
    })))

-- the class of the word at a place is that of the word at its address
class_here-place : (p : Parts) (regs : List ℕ) (mem : List Block) (place : ℕ) (class : Class) (m : Machine) → IsImage p
    → m.image ≡ p → place < length p.words → class_at p.words place ≡ Some class
    → class_here (machine_at m regs mem place) ≡ Some class
class_here-place p regs mem place class m good same below is =
    let words = good.fields.words in
    let address : (p.code_base + 4 * place) % 2 ^ 64 ≡ p.code_base + 4 * place = omega arith in
    let at : place_of p ((p.code_base + 4 * place) % 2 ^ 64) ≡ Some place =
    (place_of-code p good ((p.code_base + 4 * place) % 2 ^ 64) place).1 (below, address) in
    ap (λ (q : Parts). option_and_then (class_at q.words) (place_of q ((q.code_base + 4 * place) % 2 ^ 64))) same
    ∙ (ap (option_and_then (class_at p.words)) at ∙ is)

pub RunsOn-none : (barriers : Bool) (p : Parts) (regs : List ℕ) (mem : List Block) (place : ℕ)
    → RunsOn barriers 0 p regs mem place regs mem place
RunsOn-none barriers p regs mem place = record { made = λ m same. refl }

pub RunsOn-row : (barriers : Bool) (n : ℕ) (p : Parts) (first regs last : List ℕ) (begun mem left : List Block)
    (start place to : ℕ)
    → IsImage p
    → RunsOn barriers n p first begun start regs mem place → GoesOnRow barriers p regs mem place last left to
    → RunsOn barriers (n + 1) p first begun start last left to
RunsOn-row barriers n p first regs last begun mem left start place to good before goes = record {
  made = λ m same.
      subst (λ (k : ℕ). PassingSteps barriers k (machine_at m first begun start) (machine_at m last left to))
      (sym (add-one n)) (machine_at m regs mem place, before.made m same, by m same goes);
}
  where
    by : (m : Machine) → m.image ≡ p → GoesOnRow barriers p regs mem place last left to
        → GoesOn barriers (machine_at m regs mem place) (machine_at m last left to)
    by m same (inl f) = inl (record {
      class = class_of f.insn;
      here =
          class_here-place p regs mem place (class_of f.insn) m good same
          (decoded-within p.words place f.insn f.there)
          (class_at-decoded_word p.words place f.insn f.there);
      does = f.executes.does m same;
    })
    by m same (inr h) = inr (
      h.0,
      PassesRow-step p regs last mem left place to m h.1
          (class_here-place p regs mem place (barrier None) m good same h.1.below h.1.class),
    )

-- the place behind a row at which the loop goes on
pub GoesOnRow-within : (barriers : Bool) (p : Parts) (regs last : List ℕ) (mem left : List Block) (place to : ℕ)
    → IsImage p → GoesOnRow barriers p regs mem place last left to → to ≤ length p.words
GoesOnRow-within barriers p regs last mem left place to good (inl f) = f.within
GoesOnRow-within barriers p regs last mem left place to good (inr h) =
    let words = good.fields.words in
    omega (arith, h.1.below, h.1.next)
