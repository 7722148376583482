-- Rows as they are made.
use Rattle.std.proofs.Common.{◌≡◌, ◌≢◌, ℕ, zero, suc, ◌+◌, ◌≤◌, ◌^◌, ◌%◌, ℤ, pos, negsuc, ◌+ℤ◌, Bool, true, false}
use Rattle.std.proofs.Common.{cond, eqb, List, [], ◌∷◌, ◌++◌, length, map, slice_get, Option, Some, None, ◌⊎◌, inl}
use Rattle.std.proofs.Common.{inr, refl, sym, ap, subst, ◌∙◌, FitsSigned, arith}
use Rattle.std.specs.Int.{w16, w32, cast_unsigned, int_wrap}
use Rattle.std.proofs.lemmas.Int.{ints, to_z-of_z}
use Rattle.std.proofs.lemmas.Bool.{eqb-true}
use Rattle.std.proofs.lemmas.List.{length-map}
use Rattle.alpha_table.specs.declared.columns.InsnKind.TheVariants as kinds
use Rattle.alpha_table.specs.declared.op.Cond.{Cond}
use Rattle.alpha_table.specs.declared.op.Op.{Op}
use Rattle.alpha_table.specs.declared.op.OpRole.{OpRole}
use Rattle.alpha_table.specs.declared.op.OpRole.TheVariants.{Plain, Move, Trap}
use Rattle.alpha_table.specs.declared.rows.MiscOp.{MiscOp}
use Rattle.alpha_table.specs.declared.form.Src.{Src}
use Rattle.alpha_table.specs.declared.form.Form.{Form}
use Rattle.alpha_table.specs.declared.form.Form.TheVariants.{Misc}
use Rattle.alpha_table.specs.Op.{role_trap}
use Rattle.alpha_table.specs.Rows.{misc_row}
use Rattle.alpha_table.specs.Class.{barrier, branch, idle}
use Rattle.alpha_table.specs.ClassOf.{operate_class, class_of}
use Rattle.alpha_table.specs.Code.{class_kind}
use Rattle.alpha_table.specs.Columns.{kind_of}
use Rattle.alpha_table.specs.Decoded.{decoded}
use Rattle.alpha_values.specs.Numbers.{signed}
use Rattle.alpha_image.specs.Parts.{Parts}
use Rattle.alpha_table.proofs.CodeWords.{decoded_there}
use Rattle.alpha_rows.specs.declared.row.Row.{Row}
use Rattle.alpha_rows.specs.declared.row.RowOp.{RowOp}
use Rattle.alpha_rows.specs.Meaning.{RowMeaning, leaves, branches, links, meaning_of, branch_meaning}
use Rattle.alpha_rows.specs.Meaning.{IsIdle, Denotes}
use Rattle.alpha_rows.specs.Rows.{IsRowAt}

-- a row says meaning it is for, or leaves
pub Denotes-or_leaves : (r : RowOp) (meaning : RowMeaning) (s : Row) (n k : ℕ) (i : Form)
    → (meaning_of r ≡ meaning) ⊎ (meaning_of r ≡ leaves) → Denotes meaning s n k i → Denotes (meaning_of r) s n k i
Denotes-or_leaves r meaning s n k i (inl e) h = subst (λ (w : RowMeaning). Denotes w s n k i) (sym e) h
Denotes-or_leaves r meaning s n k i (inr e) h = subst (λ (w : RowMeaning). Denotes w s n k i) (sym e) tt

-- an operate word that can't overflow and writes R31
pub operate-IsIdle : (role : OpRole) (op : Op) (ra : ℕ) (src : Src) (rc : ℕ) → role_trap role ≡ None → rc ≡ 31
    → IsIdle (operate_class role op ra src rc)
operate-IsIdle Plain op ra src rc e to = to
operate-IsIdle Move op ra src rc e to = to
operate-IsIdle (Trap trap) op ra src rc e to = absurd cc

-- a word with the miscellaneous opcode that is no barrier
pub misc-IsIdle : (op : MiscOp) (i : Form) → Misc op ≡ i → kind_of i ≢ kinds.Barrier → IsIdle (class_of i)
misc-IsIdle op i is other =
    subst (λ (j : Form). IsIdle (class_of j)) is (by (misc_row op).reports (λ e. other (sym (ap kind_of is) ∙ e)))
  where
    by : (b : Bool) → class_kind (cond b (barrier None) idle) ≢ kinds.Barrier → IsIdle (cond b (barrier None) idle)
    by true h = absurd (h refl)
    by false h = tt

-- the displacement of a memory row
pub signed-cast_unsigned : (d : ℤ) → FitsSigned w16 d → signed w16 (cast_unsigned w16 d) ≡ d
unfolding int_wrap
signed-cast_unsigned d fits = grind (arith, to_z-of_z)

pub BranchesTo-target : (next to words : ℕ) (d : ℤ) → FitsSigned w32 d → next ≤ 2 ^ 18 → words ≤ 2 ^ 18
    → to ≡ (next + cast_unsigned w32 d) % 2 ^ 32 → to ≤ words → pos to ≡ pos next +ℤ d
BranchesTo-target next to words (pos m) fits a b e within = omega (arith, ints, fits.sfits)
BranchesTo-target next to words (negsuc m) fits a b e within = omega (arith, ints, fits.sfits)

-- a branch
pub Denotes-branch : (c : Option Cond) (ra : ℕ) (r : RowOp) (s : Row) (n k : ℕ) (i : Form) (disp : ℤ)
    → meaning_of r ≡ branch_meaning c ra → s.a ≡ ra → class_of i ≡ branch c ra disp
    → FitsSigned w32 disp → pos s.imm ≡ pos (k + 1) +ℤ disp → s.imm ≤ n → Denotes (meaning_of r) s n k i
Denotes-branch c ra r s n k i disp e same is fits there within =
    subst (λ (w : RowMeaning). Denotes w s n k i) (sym e) (by c is)
  where
    by : (c : Option Cond) → class_of i ≡ branch c ra disp → Denotes (branch_meaning c ra) s n k i
    by None is = at (eqb ra 31) refl
      where
        at : (b : Bool) → eqb ra 31 ≡ b → Denotes (cond b branches links) s n k i
        at true e = record {
          disp = disp;
          fits = fits;
          is = is ∙ ap (λ (r : ℕ). branch None r disp) (eqb-true ra 31 e);
          there = there;
          within = within;
        }
        at false e = record {
          disp = disp;
          fits = fits;
          is = is ∙ ap (λ (r : ℕ). branch None r disp) (sym same);
          there = there;
          within = within;
        }
    by (Some condition) is = record {
      disp = disp;
      fits = fits;
      is = is ∙ ap (λ (r : ℕ). branch (Some condition) r disp) (sym same);
      there = there;
      within = within;
    }

-- ---- the list

pub record AreRows (p : Parts) (rows : List Row) : Type 0 where
  pub each : (k : ℕ) (s : Row) → slice_get rows k ≡ Some s → IsRowAt p k s

slice_get-each_push : {A : Type 0} (P : ℕ → A → Type 0) (xs : List A) (x : A)
    → ((k : ℕ) (s : A) → slice_get xs k ≡ Some s → P k s)
    → P (length xs) x
    → (k : ℕ) (s : A) → slice_get (xs ++ x ∷ []) k ≡ Some s → P k s
slice_get-each_push P [] x each here zero s e = let same : x ≡ s = cc in subst (P 0) same here
slice_get-each_push P [] x each here (suc k) s e = absurd cc
slice_get-each_push P (y ∷ ys) x each here zero s e = each zero s e
slice_get-each_push P (y ∷ ys) x each here (suc k) s e =
    slice_get-each_push (λ n. P (suc n)) ys x (λ n t h. each (suc n) t h) here k s e

pub AreRows-push : (p : Parts) (rows new : List Row) (s : Row) → new ≡ rows ++ s ∷ [] → AreRows p rows
    → IsRowAt p (length rows) s → AreRows p new
AreRows-push p rows new s e are row = record {
  each =
      subst (λ (l : List Row). (k : ℕ) (t : Row) → slice_get l k ≡ Some t → IsRowAt p k t) (sym e)
      (slice_get-each_push (IsRowAt p) rows s are.each row);
}

pub AreRows-none : (p : Parts) → AreRows p []
AreRows-none p = record { each = λ k s e. absurd cc }

pub IsRowAt-made : (p : Parts) (insns : List Form) (k n : ℕ) (i : Form) (s : Row) → map decoded p.words ≡ map Some insns
    → slice_get insns k ≡ Some i → n ≡ length p.words
    → Denotes (meaning_of s.op) s n k i → IsRowAt p k s
IsRowAt-made p insns k n i s held there size said = λ stays. record {
  insn = i;
  there = decoded_there p.words insns k i held there;
  denoted = subst (λ (m : ℕ). Denotes (meaning_of s.op) s m k i) size said;
}

pub IsRowAt-leaves : (p : Parts) (k : ℕ) (s : Row) → meaning_of s.op ≡ leaves → IsRowAt p k s
IsRowAt-leaves p k s e = λ stays. absurd (stays e)

pub length-decoded : (p : Parts) (insns : List Form) → map decoded p.words ≡ map Some insns
    → length p.words ≡ length insns
length-decoded p insns held = sym (length-map p.words decoded) ∙ (ap length held ∙ length-map insns Some)
