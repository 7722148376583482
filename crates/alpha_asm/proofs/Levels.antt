-- A statement that is not misplaced leaves each instruction at the level, and so do the addresses that are put in.
use Rattle.std.proofs.Common.{◌≡◌, ℕ, ◌+◌, ◌*◌, List, [], ◌∷◌, ◌++◌, All, Bool, true, false, ◌||◌, nat_lt, Option, None}
use Rattle.std.proofs.Common.{Some, refl, sym, ◌∙◌, subst}
use Rattle.std.specs.Prelude.{ℤ, slice_get, slice_set}
use Rattle.std.specs.Option.{option_map_or, unwrap_or}
use Rattle.std.proofs.lemmas.Bool.{ltb-false}
use Rattle.std.proofs.lemmas.List.{append-nil}
use Rattle.std.proofs.lemmas.List.Elements.{All-append, All-cons, All-nil, All-set}
use Rattle.std.proofs.lemmas.Option.{slice_get_within, get_or_from_slice_get}
use Rattle.alpha_words.specs.Levels.{level_number}
use Rattle.alpha_table.specs.declared.form.Form.{Form}
use Rattle.alpha_table.specs.declared.form.Form.TheVariants.{Mem, Branch}
use Rattle.alpha_table.specs.Columns.{level_of}
use Rattle.alpha_text.specs.Statements.{Stmt}
use Rattle.alpha_text.specs.Statements as says
use Rattle.alpha_asm.specs.Layout.{Place, place_after, is_data, is_misplaced}
use Rattle.alpha_asm.specs.declared.patch.Displacement.{Displacement}
use Rattle.alpha_asm.specs.declared.patch.Displacement.TheVariants.{Words, Bytes}
use Rattle.alpha_asm.specs.Program.{Known, Target, by_insn, by_cell, by_entry, address_of, reached, displaced}
use Rattle.alpha_asm.specs.Patches.{Fix, raw_insns, code_at, code_with, code_after}
use Rattle.alpha_asm.specs.Pass.{IsAtLevel, Leveled}
use Rattle.alpha_asm.proofs.SoundPlaces.{or_true-not_false, or_false-identity}

-- an instruction that is not misplaced is there at the level
placed_at : (elsewhere : Bool) (level : Option ℕ) (i : Form)
    → (elsewhere || nat_lt (unwrap_or level 1) (level_number (level_of i))) ≡ false → IsAtLevel level i
placed_at true level i h = absurd cc
placed_at false level i h = ltb-false (unwrap_or level 1) (level_number (level_of i)) h

one_more : (p : Place) (code : List Form) (i : Form) → All (IsAtLevel p.level) code
    → (is_data p.section || nat_lt (unwrap_or p.level 1) (level_number (level_of i))) ≡ false
    → All (IsAtLevel p.level) (code ++ i ∷ [])
one_more p code i a h =
    All-append (IsAtLevel p.level) code (i ∷ []) a
    (All-cons (IsAtLevel p.level) i [] (placed_at (is_data p.section) p.level i h) (All-nil (IsAtLevel p.level)))

none_more : (level : Option ℕ) (code : List Form) → All (IsAtLevel level) code → All (IsAtLevel level) (code ++ [])
none_more level code a = subst (All (IsAtLevel level)) (sym (append-nil code)) a

insns-place_after : (p : Place) (code : List Form) (s : Stmt) → is_misplaced p s ≡ false → Leveled p code
    → All (IsAtLevel (place_after p s).level) (code ++ raw_insns s)
insns-place_after p code (says.code insn) h l = one_more p code insn l.insns h
insns-place_after p code (says.target insn label offset) h l = one_more p code insn l.insns h
insns-place_after p code (says.high insn label offset) h l = one_more p code insn l.insns h
insns-place_after p code (says.low insn label offset) h l = one_more p code insn l.insns h
insns-place_after p code (says.level n) h l = rw (l.fresh h) (All-nil (IsAtLevel (Some n)))
insns-place_after p code _ h l = none_more p.level code l.insns

pub leveled-place_after : (p : Place) (code : List Form) (s : Stmt) → is_misplaced p s ≡ false → Leveled p code
    → Leveled (place_after p s) (code ++ raw_insns s)
leveled-place_after p code s h l = record { insns = insns-place_after p code s h l; fresh = untouched s }
  where
    untouched : (s : Stmt) → (place_after p s).begun ≡ false → (code ++ raw_insns s) ≡ []
    untouched says.empty g = append-nil code ∙ l.fresh (or_false-identity p.begun g)
    untouched _ g = absurd (or_true-not_false p.begun g)

-- another displacement makes no instruction of another level
level-displaced : (i : Form) (d : Displacement) → level_of (displaced i d) ≡ level_of i
level-displaced (Branch op ra old) (Words new) = refl
level-displaced (Mem op ra rb old) (Bytes new) = refl
level-displaced _ d = refl

insns-at : (level : Option ℕ) (d : Option Displacement) (place : ℕ) (code : List Form) → All (IsAtLevel level) code
    → All (IsAtLevel level) (code_at d place code)
insns-at level None place code a = a
insns-at level (Some d) place code a = by (slice_get code place) refl
  where
    by : (o : Option Form) → slice_get code place ≡ o
        → All (IsAtLevel level) (option_map_or (λ insn. slice_set code place (displaced insn d)) o code)
    by None e = a
    by (Some insn) e =
        let old : IsAtLevel level insn =
        rw (get_or_from_slice_get code place insn insn e) at (a place insn (slice_get_within code place insn e)) in
        let new : IsAtLevel level (displaced insn d) = rw (level-displaced insn d) old in
        All-set (IsAtLevel level) code place (displaced insn d) new a

pub insns-after : (level : Option ℕ) (k : Known) (fs : List Fix) (code : List Form) → All (IsAtLevel level) code
    → All (IsAtLevel level) (code_after k fs code)
insns-after level k [] code a = a
insns-after level k (f ∷ fs) code a =
    insns-after level k fs (code_with k (address_of k f.name.reference) f.name.target code)
    (one (address_of k f.name.reference) f.name.target)
  where
    one : (n : ℤ) (target : Target) → All (IsAtLevel level) (code_with k n target code)
    one n (by_insn by words) = insns-at level (reached by (k.code_base + 4 * words) n) words code a
    one n by_cell = a
    one n by_entry = a
