-- The level of a class is that of its instruction.
use Rattle.std.proofs.Common.{◌≡◌, ◌↔◌, ◌≤◌, ℕ, Bool, true, false, cond, Option, Some, None, refl, sym, subst}
use Rattle.std.specs.Prelude.{◌==◌, IsSomeAnd}
use Rattle.std.specs.Option.{option_map}
use Rattle.alpha_words.specs.declared.Level.{Level}
use Rattle.alpha_words.specs.declared.Level.TheVariants.{One}
use Rattle.alpha_words.specs.Levels.{level_number}
use Rattle.alpha_table.specs.declared.op.Op.TheVariants as ops
use Rattle.alpha_table.specs.declared.rows.MemOp.TheVariants as memories
use Rattle.alpha_table.specs.declared.rows.MiscOp.TheVariants as miscs
use Rattle.alpha_table.specs.declared.rows.Extension.{Extension}
use Rattle.alpha_table.specs.declared.columns.MemAccess.{MemAccess}
use Rattle.alpha_table.specs.declared.form.Form.{Form}
use Rattle.alpha_table.specs.declared.form.Form.TheVariants.{Mem, Branch, Jump, Operate, Misc, Fetch, Pal}
use Rattle.alpha_table.specs.Class.{load, idle}
use Rattle.alpha_table.specs.ClassOf.{class_of}
use Rattle.alpha_table.specs.Words.{class_in, level_in}
use Rattle.alpha_table.specs.Columns.{level_of}
use Rattle.alpha_table.specs.Decoded.{decoded}
use Rattle.alpha_table.proofs.Classes.{class_in-decoded}

level_load : (b : Bool) (extension : Extension) (at : MemAccess) (ra : ℕ)
    → level_in (cond b idle (load extension at ra)) ≡ One
level_load true extension at ra = refl
level_load false extension at ra = refl

pub level_in-class_of : (i : Form) → level_in (class_of i) ≡ level_of i
level_in-class_of (Mem memories.Ldbu ra rb disp) = level_load (ra == 31) _ _ ra
level_in-class_of (Mem memories.LdqU ra rb disp) = level_load (ra == 31) _ _ ra
level_in-class_of (Mem memories.Ldwu ra rb disp) = level_load (ra == 31) _ _ ra
level_in-class_of (Mem memories.Ldl ra rb disp) = level_load (ra == 31) _ _ ra
level_in-class_of (Mem memories.Ldq ra rb disp) = level_load (ra == 31) _ _ ra
level_in-class_of (Mem _ ra rb disp) = refl
level_in-class_of (Branch op ra disp) = refl
level_in-class_of (Jump kind ra rb hint) = refl
level_in-class_of (Misc miscs.Trapb) = refl
level_in-class_of (Misc _) = refl
level_in-class_of (Fetch modify rb) = refl
level_in-class_of (Pal call) = refl
level_in-class_of (Operate ops.Ctpop ra src rc) = refl
level_in-class_of (Operate _ ra src rc) = refl

IsLowLevel : Level → Level → Type 0
IsLowLevel level own = level_number own ≤ level_number level

at_level : (level : Level) (o : Option Form)
    → IsSomeAnd (option_map class_of o) (λ c. level_number (level_in c) ≤ level_number level)
    ↔ IsSomeAnd o (λ i. level_number (level_of i) ≤ level_number level)
unfolding IsLowLevel
at_level level None = (λ h. h, λ h. h)
at_level level (Some i) =
    (subst (IsLowLevel level) (level_in-class_of i), subst (IsLowLevel level) (sym (level_in-class_of i)))

-- a word is there at a level by its class as by its instruction
pub level_in-decoded : (level : Level) (w : ℕ)
    → IsSomeAnd (class_in w) (λ c. level_number (level_in c) ≤ level_number level)
    ↔ IsSomeAnd (decoded w) (λ i. level_number (level_of i) ≤ level_number level)
level_in-decoded level w =
    subst (λ o. IsSomeAnd o (λ c. level_number (level_in c) ≤ level_number level)
    ↔ IsSomeAnd (decoded w) (λ i. level_number (level_of i) ≤ level_number level))
    (sym (class_in-decoded w)) (at_level level (decoded w))
