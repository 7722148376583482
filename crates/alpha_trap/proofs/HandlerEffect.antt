-- What the handler leaves, by what its parts did.
use Rattle.std.proofs.Common.{◌≡◌, ◌<◌, ◌%◌, ◌^◌, ℕ, Bool, true, false, cond, None, List, length, refl, sym, ap}
use Rattle.std.proofs.Common.{◌∙◌, arith}
use Rattle.std.specs.Option.{option_map}
use Rattle.std.proofs.lemmas.Grind.{elements}
use Rattle.std.proofs.Math.Nat.{mod-eq_of_lt}
use Rattle.alpha_words.specs.declared.Completion.{Completion}
use Rattle.alpha_words.specs.Regs.{reg, put}
use Rattle.alpha_words.proofs.RegLemmas.{length-put}
use Rattle.alpha_pal.specs.Kernel.{KernelState, user_regs, arith_frame, arith_regs, entered}
use Rattle.alpha_pal.proofs.Registers.{user_regs-entered, reg_16-user_regs, reg_17-user_regs, reg_18-user_regs}
use Rattle.alpha_pal.proofs.Registers.{reg_29-user_regs, reg_30-user_regs}
use Rattle.alpha_image.specs.Parts.{Parts}
use Rattle.alpha_trap.specs.declared.handler.Lost.{Lost}
use Rattle.alpha_trap.specs.Handler.{Handled, going_on, handled, handled_at, kernel_after, mask_in, place_of_trap}
use Rattle.alpha_trap.specs.Handler.{reported, trap_in}

-- the kernel on the way out: its frame has the PC to go on at and the user's registers
leaving-is : (old k : KernelState) (live : List ℕ) (pc : ℕ) → length live ≡ 32 → k.frame.ps ≡ old.frame.ps
    → record { user = true; frame = record k.frame { pc = pc }; user_stack = k.user_stack }
    ≡ kernel_after old (going_on pc (user_regs k live))
leaving-is old k live pc sized status =
    rw (
      reg_16-user_regs k live sized,
      reg_17-user_regs k live sized,
      reg_18-user_regs k live sized,
      reg_29-user_regs k live sized,
      reg_30-user_regs k live sized,
      sym status,
    ) refl

-- directly after an entry R17 has the mask
last_put : (regs : List ℕ) (mask : ℕ) → length regs ≡ 32 → reg (arith_regs regs mask) 17 ≡ mask
unfolding reg put
last_put regs mask sized = grind (arith, elements)

pub mask_in-entry : (regs : List ℕ) (mask : ℕ) → length regs ≡ 32 → mask < 2 ^ 31
    → mask_in (arith_regs regs mask) ≡ mask
mask_in-entry regs mask sized small = ap (λ n. n % 2 ^ 31) (last_put regs mask sized) ∙ mod-eq_of_lt small

abbrev trap_at : ℕ → ℕ → Lost
trap_at pc mask = record { trap_pc = pc; mask = mask }

-- directly after an entry the handler sees the registers, the address and the mask that were given
pub handled-entry : (image : Parts) (completion : Completion) (pc mask : ℕ) (regs : List ℕ) → length regs ≡ 32
    → mask < 2 ^ 31
    → handled image completion (entered (arith_frame pc regs) regs) (arith_regs regs mask)
    ≡ reported image completion pc mask regs
handled-entry image completion pc mask regs sized small =
    ap (λ m. reported image completion pc m (user_regs (entered (arith_frame pc regs) regs) (arith_regs regs mask)))
    (mask_in-entry regs mask sized small)
    ∙ ap (reported image completion pc mask) (user_regs-entered regs pc mask sized)

-- so it does of the kernel and the registers that an entry left
entered-at : (image : Parts) (completion : Completion) (k : KernelState) (live regs : List ℕ) (pc mask : ℕ)
    → k ≡ entered (arith_frame pc regs) regs → live ≡ arith_regs regs mask
    → handled image completion k live
    ≡ handled image completion (entered (arith_frame pc regs) regs) (arith_regs regs mask)
entered-at image completion k live regs pc mask is_k is_live =
    ap (λ (s : KernelState). handled image completion s live) is_k
    ∙ ap (λ l. handled image completion (entered (arith_frame pc regs) regs) l) is_live

pub handled_report-reported : (image : Parts) (completion : Completion) (k : KernelState) (live regs : List ℕ)
    (pc mask : ℕ)
    → length regs ≡ 32 → mask < 2 ^ 31 → k ≡ entered (arith_frame pc regs) regs → live ≡ arith_regs regs mask
    → handled image completion k live ≡ reported image completion pc mask regs
handled_report-reported image completion k live regs pc mask sized small is_k is_live =
    entered-at image completion k live regs pc mask is_k is_live
    ∙ handled-entry image completion pc mask regs sized small

-- and the trap is the one that was given
pub trap_in-entry : (k : KernelState) (live regs : List ℕ) (pc mask : ℕ) → length regs ≡ 32 → mask < 2 ^ 31
    → k ≡ entered (arith_frame pc regs) regs → live ≡ arith_regs regs mask
    → trap_in k live ≡ record { trap_pc = pc; mask = mask }
trap_in-entry k live regs pc mask sized small is_k is_live =
    ap (λ (s : KernelState). trap_in s live) is_k
    ∙ (ap (λ l. trap_in (entered (arith_frame pc regs) regs) l) is_live
    ∙ ap (trap_at pc) (mask_in-entry regs mask sized small))

-- where the scan loses a trap, its report is lost
pub reported-lost : (image : Parts) (completion : Completion) (pc mask : ℕ) (regs : List ℕ) (lost : Lost)
    → lost ≡ record { trap_pc = pc; mask = mask } → place_of_trap image lost ≡ None
    → reported image completion pc mask regs ≡ None
reported-lost image completion pc mask regs lost is none =
    ap (option_map (handled_at image completion regs)) (sym (ap (λ (t : Lost). place_of_trap image t) is) ∙ none)

-- the kernel after a return, by the calls that made it
pub kernel_after-return : (old k set done : KernelState) (live new : List ℕ) (next pc : ℕ) → length live ≡ 32
    → k.frame.ps ≡ old.frame.ps
    → set ≡ record k { frame = record k.frame { pc = next } } → done ≡ record set { user = true }
    → new ≡ user_regs set live → pc ≡ set.frame.pc
    → done ≡ kernel_after old (going_on pc new)
kernel_after-return old k set done live new next pc sized status is_set is_done is_new is_pc =
    let same_regs : new ≡ user_regs k live = is_new ∙ ap (λ (s : KernelState). user_regs s live) is_set in
    let same_pc : pc ≡ next = is_pc ∙ ap (λ (s : KernelState). s.frame.pc) is_set in
    is_done ∙ (ap (λ (s : KernelState). record s { user = true }) is_set
    ∙ (leaving-is old k live next sized status
    ∙ ap (λ (h : Handled). kernel_after old h)
    (ap (λ n. going_on n (user_regs k live)) (sym same_pc) ∙ ap (λ rs. going_on pc rs) (sym same_regs))))

-- a write of a user's register leaves as many live registers as there were
pub length_live : (saved : Bool) (regs : List ℕ) (r v : ℕ) → length (cond saved regs (put regs r v)) ≡ length regs
length_live true regs r v = refl
length_live false regs r v = length-put regs r v
