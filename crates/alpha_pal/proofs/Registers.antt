-- The user's registers over an entry, a write and a return.
use Rattle.std.proofs.Common.{◌≡◌, ◌≢◌, ℕ, List, length, refl, sym, ap, ◌∙◌, arith}
use Rattle.std.proofs.lemmas.Grind.{elements}
use Rattle.alpha_words.specs.Regs.{reg, put}
use Rattle.alpha_words.proofs.RegLemmas.{put_comm, put-put}
use Rattle.alpha_pal.specs.declared.frame.Frame.{Frame}
use Rattle.alpha_pal.specs.Kernel.{KernelState, user_regs, arith_frame, entered, arith_regs, saving}

-- directly after an entry the user's registers are those before it
pub user_regs-entered : (regs : List ℕ) (pc mask : ℕ) → length regs ≡ 32
    → user_regs (entered (arith_frame pc regs) regs) (arith_regs regs mask) ≡ regs
unfolding reg put
user_regs-entered regs pc mask sized = grind (arith, elements)

-- a write of a register that the entry saves
pub put_16-user_regs : (k : KernelState) (live : List ℕ) (v : ℕ)
    → put (user_regs k live) 16 v ≡ user_regs (saving k 16 v) live
put_16-user_regs k live v =
    rw (
      put_comm _ 30 16 k.user_stack v (omega arith),
      put_comm _ 29 16 k.frame.gp v (omega arith),
      put_comm _ 18 16 k.frame.r18 v (omega arith),
      put_comm _ 17 16 k.frame.r17 v (omega arith),
      put-put,
    ) refl

pub put_17-user_regs : (k : KernelState) (live : List ℕ) (v : ℕ)
    → put (user_regs k live) 17 v ≡ user_regs (saving k 17 v) live
put_17-user_regs k live v =
    rw (
      put_comm _ 30 17 k.user_stack v (omega arith),
      put_comm _ 29 17 k.frame.gp v (omega arith),
      put_comm _ 18 17 k.frame.r18 v (omega arith),
      put-put,
    ) refl

pub put_18-user_regs : (k : KernelState) (live : List ℕ) (v : ℕ)
    → put (user_regs k live) 18 v ≡ user_regs (saving k 18 v) live
put_18-user_regs k live v =
    rw (put_comm _ 30 18 k.user_stack v (omega arith), put_comm _ 29 18 k.frame.gp v (omega arith), put-put) refl

pub put_29-user_regs : (k : KernelState) (live : List ℕ) (v : ℕ)
    → put (user_regs k live) 29 v ≡ user_regs (saving k 29 v) live
put_29-user_regs k live v = rw (put_comm _ 30 29 k.user_stack v (omega arith), put-put) refl

pub put_30-user_regs : (k : KernelState) (live : List ℕ) (v : ℕ)
    → put (user_regs k live) 30 v ≡ user_regs (saving k 30 v) live
put_30-user_regs k live v = put-put _ 30 k.user_stack v

-- a write of a register that the entry doesn't save
pub put_live-user_regs : (k : KernelState) (live : List ℕ) (r v : ℕ) → r ≢ 16 → r ≢ 17 → r ≢ 18 → r ≢ 29 → r ≢ 30
    → user_regs k (put live r v) ≡ put (user_regs k live) r v
put_live-user_regs k live r v n16 n17 n18 n29 n30 =
    rw (
      put_comm live r 16 v k.frame.r16 n16,
      put_comm _ r 17 v k.frame.r17 n17,
      put_comm _ r 18 v k.frame.r18 n18,
      put_comm _ r 29 v k.frame.gp n29,
      put_comm _ r 30 v k.user_stack n30,
    ) refl

-- what the user's registers are
pub reg_16-user_regs : (k : KernelState) (live : List ℕ) → length live ≡ 32 → reg (user_regs k live) 16 ≡ k.frame.r16
unfolding reg put
reg_16-user_regs k live sized = grind (arith, elements)

pub reg_17-user_regs : (k : KernelState) (live : List ℕ) → length live ≡ 32 → reg (user_regs k live) 17 ≡ k.frame.r17
unfolding reg put
reg_17-user_regs k live sized = grind (arith, elements)

pub reg_18-user_regs : (k : KernelState) (live : List ℕ) → length live ≡ 32 → reg (user_regs k live) 18 ≡ k.frame.r18
unfolding reg put
reg_18-user_regs k live sized = grind (arith, elements)

pub reg_29-user_regs : (k : KernelState) (live : List ℕ) → length live ≡ 32 → reg (user_regs k live) 29 ≡ k.frame.gp
unfolding reg put
reg_29-user_regs k live sized = grind (arith, elements)

pub reg_30-user_regs : (k : KernelState) (live : List ℕ) → length live ≡ 32 → reg (user_regs k live) 30 ≡ k.user_stack
unfolding reg put
reg_30-user_regs k live sized = grind (arith, elements)

pub reg-user_regs : (k : KernelState) (live : List ℕ) (r : ℕ) → r ≢ 16 → r ≢ 17 → r ≢ 18 → r ≢ 29 → r ≢ 30
    → reg (user_regs k live) r ≡ reg live r
unfolding reg put
reg-user_regs k live r n16 n17 n18 n29 n30 = grind (arith, elements)

pub user_regs-saved_16 : (k new : KernelState) (f : Frame) (live : List ℕ) (r v : ℕ) → f ≡ k.frame
    → new ≡ record k { frame = record f { r16 = v } } → r ≡ 16 → user_regs new live ≡ put (user_regs k live) r v
user_regs-saved_16 k new f live r v same is number =
    let old : record k { frame = record f { r16 = v } } ≡ saving k 16 v =
    ap (λ (g : Frame). record k { frame = record g { r16 = v } }) same in
    ap (λ (s : KernelState). user_regs s live) (is ∙ old)
    ∙ (sym (put_16-user_regs k live v) ∙ ap (λ n. put (user_regs k live) n v) (sym number))

pub user_regs-saved_17 : (k new : KernelState) (f : Frame) (live : List ℕ) (r v : ℕ) → f ≡ k.frame
    → new ≡ record k { frame = record f { r17 = v } } → r ≡ 17 → user_regs new live ≡ put (user_regs k live) r v
user_regs-saved_17 k new f live r v same is number =
    let old : record k { frame = record f { r17 = v } } ≡ saving k 17 v =
    ap (λ (g : Frame). record k { frame = record g { r17 = v } }) same in
    ap (λ (s : KernelState). user_regs s live) (is ∙ old)
    ∙ (sym (put_17-user_regs k live v) ∙ ap (λ n. put (user_regs k live) n v) (sym number))

pub user_regs-saved_18 : (k new : KernelState) (f : Frame) (live : List ℕ) (r v : ℕ) → f ≡ k.frame
    → new ≡ record k { frame = record f { r18 = v } } → r ≡ 18 → user_regs new live ≡ put (user_regs k live) r v
user_regs-saved_18 k new f live r v same is number =
    let old : record k { frame = record f { r18 = v } } ≡ saving k 18 v =
    ap (λ (g : Frame). record k { frame = record g { r18 = v } }) same in
    ap (λ (s : KernelState). user_regs s live) (is ∙ old)
    ∙ (sym (put_18-user_regs k live v) ∙ ap (λ n. put (user_regs k live) n v) (sym number))

pub user_regs-saved_29 : (k new : KernelState) (f : Frame) (live : List ℕ) (r v : ℕ) → f ≡ k.frame
    → new ≡ record k { frame = record f { gp = v } } → r ≡ 29 → user_regs new live ≡ put (user_regs k live) r v
user_regs-saved_29 k new f live r v same is number =
    let old : record k { frame = record f { gp = v } } ≡ saving k 29 v =
    ap (λ (g : Frame). record k { frame = record g { gp = v } }) same in
    ap (λ (s : KernelState). user_regs s live) (is ∙ old)
    ∙ (sym (put_29-user_regs k live v) ∙ ap (λ n. put (user_regs k live) n v) (sym number))

pub user_regs-saved_30 : (k new : KernelState) (live : List ℕ) (r v : ℕ) → new ≡ saving k 30 v → r ≡ 30
    → user_regs new live ≡ put (user_regs k live) r v
user_regs-saved_30 k new live r v is number =
    ap (λ (s : KernelState). user_regs s live) is
    ∙ (sym (put_30-user_regs k live v) ∙ ap (λ n. put (user_regs k live) n v) (sym number))

-- the registers after an entry, by the writes that made them
pub user_regs-after_entry : (k : KernelState) (regs now : List ℕ) (pc mask : ℕ) → length regs ≡ 32
    → k ≡ entered (arith_frame pc regs) regs → now ≡ arith_regs regs mask → user_regs k now ≡ regs
user_regs-after_entry k regs now pc mask sized state live =
    ap (λ (s : KernelState). user_regs s now) state
    ∙ (ap (λ l. user_regs (entered (arith_frame pc regs) regs) l) live ∙ user_regs-entered regs pc mask sized)
