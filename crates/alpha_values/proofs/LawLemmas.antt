-- Completed values: what they are where nothing overflows, and that wrap gives what `operate` gives.
use Rattle.std.proofs.Common.{◌≡◌, ℕ, ◌↔◌, ◌⊎◌, inl, inr, ⊎_elim, ℤ, pos, negsuc, true, false, Some, ap, sym, arith}
use Rattle.std.proofs.Common.{FitsSigned}
use Rattle.std.specs.Int.{Width, saturate_signed}
use Rattle.std.proofs.lemmas.Int.{int_wrap_fits}
use Rattle.std.proofs.lemmas.Bool.{cases_lt}
use Rattle.alpha_words.specs.declared.Level.{Level}
use Rattle.alpha_words.specs.declared.Completion.{Completion}
use Rattle.alpha_words.specs.declared.Completion.TheVariants.{Wrap, Saturate, Stop}
use Rattle.alpha_table.specs.declared.op.Op.{Op}
use Rattle.alpha_table.specs.declared.op.Op.TheVariants.{AddlV, SublV, AddqV, SubqV, MullV, MulqV}
use Rattle.alpha_table.specs.declared.op.TrapOp.{TrapOp}
use Rattle.alpha_table.specs.declared.op.TrapOp.TheVariants as traps
use Rattle.alpha_table.specs.Op.{trap_of}
use Rattle.alpha_values.specs.Numbers.{register_of}
use Rattle.alpha_values.specs.TrapOp.{size_of, exact, overflow_of, Overflows, completion_of, completed_of}
use Rattle.alpha_values.specs.Op.{result_of}
use Rattle.alpha_values.proofs.SignedRanges.{overflow_out_of_range}

pub completed-wrap : (level : Level) (op : Op) (trap : TrapOp) (a b old : ℕ) → trap_of op ≡ Some trap
    → completed_of trap a b Wrap ≡ result_of level op a b old
unfolding completed_of result_of
completed-wrap level AddlV trap a b old e = let same : trap ≡ traps.AddlV = cc in ap (λ t. completed_of t a b Wrap) same
completed-wrap level SublV trap a b old e = let same : trap ≡ traps.SublV = cc in ap (λ t. completed_of t a b Wrap) same
completed-wrap level MullV trap a b old e = let same : trap ≡ traps.MullV = cc in ap (λ t. completed_of t a b Wrap) same
completed-wrap level AddqV trap a b old e = let same : trap ≡ traps.AddqV = cc in ap (λ t. completed_of t a b Wrap) same
completed-wrap level SubqV trap a b old e = let same : trap ≡ traps.SubqV = cc in ap (λ t. completed_of t a b Wrap) same
completed-wrap level MulqV trap a b old e = let same : trap ≡ traps.MulqV = cc in ap (λ t. completed_of t a b Wrap) same
completed-wrap level _ trap a b old e = cc

pub Overflows-range : (op : TrapOp) (a b : ℕ) → Overflows op a b ↔ ¬ FitsSigned (size_of op) (exact op a b)
unfolding overflow_of
Overflows-range op a b = (
  λ h fits. let e : false ≡ overflow_of op a b = overflow_out_of_range false (size_of op) (exact op a b) fits in
      let f : overflow_of op a b ≡ true = h in
      cc,
  λ outside. sym (overflow_out_of_range true (size_of op) (exact op a b) outside),
)

fits_cases : (w : Width) (z : ℤ) → FitsSigned w z ⊎ ¬ FitsSigned w z
fits_cases w (pos n) = ⊎_elim (λ p. inl (record { sfits = p })) (λ p. inr (λ h. omega (arith, h.sfits))) (cases_lt n _)
fits_cases w (negsuc n) =
    ⊎_elim (λ p. inl (record { sfits = p })) (λ p. inr (λ h. omega (arith, h.sfits))) (cases_lt n _)

saturate_fits : (w : Width) (z : ℤ) → FitsSigned w z → saturate_signed w z ≡ z
saturate_fits w (pos n) fits = let h = fits.sfits in ap pos (omega arith)
saturate_fits w (negsuc n) fits = let h = fits.sfits in ap negsuc (omega arith)

completion_fits : (completion : Completion) (w : Width) (z : ℤ) → FitsSigned w z → completion_of completion w z ≡ z
completion_fits Wrap w z fits = int_wrap_fits w z fits
completion_fits Saturate w z fits = saturate_fits w z fits
completion_fits Stop w z fits = int_wrap_fits w z fits

pub completed-exact : (op : TrapOp) (a b : ℕ) (completion : Completion) → ¬ Overflows op a b
    → completed_of op a b completion ≡ register_of (exact op a b)
unfolding completed_of
completed-exact op a b completion within =
    ⊎_elim (λ (p : FitsSigned (size_of op) (exact op a b)). ap register_of (completion_fits completion _ _ p))
    (λ (p : FitsSigned (size_of op) (exact op a b) → ⊥). absurd (within ((Overflows-range op a b).1 p)))
    (fits_cases (size_of op) (exact op a b))
