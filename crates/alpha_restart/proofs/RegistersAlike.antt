-- Registers that are the same or dead, from one word to the next.
use Rattle.std.proofs.Common.{◌≡◌, ◌≢◌, ◌<◌, ◌≤◌, ◌+◌, ℕ, true, List, length, Some, refl, sym, ap, subst, ◌∙◌, ⊎_elim}
use Rattle.std.proofs.Common.{inl, inr, arith, max}
use Rattle.std.proofs.lemmas.Bool.{cases_eq, cases_lt}
use Rattle.alpha_words.specs.Regs.{reg}
use Rattle.alpha_table.specs.Code.{class_at}
use Rattle.alpha_table.specs.Uses.{sets}
use Rattle.alpha_restart.specs.Safe.{Steady, is_steady}
use Rattle.alpha_restart.specs.Match.{Dead, Alike}
use Rattle.alpha_restart.proofs.Registers.{option-equal_or_not, reg-extensional}

-- a dead register that the word doesn't set is dead behind it
pub Dead-next_word : (code : List ℕ) (q e f r : ℕ) → sets (class_at code q) ≢ Some r → Dead code q e r → e ≤ f
    → Dead code (q + 1) f r
Dead-next_word code q e f r unset d more = record {
  at = d.at;
  above = ⊎_elim
      (λ (same : d.at ≡ q). absurd (unset (ap (λ k. sets (class_at code k)) (sym same) ∙ d.written)))
      (λ (apart : d.at ≡ q → ⊥). let low = d.above in omega arith)
      (cases_eq d.at q);
  below = let b = d.below in omega arith;
  written = d.written;
  unused = λ j low high. d.unused j (omega arith) high;
}

-- and is dead with an end further on
pub dead_more : (code : List ℕ) (q e f r : ℕ) → Dead code q e r → e ≤ f → Dead code q f r
dead_more code q e f r d more = record {
  at = d.at;
  above = d.above;
  below = let b = d.below in omega arith;
  written = d.written;
  unused = d.unused;
}

-- Registers behind a word: where it is given what each new one is, by the old ones and by what the word sets.
pub Alike-next_word : (code : List ℕ) (q e : ℕ) (s a t b : List ℕ) → Alike code q e s a → q < e → length t ≡ 32
    → length b ≡ 32
    → ((x : ℕ) → sets (class_at code q) ≢ Some x → reg t x ≡ reg s x)
    → ((x : ℕ) → sets (class_at code q) ≢ Some x → reg b x ≡ reg a x)
    → ((x : ℕ) → sets (class_at code q) ≡ Some x → reg b x ≡ reg t x)
    → Alike code (q + 1) e t b
Alike-next_word code q e s a t b h less size also same_unset same_unset_too both = record {
  order = omega arith;
  size = size;
  size_too = also;
  registers = λ r. ⊎_elim
      (λ (is : sets (class_at code q) ≡ Some r). inl (both r is))
      (λ (n : sets (class_at code q) ≢ Some r). ⊎_elim
      (λ (same : reg a r ≡ reg s r). inl (same_unset_too r n ∙ (same ∙ sym (same_unset r n))))
      (λ (d : Dead code q e r). inr (Dead-next_word code q e e r n d (omega arith)))
      (h.registers r))
      (option-equal_or_not (sets (class_at code q)) r);
  steady = λ k low high. h.steady k (omega arith) high;
}

-- at the end no register is dead
pub Alike-end : (code : List ℕ) (q : ℕ) (s a : List ℕ) → Alike code q q s a → a ≡ s
Alike-end code q s a h = reg-extensional a s (h.size_too ∙ sym h.size) (λ r. ⊎_elim
    (λ (same : reg a r ≡ reg s r). same)
    (λ (d : Dead code q q r). let low = d.above in let high = d.below in absurd (omega arith))
    (h.registers r))

-- the same registers are alike
pub Alike-refl : (code : List ℕ) (q : ℕ) (s : List ℕ) → length s ≡ 32 → Alike code q q s s
Alike-refl code q s size = record {
  order = omega arith;
  size = size;
  size_too = size;
  registers = λ r. inl refl;
  steady = λ k low high. absurd (omega arith);
}

-- one word more is steady
pub Steady-next_word : (code : List ℕ) (p q e : ℕ) → Steady code p e → q ≤ e → is_steady (class_at code q) ≡ true
    → Steady code p (max e (q + 1))
Steady-next_word code p q e h order here = λ k low high. ⊎_elim
    (λ (below : k < e). h k low below)
    (λ (past : e ≤ k). subst (λ j. is_steady (class_at code j) ≡ true) (let same : q ≡ k = omega arith in same) here)
    (cases_lt k e)
