use Rattle.std.proofs.Common.{◌≡◌, ◌+◌, ◌⊎◌, ℕ, length, slice_index}
use Rattle.alpha_words.specs.Regs.{Has}
use Rattle.alpha_shadow.proofs.last.LastPlaces.note_all.Given as goal

-- each register is still to come, or was noted, or is no member
abbrev pub invariant-loop-r : goal.invariant-loop-r
invariant-loop-r l = record {
  size : length l.self.ends ≡ length l.initial.self.ends;
  rest : (r : ℕ) → Has l.rest r → Has l.fn.registers r;
  noted : (r : ℕ) → Has l.fn.registers r → Has l.rest r ⊎ (slice_index l.self.ends r ≡ l.place + 1);
  others : (r : ℕ) → (Has l.fn.registers r → ⊥) → slice_index l.self.ends r ≡ slice_index l.initial.self.ends r;
}

abbrev pub decreases-loop-r : goal.decreases-loop-r
decreases-loop-r l = l.rest
