use Rattle.std.proofs.Common.{◌≡◌, ◌++◌, ◌-◌}
use Rattle.alpha_words.specs.Digits.{low_bytes}
use Rattle.alpha_asm.proofs.data.Data.push_number.Given as goal

abbrev pub invariant-loop : goal.invariant-loop
invariant-loop l =
    l.self.items ++ low_bytes (l.count - l.counter) l.rest ≡ l.initial.self.items ++ low_bytes l.count l.n
