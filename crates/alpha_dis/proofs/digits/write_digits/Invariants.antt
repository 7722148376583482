use Rattle.std.proofs.Common.{◌≡◌, ◌+◌, ◌%◌, ◌^◌, ◌<◌, ◌∷◌, false, drop}
use Rattle.std.specs.Fmt.{digits, digit_glyph}
use Rattle.alpha_dis.proofs.Hexadecimal.{hex_digits_onto}
use Rattle.alpha_dis.proofs.digits.write_digits.Given as goal

abbrev pub invariant-loop-rest : goal.invariant-loop-rest
invariant-loop-rest l = record {
  place : l.at < 16;
  within : l.rest < 16 ^ (l.at + 1);
  last : drop l.at l.out ≡ digit_glyph false (l.rest % 16) ∷ drop (l.at + 1) l.out;
  written : hex_digits_onto (l.at + 1) l.rest (drop (l.at + 1) l.out) ≡ digits 16 false l.number;
}

abbrev pub decreases-loop-rest : goal.decreases-loop-rest
decreases-loop-rest l = l.rest
