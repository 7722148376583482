-- Each name has 2 bytes at least.
use Rattle.std.proofs.Common.{◌≡◌, ◌≤◌, true, length, nat_le, refl, arith}
use Rattle.std.specs.List.{list_all}
use Rattle.std.specs.Str.{bytes_eq}
use Rattle.std.proofs.lemmas.Bool.Decides.{nat_tests}
use Rattle.alpha_table.specs.declared.names.Mnemonic.{Mnemonic}
use Rattle.alpha_table.specs.Names.{name_of}
use Rattle.alpha_text.specs.Heads.{every_mnemonic}
use Rattle.alpha_text.proofs.NameLookups.{mnemonic_at-name, find-list_all}

each_long : list_all (λ m. nat_le 2 (length (name_of m))) every_mnemonic ≡ true
unfolding every_mnemonic
each_long = refl

pub name_of-long : (m : Mnemonic) → 2 ≤ length (name_of m)
name_of-long m =
    let h : nat_le 2 (length (name_of m)) ≡ true = find-list_all (λ n. bytes_eq (name_of n) (name_of m))
    (λ n. nat_le 2 (length (name_of n))) every_mnemonic m each_long (mnemonic_at-name m) in
    grind (arith, nat_tests, h)
