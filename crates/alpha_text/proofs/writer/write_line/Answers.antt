use Rattle.std.proofs.Common.{◌≡◌, ◌≤◌, ℕ, List, length, ap, arith}
use Rattle.alpha_text.proofs.NameLookups.{name_of-short}
use Rattle.alpha_text.proofs.writer.write_line.Goals as goal

pub push-requires : goal.push-requires
push-requires c =
    let empty : length c.new-to-inside.result ≡ 0 = ap (λ (line : List ℕ). length line) c.new-to-inside.ensures in
    let short : length c.name.result.now ≤ 13 = rw c.name.ensures (name_of-short c.mnemonic.result) in
    omega arith
