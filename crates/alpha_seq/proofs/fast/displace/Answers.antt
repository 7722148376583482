use Rattle.std.proofs.Common.{◌≡◌, ◌+◌, ◌%◌, ◌^◌, FitsSigned, of_z, w32, w64, ◌∙◌, arith, rules}
use Rattle.std.proofs.lemmas.Int.{to_z-of_z}
use Rattle.alpha_values.proofs.MachineWords.{register_of-sum}
use Rattle.alpha_seq.proofs.fast.displace.Goals as goal

pub returns : goal.returns
returns c =
    let p = c.args.place in
    let d = c.args.disp in
    let wide : c.from.result ≡ d = c.from.ensures ∙ to_z-of_z w32 d c.ranges.disp in
    let fits : FitsSigned w64 d = search rules in
    let called : c.wrapping_add_signed.result ≡ (p + of_z w64 d) % 2 ^ 64 = grind (arith, to_z-of_z) in
    called ∙ register_of-sum p d (omega arith) fits
