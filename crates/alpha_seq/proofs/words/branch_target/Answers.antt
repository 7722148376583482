use Rattle.std.proofs.Common.{◌≡◌, ◌+◌, ◌%◌, ◌^◌, ℤ, pos, ◌+ℤ◌, ◌*ℤ◌, FitsSigned, of_z, w32, w64, ap, ◌∙◌, arith, rules}
use Rattle.std.proofs.lemmas.Int.{ints, to_z-of_z}
use Rattle.alpha_values.specs.Numbers.{register_of}
use Rattle.alpha_values.proofs.MachineWords.{register_of-sum}
use Rattle.alpha_seq.proofs.words.branch_target.Goals as goal

pub returns : goal.returns
returns c =
    let pc = c.args.pc in
    let d = c.args.disp in
    let z : ℤ = d *ℤ pos 4 +ℤ pos 4 in
    let wide : c.from.result ≡ d = c.from.ensures ∙ to_z-of_z w32 d c.ranges.disp in
    let fits : FitsSigned w64 z = search rules in
    let called : c.wrapping_add_signed.result ≡ (pc + of_z w64 z) % 2 ^ 64 = grind (arith, to_z-of_z) in
    let moved : pos pc +ℤ z ≡ pos (pc + 4) +ℤ pos 4 *ℤ d = omega (arith, ints) in
    called ∙ (register_of-sum pc z (omega arith) fits ∙ ap register_of moved)
