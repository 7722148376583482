use Rattle.std.proofs.Common.{◌≡◌, ◌+◌, ◌-◌, ◌≤◌, ◌∙◌, length, arith}
use Rattle.alpha_asm.proofs.PutAddresses.{le_bytes-overlaid}
use Rattle.alpha_asm.proofs.bases.put_quadword.Goals as goal

pub returns : goal.returns
returns c =
    let room : c.args.at + 8 ≤ length c.args.bytes.now = omega arith in
    let eight : c.args.at + 8 - c.args.at ≡ 8 = omega arith in
    rw eight
    (le_bytes-overlaid c.args.at c.args.n c.args.bytes.now _ room
    (c.copy_from_slice.ensures.after ∙ c.to_le_bytes.ensures))
