use Rattle.std.proofs.Common.{◌≤◌, length, arith}
use Rattle.alpha_text.proofs.NameLookups.{name_of-short}
use Rattle.alpha_dis.proofs.NameSizes.{name_of-long}
use Rattle.alpha_dis.proofs.code.put_mnemonic.Goals as goal

pub put_name-requires : goal.put_name-requires
put_name-requires c =
    let short : length c.name.result.now ≤ 13 = rw c.name.ensures (name_of-short c.args.m) in
    let long : 2 ≤ length c.name.result.now = rw c.name.ensures (name_of-long c.args.m) in
    record { room = omega arith; least = long; most = omega arith }

pub returns-clause-place : goal.returns-clause-place
returns-clause-place c =
    let short : length c.name.result.now ≤ 13 = rw c.name.ensures (name_of-short c.args.m) in
    omega arith
