use Rattle.std.proofs.Common.{◌≡◌, refl, ap, length, arith}
use Rattle.std.proofs.lemmas.Bool.{false≢true}
use Rattle.alpha_mem.specs.Memory.{bytes_at}
use Rattle.alpha_mem.proofs.Bytes.{length-bytes_at_le}
use Rattle.alpha_mem.proofs.Faults.{size_of-le, fault_of-judged_align, fault_of-judged_none, fault_of-judged_region}
use Rattle.alpha_mem.proofs.memory.Memory.load.Goals as goal

pub returns-then-addr-len-ne0-clause-fault : goal.returns-then-addr-len-ne0-clause-fault
returns-then-addr-len-ne0-clause-fault c =
    fault_of-judged_align _ _ _ _ _ c.bytes-len.ensures c.if-addr-len-ne0.true

pub number_of-requires : goal.number_of-requires
number_of-requires c =
    let bytes : length c.in-Some.bytes.now ≡ length (bytes_at c.args.self.now c.args.addr c.bytes-len.result) =
    ap length c.in-Some.ensures.found in
    omega (
      arith,
      length-bytes_at_le c.args.self.now c.args.addr c.bytes-len.result,
      size_of-le c.args.size,
      c.bytes-len.ensures,
    )

pub returns-in-Some-clause-fault : goal.returns-in-Some-clause-fault
returns-in-Some-clause-fault c =
    fault_of-judged_none _ _ _ _ c.args.size c.bytes-bytes.ensures.good.layout c.bytes-len.ensures
    c.if-addr-len-ne0.false
    (c.in-Some.ensures.none.0 refl)

pub returns-in-None-clause-fault : goal.returns-in-None-clause-fault
returns-in-None-clause-fault c =
    fault_of-judged_region _ _ _ _ c.args.size c.bytes-bytes.ensures.good.layout c.bytes-len.ensures
    c.if-addr-len-ne0.false
    (λ h. false≢true (c.in-None.ensures.none.1 h))
