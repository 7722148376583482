use Rattle.std.proofs.lemmas.Bool.{false≢true}
use Rattle.alpha_mem.proofs.Faults.{fault_of-judged_align, fault_of-judged_none, fault_of-judged_region}
use Rattle.alpha_mem.proofs.memory.Memory.writable.Goals as goal

pub returns-then-addr-len-ne0-clause-fault : goal.returns-then-addr-len-ne0-clause-fault
returns-then-addr-len-ne0-clause-fault c =
    fault_of-judged_align _ _ _ _ _ c.bytes-len.ensures c.if-addr-len-ne0.true

pub returns-then-not-there-clause-fault : goal.returns-then-not-there-clause-fault
returns-then-not-there-clause-fault c =
    fault_of-judged_region _ _ _ _ c.args.size c.can_write-there.ensures.good.layout c.bytes-len.ensures
    c.if-addr-len-ne0.false
    (λ h. false≢true (c.if-not-there.ensures.value.1 h))

pub returns-clause-fault : goal.returns-clause-fault
returns-clause-fault c =
    fault_of-judged_none _ _ _ _ c.args.size c.can_write-there.ensures.good.layout c.bytes-len.ensures
    c.if-addr-len-ne0.false
    (c.can_write-there.ensures.value.0 c.if-not-there.false)
