use Rattle.std.proofs.Common.{◌≡◌, ℕ, None, refl, sym, ap, ◌∙◌}
use Rattle.alpha_words.specs.Regs.{reg}
use Rattle.alpha_words.specs.Digits.{low_bytes}
use Rattle.alpha_table.specs.Class.{store}
use Rattle.alpha_values.specs.Address.{access_address}
use Rattle.alpha_mem.specs.Intent.{Store}
use Rattle.alpha_mem.specs.Block.{shapes}
use Rattle.alpha_mem.specs.Fault.{fault_of}
use Rattle.alpha_mem.specs.Memory.{write_bytes}
use Rattle.alpha_seq.proofs.FastStepLaws.{ExecutesFast-store, ExecutesFast-to}
use Rattle.alpha_seq.proofs.fast.store.Goals as goal

pub returns-in-Ok-clause-went : goal.returns-in-Ok-clause-went
returns-in-Ok-clause-went c = λ h image.
    let a = c.args in
    let at = a.at.now in
    let regs = a.regs.now in
    let mem = a.memory.now in
    let new = c.store_with_hint.new.self in
    let addr = c.access_address-addr.result in
    let there : addr ≡ access_address at (reg regs at.base) =
    c.access_address-addr.ensures ∙ ap (access_address at) c.get.ensures.value in
    let calm : fault_of (shapes mem) Store addr at.bytes ≡ None =
    ap (fault_of (shapes mem) Store addr) (sym c.size.ensures) ∙ sym c.in-Ok.ensures.fault in
    let is : new ≡ write_bytes mem addr (low_bytes at.bytes (reg regs a.ra)) =
    c.in-Ok.ensures.ok
    ∙ (ap (λ (k : ℕ). write_bytes mem addr (low_bytes k c.get-2.result)) c.size.ensures
    ∙ ap (λ (v : ℕ). write_bytes mem addr (low_bytes at.bytes v)) c.get-2.ensures.value) in
    ExecutesFast-to image
    (store at a.ra) regs mem a.place.now regs regs new new _ c.advance.new.place refl refl c.advance.ensures
    (ExecutesFast-store at a.ra regs mem new a.place.now addr image there calm is)
