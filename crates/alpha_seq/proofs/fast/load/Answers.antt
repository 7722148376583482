use Rattle.std.proofs.Common.{◌≡◌, ℕ, cond, eqb, None, refl, sym, ap, ◌∙◌}
use Rattle.alpha_words.specs.Regs.{reg, put}
use Rattle.alpha_words.specs.Digits.{little}
use Rattle.alpha_table.specs.Class.{load, idle}
use Rattle.alpha_values.specs.Address.{access_address}
use Rattle.alpha_mem.specs.Intent.{Load}
use Rattle.alpha_mem.specs.Block.{shapes}
use Rattle.alpha_mem.specs.Fault.{fault_of}
use Rattle.alpha_mem.specs.Memory.{bytes_at}
use Rattle.alpha_seq.specs.Executed.{filled}
use Rattle.alpha_seq.proofs.FastStepLaws.{ExecutesFast-load, ExecutesFast-to}
use Rattle.alpha_seq.proofs.fast.load.Goals as goal

pub returns-in-Ok-clause-went : goal.returns-in-Ok-clause-went
returns-in-Ok-clause-went c = λ h image.
    let a = c.args in
    let at = a.at.now in
    let regs = a.regs.now in
    let mem = a.memory.now in
    let addr = c.access_address-addr.result in
    let n = c.in-Ok.value in
    let there : addr ≡ access_address at (reg regs at.base) =
    c.access_address-addr.ensures ∙ ap (access_address at) c.get.ensures.value in
    let calm : fault_of (shapes mem) Load addr at.bytes ≡ None =
    ap (fault_of (shapes mem) Load addr) (sym c.size.ensures) ∙ sym c.in-Ok.ensures.fault in
    let is : n ≡ little (bytes_at mem addr at.bytes) =
    c.in-Ok.ensures.ok ∙ ap (λ (k : ℕ). little (bytes_at mem addr k)) c.size.ensures in
    ExecutesFast-to image (cond (eqb a.ra 31) idle (load a.extension at a.ra)) regs mem a.place.now
    (put regs a.ra (filled a.extension n)) c.set.new.regs mem mem _ c.set.new.place
    (c.set.ensures.regs ∙ ap (put regs a.ra) c.extend.ensures) refl c.set.ensures.place
    (ExecutesFast-load a.extension at a.ra regs mem a.place.now addr n image there calm is)
