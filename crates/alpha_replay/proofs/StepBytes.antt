-- The bytes of a step stand in memory behind it.
use Rattle.std.proofs.Common.{◌≡◌, ℕ, Bool, true, cond, List, [], sym, ap, ◌∙◌}
use Rattle.alpha_mem.specs.Block.{Block, shapes, within}
use Rattle.alpha_mem.specs.Intent.{Load}
use Rattle.alpha_mem.specs.Memory.{bytes_at}
use Rattle.alpha_pal.specs.declared.pal_end.Passed.TheVariants.{Nothing, Took, Put}
use Rattle.alpha_seq.specs.declared.event.Event.{Event}
use Rattle.alpha_seq.specs.declared.event.Event.TheVariants as events
use Rattle.alpha_seq.specs.StepLabel.{HasPassed}
use Rattle.alpha_replay.specs.Events.{bytes_in, took_by, put_by}

pub bytes-in : (mem : List Block) (addr len : ℕ) → within (shapes mem) Load addr len ≡ true
    → bytes_in mem addr len ≡ bytes_at mem addr len
bytes-in mem addr len e = ap (λ (b : Bool). cond b (bytes_at mem addr len) []) e

pub passed-took : (event : Event) (mem : List Block) (taken bytes : List ℕ) → HasPassed event mem taken bytes
    → (taken ≡ took_by event mem) × (bytes ≡ put_by event mem)
passed-took events.Went mem taken bytes h = h
passed-took (events.Barrier Nothing) mem taken bytes h = h
passed-took (events.Barrier (Took addr len)) mem taken bytes h = (h.1 ∙ sym (bytes-in mem addr len h.0), h.2)
passed-took (events.Barrier (Put addr len)) mem taken bytes h = (h.1, h.2 ∙ sym (bytes-in mem addr len h.0))
passed-took (events.Overflowed at) mem taken bytes h = h
passed-took event mem taken bytes h = h
