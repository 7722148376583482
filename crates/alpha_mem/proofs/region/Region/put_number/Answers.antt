use Rattle.std.proofs.Common.{◌≡◌, take, ap, ◌∙◌}
use Rattle.alpha_words.specs.Digits.{low_bytes}
use Rattle.alpha_mem.specs.Size.{size_of}
use Rattle.alpha_mem.specs.Block.{overwritten}
use Rattle.alpha_mem.proofs.Numbers.{low_bytes-taken}
use Rattle.alpha_mem.proofs.region.Region.put_number.Goals as goal

-- the bytes that are written
low : (c : goal.After-put) → take c.bytes.result c.to_le_bytes-low.result ≡ low_bytes (size_of c.args.size) c.args.value
low c =
    ap (λ k. take k c.to_le_bytes-low.result) c.bytes.ensures
    ∙ (ap (take (size_of c.args.size)) c.to_le_bytes-low.ensures ∙ low_bytes-taken c.args.size c.args.value)

pub returns : goal.returns
returns c = c.put.ensures ∙ ap (overwritten c.args.self.now c.args.addr) (low c)
