use Rattle.std.proofs.Common.{◌≡◌, ◌++◌, ◌∙◌, ap, length, drop, replicate}
use Rattle.std.specs.Int.{w64, from_le_bytes}
use Rattle.alpha_mem.proofs.Numbers.{from_le_bytes-padded}
use Rattle.alpha_mem.proofs.number.number_of_odd_length.Goals as goal

pub returns : goal.returns
returns c =
    let bs = c.args.bytes.now in
    let read : c.from_le_bytes.result
    ≡ from_le_bytes w64 (c.copy_from_slice.new.self ++ drop (length bs) (replicate 8 0)) = c.from_le_bytes.ensures in
    read
    ∙ (ap (λ t. from_le_bytes w64 (t ++ drop (length bs) (replicate 8 0))) c.copy_from_slice.ensures.after
    ∙ from_le_bytes-padded bs c.requires)
