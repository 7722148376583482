use Rattle.std.proofs.lemmas.List.{take_rest}
use Rattle.alpha_pal.proofs.Frames.{read_quadword}
use Rattle.alpha_pal.proofs.frame.quadword.Goals as goal

pub returns : goal.returns
returns c =
    read_quadword c.args.at c.args.bytes.now _ c.read_u64.result
    (take_rest c.args.bytes.now c.args.at) c.read_u64.ensures
