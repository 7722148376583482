use Rattle.alpha_pal.proofs.Frames.{written_last}
use Rattle.alpha_pal.proofs.frame.put_quadword.Goals as goal

pub returns-clause-bytes : goal.returns-clause-bytes
returns-clause-bytes c =
    written_last c.args.at c.args.value c.args.bytes.now c.write_u64.new.buf c.requires c.write_u64.ensures
