-- What a load puts into its register, as the code makes it of the number that it has read.
use Rattle.std.proofs.Common.{◌≡◌, refl}
use Rattle.alpha_words.specs.Digits.{little}
use Rattle.alpha_table.specs.declared.rows.Extension.{Extension}
use Rattle.alpha_table.specs.declared.rows.Extension.TheVariants.{Zero, Sign}
use Rattle.alpha_table.specs.declared.columns.MemAccess.{MemAccess}
use Rattle.alpha_mem.specs.Memory.{bytes_at}
use Rattle.alpha_seq.specs.State.{State}
use Rattle.alpha_seq.specs.Step.{accessed, loaded}
use Rattle.alpha_seq.specs.Executed.{filled}

pub loaded_filled : (extension : Extension) (at : MemAccess) (s : State)
    → loaded extension at s ≡ filled extension (little (bytes_at s.mem (accessed at s) at.bytes))
loaded_filled Zero at s = refl
loaded_filled Sign at s = refl
