use Rattle.std.proofs.Common.{◌<◌, length, get_or, pos}
use Rattle.std.proofs.lemmas.List.{get_or_default}
use Rattle.std.proofs.lemmas.List.Edits.{map_over_more}
use Rattle.alpha_asm.specs.declared.patch.RelocationKind.TheVariants.{Insn}
use Rattle.alpha_asm.specs.declared.statement.RelocField.TheVariants.{Branch}
use Rattle.alpha_link.specs.declared.relocation.Relocation.{Relocation}
use Rattle.alpha_link.specs.Numbered.{ranked}
use Rattle.alpha_link.proofs.source_relocations.put_ranks.Goals as goal

pub loop-relocation-preserved : goal.loop-relocation-preserved
loop-relocation-preserved c =
    let none : Relocation = record { kind = Insn Branch; offset = 0; symbol = 0; addend = pos 0 } in
    let xs = c.deref_mut-relocation-items.result.now in
    let i = c.loop-relocation.relocation-index in
    let ys = c.loop-relocation.relocation-items in
    let inside : i < length ys = rw c.loop-relocation.auto.relocation-items c.loop-relocation-test.true in
    map_over_more (ranked c.args.ranks.now) xs ys i (get_or ys i none) c.loop-relocation-test.true
    c.loop-relocation.invariant (get_or_default ys i none (get_or ys i none) inside)
