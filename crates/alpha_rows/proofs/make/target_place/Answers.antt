use Rattle.std.proofs.Common.{◌≡◌, ◌+◌, ◌%◌, ◌^◌, of_z, w32, arith}
use Rattle.std.proofs.lemmas.Int.{to_z-of_z}
use Rattle.alpha_rows.proofs.RowsOfWords.{BranchesTo-target}
use Rattle.alpha_rows.proofs.make.target_place.Goals as goal

pub returns-then-to-words-clause-there : goal.returns-then-to-words-clause-there
returns-then-to-words-clause-there c =
    let a = c.args in
    let is : c.wrapping_add_signed-to.result ≡ (a.next + of_z w32 a.disp) % 2 ^ 32 = grind (arith, to_z-of_z) in
    BranchesTo-target a.next c.wrapping_add_signed-to.result a.words a.disp c.ranges.disp c.requires.next
    c.requires.words is
    c.if-to-words.true
