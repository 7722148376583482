use Rattle.std.proofs.Common.{ap}
use Rattle.alpha_names.specs.Tree.{slot_in}
use Rattle.alpha_names.specs.Hashes.{quick_hash}
use Rattle.alpha_names.specs.Finder.{taken_or, number_in_crowd}
use Rattle.alpha_names.specs.declared.tree.Look.{Look}
use Rattle.alpha_names.proofs.TreeSearches.{seek_in-all_free}
use Rattle.alpha_names.proofs.numbers.Numbers.empty.Goals as goal

pub returns : goal.returns
returns c = λ is_right name.
    ap (λ (look : Look). taken_or is_right look (number_in_crowd c.empty-2.result is_right name))
    (seek_in-all_free (slot_in c.empty.result) (quick_hash name) c.empty.ensures)
