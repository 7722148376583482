use Rattle.alpha_table.proofs.DecodedInsns.{IfNone-weaker}
use Rattle.alpha_table.proofs.NameSearches.{name_of-in_no_list}
use Rattle.alpha_table.proofs.names.Mnemonic.of.Goals as goal

pub returns-clause-none : goal.returns-clause-none
returns-clause-none c =
    IfNone-weaker c.find_name-7.result
    (name_of-in_no_list c.args.name.now c.in_default.ensures.none c.in_default-find_name.ensures.none
    c.in_default-find_name-2.ensures.none
    c.in_default-find_name-3.ensures.none c.in_default-find_name-4.ensures.none c.in_default-find_name-5.ensures.none)
    c.find_name-7.ensures.none
