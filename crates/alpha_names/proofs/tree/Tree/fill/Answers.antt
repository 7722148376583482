use Rattle.std.proofs.Common.{◌%◌, refl, ap, sym, subst}
use Rattle.alpha_names.specs.Tree.{slot_of, HasNumber, Fills, slot_in}
use Rattle.alpha_names.specs.declared.tree.Entry.{Entry}
use Rattle.alpha_names.proofs.TreeSearches.{has_number}
use Rattle.alpha_names.proofs.NumberLookups.{on_ok_two}
use Rattle.alpha_names.proofs.tree.Tree.fill.Goals as goal

pub returns-clause-ok : goal.returns-clause-ok
returns-clause-ok c =
    let entry : Entry = record { mark = c.args.hash % 4294967296; next = c.in_ok-next_number.field-0 } in
    on_ok_two c.put.result _ _
    (Fills c.args.place c.args.hash c.args.number (slot_in c.args.self.now) (slot_in c.put.new.self))
    (λ here others. (
      subst (λ (e : Entry). HasNumber (slot_of e) c.args.hash c.args.number) (sym here)
          (has_number entry c.args.hash c.args.number refl c.in_ok-next_number.ensures.value),
      λ other differs. ap slot_of (others other differs),
    ))
    c.put.ensures.here c.put.ensures.others
