use Rattle.std.proofs.Common.{false, sym, subst, List, arith}
use Rattle.alpha_replay.specs.declared.item.Item.{Item}
use Rattle.alpha_replay.specs.Journal.{IsJournal, parts}
use Rattle.alpha_replay.proofs.GatheredCounts.{units-closed, FitsItem-closed_by, merged_closed}
use Rattle.alpha_replay.proofs.journal_builder.JournalBuilder.journal.Goals as goal

pub of_parts-requires : goal.of_parts-requires
of_parts-requires c =
    let t = c.self.inside in
    let o = c.self.invariant in
    subst (λ (l : List Item). IsJournal (parts c.args.completion c.args.ending t.input.items t.output.items l))
    (sym c.close.ensures.items)
    (record {
      ending = c.requires;
      input = o.taken;
      output = o.written;
      items =
          FitsItem-closed_by t.items.items t.ones
          (let u = units-closed t.items.items t.ones in omega (arith, u, o.units, o.few)) o.fits;
      merged = merged_closed false t.items.items t.ones o.merged;
      few_input = o.input;
      few_output = o.output;
      few_items = o.items;
      few_units = omega (arith, o.units, o.few);
    })
