use Rattle.std.proofs.Common.{◌≡◌, ◌+◌, ◌++◌, [], ◌∷◌, false, length, All, refl, ◌≤◌, sym, subst, arith, List}
use Rattle.std.proofs.lemmas.List.{length-append}
use Rattle.alpha_replay.specs.declared.item.Item.{Item}
use Rattle.alpha_replay.specs.declared.item.Item.TheVariants.{Units}
use Rattle.alpha_replay.specs.Items.{units_of, FitsItem, AreMerged}
use Rattle.alpha_replay.specs.GatheredItems.{closed_by}
use Rattle.alpha_replay.proofs.GatheredCounts.{item_units-append, units-closed, FitsItem-closed_by_push, merged_closed}
use Rattle.alpha_replay.proofs.GatheredCounts.{merged_item}
use Rattle.alpha_replay.proofs.journal_builder.JournalBuilder.note_item.Goals as goal

pub invariant_of-self : goal.invariant_of-self
invariant_of-self c =
    let t = c.self.inside in
    let old = c.self.invariant in
    let before = closed_by t.items.items t.ones in
    let is : c.push_reserved.new.self.items ≡ before ++ c.args.item ∷ [] =
    rw (c.push_reserved.ensures.items, c.close.ensures.items) refl in
    let more = length-append before (c.args.item ∷ []) in
    let units = item_units-append before (c.args.item ∷ []) in
    record {
      input = old.input;
      output = old.output;
      items =
          subst (λ (l : List Item). length l ≤ 1048576) (sym is)
          (omega (arith, more, c.if-closed.false, c.closed_len-closed.ensures, old.items));
      few = omega (arith, c.if-self-units.false, c.units.ensures.value, c.units-2.ensures.value, old.few);
      units =
          subst (λ (l : List Item). t.units + c.units-2.result ≡ units_of l) (sym is)
          (omega (arith, units, old.units, c.units-2.ensures.value));
      taken = old.taken;
      written = old.written;
      takes = old.takes;
      puts = old.puts;
      holds = omega (arith, c.push_reserved.ensures.capacity, c.close.ensures.capacity, old.holds);
      fits =
          subst (λ (l : List Item). All FitsItem l) (sym is)
          (FitsItem-closed_by_push t.items.items t.ones c.args.item
          (let u = units-closed t.items.items t.ones in omega (arith, u, old.units, old.few)) old.fits c.requires.fits);
      merged =
          subst (λ (l : List Item). AreMerged false (l ++ Units 1 ∷ [])) (sym is)
          (merged_item false before c.args.item c.requires.other (merged_closed false t.items.items t.ones old.merged));
    }
