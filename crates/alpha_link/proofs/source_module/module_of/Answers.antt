use Rattle.std.proofs.Common.{◌≡◌, ℕ, List, Bor, length, map, sym, ap, ◌∙◌, arith}
use Rattle.std.proofs.lemmas.List.{length-map}
use Rattle.alpha_words.specs.declared.Level.TheVariants.{One}
use Rattle.alpha_image.proofs.CodeInsns.{IsCodeWord-map_encoded}
use Rattle.alpha_text.specs.Reading.{LineStmt}
use Rattle.alpha_asm.specs.Unlinked.{IsUnlinkedOf}
use Rattle.alpha_link.specs.declared.keyed.KeyedName.{KeyedName}
use Rattle.alpha_link.specs.Symbols.{named}
use Rattle.alpha_link.specs.Numbered.{texts, ranked}
use Rattle.alpha_link.proofs.SourceModules.{location_named-IsNear, IsModule-of_source, module_of-made_parts}
use Rattle.alpha_link.proofs.Ranks.{ranks_of, AreRanks-within, all_ranked}
use Rattle.alpha_link.proofs.DistinctNames.{distinct_names}
use Rattle.alpha_link.proofs.SourceNames.{names_among, names_are, sorted_rise, sorted_among}
use Rattle.alpha_link.proofs.source_module.module_of.Goals as goal

pub build-requires-2-clause-in_range : goal.build-requires-2-clause-in_range
build-requires-2-clause-in_range c =
    location_named-IsNear c.args.unlinked c.requires.lines c.requires.words c.requires.filled c.requires.data

pub build-requires-2-clause-keys : goal.build-requires-2-clause-keys
build-requires-2-clause-keys c = rw c.deref.ensures.value c.in_ok-sorted.ensures.keys

pub build-requires-2-clause-numbers : goal.build-requires-2-clause-numbers
build-requires-2-clause-numbers c =
    rw c.deref.ensures.value (
      texts c.in_ok-names.field-0.names.items,
      c.in_ok-names.ensures.names,
      length-map c.in_ok-names.field-0.names.items (λ n. n.now) ∙ sym c.in_ok-sorted.ensures.count,
      c.in_ok-sorted.ensures.numbers,
    )

-- the names of sorted ones, each once
abbrev names_once : List KeyedName → List (Bor (List ℕ))
names_once ks = distinct_names (map (λ k. k.name) ks)

pub put_ranks-requires : goal.put_ranks-requires
put_ranks-requires c =
    let names = c.in_ok-names.field-0.names.items in
    let ks = c.in_ok-sorted.sorted.items in
    let ranks = c.in_ok-symbols.field-0.ranks.items in
    let are = ranks_of names ks ranks c.in_ok-sorted.ensures.numbers c.in_ok-sorted.ensures.each
    (rw c.deref.ensures.value at c.in_ok-symbols.ensures.ranks) in
    rw c.deref-2.ensures.value
    (AreRanks-within (texts names) (texts (names_once ks)) ranks c.args.unlinked.patches.items
    c.in_ok-names.field-0.relocations.items are c.in_ok-names.ensures.relocations)

pub invariant_of-result : goal.invariant_of-result
invariant_of-result c =
    let names = c.in_ok-names.field-0.names.items in
    let old = c.in_ok-names.field-0.relocations.items in
    let new = c.put_ranks.new.relocations.items in
    let ks = c.in_ok-sorted.sorted.items in
    let ranks = c.in_ok-symbols.field-0.ranks.items in
    let symbols = c.in_ok-symbols.field-0.symbols.items in
    let rise = sorted_rise ks c.in_ok-sorted.ensures.sorted in
    let among = λ (is : List LineStmt) (makes : IsUnlinkedOf is c.args.unlinked). names_among is c.args.unlinked names
    (names_once ks) makes c.in_ok-names.ensures.among (sorted_among ks names c.in_ok-sorted.ensures.among) in
    let are = ranks_of names ks ranks c.in_ok-sorted.ensures.numbers c.in_ok-sorted.ensures.each
    (rw c.deref.ensures.value at c.in_ok-symbols.ensures.ranks) in
    let made = rw c.deref.ensures.value at c.in_ok-symbols.ensures.symbols in
    let ranked_so : new ≡ map (ranked ranks) old =
    c.put_ranks.ensures ∙ ap (λ rs. map (ranked rs) old) c.deref-2.ensures.value in
    let put = all_ranked (texts names)
    (names_once ks) ranks c.args.unlinked.patches.items old new rise are c.in_ok-names.ensures.relocations ranked_so in
    let symbol_count : length (map named symbols) ≡ length symbols = length-map symbols named in
    let relocation_count : length new ≡ length old = ap length ranked_so ∙ length-map old (ranked ranks) in
    record {
      good =
          rw c.of_source.ensures
          (IsModule-of_source c.args.unlinked (names_once ks) (map named symbols) new c.requires.lines c.requires.level
          c.requires.words c.requires.filled c.requires.data rise among made put
          (omega (arith, symbol_count)) (omega (arith, relocation_count)));
      insns = (IsCodeWord-map_encoded One c.args.unlinked.code.items c.requires.level).1;
    }

pub returns : goal.returns
returns c = record {
  value = λ is m.
      let names = c.in_ok-names.field-0.names.items in
      let old = c.in_ok-names.field-0.relocations.items in
      let new = c.put_ranks.new.relocations.items in
      let ks = c.in_ok-sorted.sorted.items in
      let ranks = c.in_ok-symbols.field-0.ranks.items in
      let rise = sorted_rise ks c.in_ok-sorted.ensures.sorted in
      let among = names_among is c.args.unlinked names (names_once ks) m c.in_ok-names.ensures.among
      (sorted_among ks names c.in_ok-sorted.ensures.among) in
      let are = ranks_of names ks ranks c.in_ok-sorted.ensures.numbers c.in_ok-sorted.ensures.each
      (rw c.deref.ensures.value at c.in_ok-symbols.ensures.ranks) in
      let ranked_so : new ≡ map (ranked ranks) old =
      c.put_ranks.ensures ∙ ap (λ rs. map (ranked rs) old) c.deref-2.ensures.value in
      rw c.of_source.ensures
      (module_of-made_parts is c.args.unlinked (names_once ks) (map named c.in_ok-symbols.field-0.symbols.items) new m
      c.requires.filled (names_are is (names_once ks) rise among)
      (rw c.deref.ensures.value at c.in_ok-symbols.ensures.symbols)
      (all_ranked (texts names) (names_once ks) ranks c.args.unlinked.patches.items old new rise are
      c.in_ok-names.ensures.relocations ranked_so));
}
