use Rattle.std.proofs.Common.{ℕ, [], refl, ◌+◌, List, ◌∷◌, length, take, drop, ap, sym, ◌∙◌}
use Rattle.std.proofs.lemmas.Result.{err_from_is_err_and}
use Rattle.alpha_link.specs.Names.{found_in}
use Rattle.alpha_link.specs.Linked.{Located, repeated}
use Rattle.alpha_link.proofs.NameAddresses.{take-next_module, find-next_module, repeated-next, repeated-found}
use Rattle.alpha_link.specs.GlobalSymbols.{global_symbols, used_symbols, is_of, address_at}
use Rattle.alpha_names.specs.Finder.{number_in}
use Rattle.alpha_link.proofs.LoopLists.{drop-get_or}
use Rattle.alpha_link.proofs.OwnAddresses.{all_know, global_symbols-whole_row}
use Rattle.alpha_link.proofs.AreEntered.{length-global_symbols_next, global_symbols-next_module, address_at-nil}
use Rattle.alpha_link.proofs.table.Names.of.Goals as goal

pub returns-in_err-define_all-clause-refused : goal.returns-in_err-define_all-clause-refused
returns-in_err-define_all-clause-refused c =
    let p = err_from_is_err_and c.from_residual.result c.from_residual.ensures.1 in
    rw (p.1, p.2)
    (λ other. repeated-found (found_in c.loop-located.names) c.args.places.now c.loop-located.located-index
    c.located-item.result c.in_err-define_all.field-0.0 (repeated [] c.args.places.now)
    c.loop-located-test.true c.located-item.is c.loop-located.invariant.found
    (c.in_err-define_all.ensures.refused other) c.loop-located.invariant.single)

pub loop-located-preserved : goal.loop-located-preserved
loop-located-preserved c = record {
  found =
      find-next_module (found_in c.loop-located.names) (found_in c.define_all.new.self) c.args.places.now
      c.loop-located.located-index c.located-item.result c.loop-located-test.true c.located-item.is
      c.loop-located.invariant.found c.in_ok-define_all.ensures.found;
  single =
      repeated-next (found_in c.loop-located.names) c.args.places.now c.loop-located.located-index c.located-item.result
      _
      c.loop-located-test.true c.located-item.is
      c.loop-located.invariant.found c.in_ok-define_all.ensures.single c.loop-located.invariant.single;
  places = c.define_all.ensures.places ∙ c.loop-located.invariant.places;
  count =
      c.in_ok-define_all.ensures.count
      ∙ (ap (λ (k : ℕ). k + length c.located-item.result.parts.symbols) c.loop-located.invariant.count
      ∙ sym (length-global_symbols_next c.args.places.now c.loop-located.located-index c.located-item.result
      (take-next_module c.args.places.now c.loop-located.located-index c.located-item.result c.loop-located-test.true
      c.located-item.is)));
}

pub define_all-requires : goal.define_all-requires
define_all-requires c =
    let ls = c.args.places.now in
    let i = c.loop-located.located-index in
    let l = c.located-item.result in
    ap (λ (x : List Located). take (length l.parts.symbols) (drop c.loop-located.names.row.count (global_symbols x)))
    c.loop-located.invariant.places
    ∙ global_symbols-next_module ls i c.loop-located.names.row.count l
    (drop-get_or ls i l c.loop-located-test.true ∙ ap (λ (x : Located). x ∷ drop (i + 1) ls) (sym c.located-item.is))
    c.loop-located.invariant.count

pub loop-located-init : goal.loop-located-init
unfolding found_in
loop-located-init c =
    let row = c.empty-names.result.row in
    let find = number_in c.empty-names.result.numbers in
    record {
      found = λ name.
          ap (λ (k : ℕ).
          address_at (take k (global_symbols row.places.now))
          (find (is_of (take k (global_symbols row.places.now)) name) name))
          c.empty-names.ensures.count
          ∙ address_at-nil (find (is_of [] name) name);
      single = refl;
      places = c.empty-names.ensures.places;
      count = c.empty-names.ensures.count;
    }

pub returns-clause-own : goal.returns-clause-own
unfolding found_in
returns-clause-own c =
    let names = c.loop-located.names in
    let ls = c.args.places.now in
    all_know (used_symbols names.row) names.numbers ls
    (global_symbols-whole_row ls names.row.places.now c.loop-located.located-index names.row.count
    c.loop-located-test.false
    c.loop-located.invariant.places c.loop-located.invariant.count) names.entered
