use Rattle.std.proofs.Common.{◌≡◌, ℕ, List, Bool, true, false, Option, Some, None, is_some, if◌then◌else◌, refl, subst}
use Rattle.std.proofs.Common.{ap, sym, ◌∙◌, arith}
use Rattle.std.specs.Prelude.{◌&&◌, not, slice_get}
use Rattle.std.specs.Option.{option_map, option_or}
use Rattle.std.specs.Str.{bytes_eq}
use Rattle.alpha_asm.proofs.NextItem.{or_none-identity}
use Rattle.alpha_link.specs.declared.fault.LinkFault.TheVariants as faults
use Rattle.alpha_link.specs.Symbols.{Named, named}
use Rattle.alpha_link.specs.Parts.{ModuleParts, IsModule}
use Rattle.alpha_link.specs.Linked.{Located, section_address, is_defined}
use Rattle.alpha_link.specs.Names.{found_in}
use Rattle.alpha_link.specs.GlobalSymbols.{GlobalSymbol, global_symbols}
use Rattle.alpha_link.proofs.LoopLists.{position_begins, position_stops, position_goes}
use Rattle.alpha_link.proofs.NamesApart.{find-IsSymbol, find-next_symbol}
use Rattle.alpha_link.proofs.AreEntered.{global_symbols-get_of_module}
use Rattle.alpha_link.proofs.table.Names.define_all.Goals as goal

pub enter-requires : goal.enter-requires
enter-requires c =
    let es : List GlobalSymbol = global_symbols c.args.self.now.row.places.now in
    let l : Located = c.args.located.now in
    let i = c.loop-number.number in
    let s = named c.at-symbol.result in
    let same =
    ap (λ (m : ModuleParts). m.symbols) c.module.view_is ∙ ap (λ (x : Located). x.parts.symbols) c.located.view_is in
    let here : slice_get l.parts.symbols i ≡ Some s =
    ap (λ (xs : List Named). slice_get xs i) (sym same) ∙ c.at-symbol.ensures in
    ap (λ x. slice_get (global_symbols x) c.loop-number.self.row.count) c.loop-number.invariant.places
    ∙ (ap (slice_get es) c.loop-number.invariant.count
    ∙ (global_symbols-get_of_module es l c.args.self.now.row.count i s c.requires here
    ∙ ap (λ (a : Option ℕ). Some (record { name = s.name; address = a })) (sym c.address.ensures)))

pub loop-number-init : goal.loop-number-init
loop-number-init c = record {
  count = omega arith;
  places = refl;
  so_far = λ name. sym (or_none-identity (found_in c.args.self.now name));
  single =
      position_begins (λ (t : Named). is_defined t.section && is_some (found_in c.args.self.now t.name))
      c.args.located.now.parts.symbols;
}

added_so : (a b : Bool) → a ≡ not b → a ≡ true → b ≡ false
added_so a true e t = absurd cc
added_so a false e t = refl

refused_so : (a b : Bool) → a ≡ not b → a ≡ false → b ≡ true
refused_so a true e f = refl
refused_so a false e f = absurd cc

pub returns-then-not-branch-clause-refused : goal.returns-then-not-branch-clause-refused
returns-then-not-branch-clause-refused c = λ other.
    let i = c.loop-number.number in
    let l : Located = c.args.located.now in
    let s = named c.at-symbol.result in
    let old = found_in c.args.self.now in
    let find = found_in c.loop-number.self in
    let parts = c.module.view_is ∙ ap (λ (x : Located). x.parts) c.located.view_is in
    let here : slice_get l.parts.symbols i ≡ Some s =
    ap (λ (m : ModuleParts). slice_get m.symbols i) (sym parts) ∙ c.at-symbol.ensures in
    let good = (subst IsModule parts c.module.invariant.good).symbols in
    let again : (is_defined s.section && is_some (old s.name)) ≡ true =
    find-IsSymbol l _ i s old find good here (c.loop-number.invariant.so_far s.name)
    ∙ refused_so _ (is_some (section_address l s.section s.offset) && is_some (find s.name))
    (c.in_ok-enter.ensures.value ∙ ap (λ (a : Option ℕ). not (is_some a && is_some (find s.name))) c.address.ensures)
    c.if-not-branch.true in
    let number = ap (λ (x : Located). x.number) c.located.view_is in
    ap (option_map (faults.Duplicate l.number))
    (sym (position_stops (λ (t : Named). is_defined t.section && is_some (old t.name)) l.parts.symbols i s _ here again
    c.loop-number.invariant.single))
    ∙ ap (λ (k : ℕ). Some (faults.Duplicate k i)) (sym number)

pub loop-number-preserved : goal.loop-number-preserved
loop-number-preserved c =
    let i = c.loop-number.number in
    let l : Located = c.args.located.now in
    let s = named c.at-symbol.result in
    let old = found_in c.args.self.now in
    let find = found_in c.loop-number.self in
    let parts = c.module.view_is ∙ ap (λ (x : Located). x.parts) c.located.view_is in
    let here : slice_get l.parts.symbols i ≡ Some s =
    ap (λ (m : ModuleParts). slice_get m.symbols i) (sym parts) ∙ c.at-symbol.ensures in
    let good = (subst IsModule parts c.module.invariant.good).symbols in
    let added = c.if-not-branch.false in
    let new : (is_defined s.section && is_some (old s.name)) ≡ false =
    find-IsSymbol l _ i s old find good here (c.loop-number.invariant.so_far s.name)
    ∙ added_so _ (is_some (section_address l s.section s.offset) && is_some (find s.name))
    (c.in_ok-enter.ensures.value ∙ ap (λ (a : Option ℕ). not (is_some a && is_some (find s.name))) c.address.ensures)
    added in
    record {
      count = omega (arith, c.in_ok-enter.ensures.count added, c.loop-number.invariant.count);
      places = c.enter.ensures.places ∙ c.loop-number.invariant.places;
      so_far = λ name.
          find-next_symbol l name i s (old name) (find name) (found_in c.enter.new.self name) here
          (c.in_ok-enter.ensures.found added name
          ∙ ap (λ (a : Option ℕ). option_or (find name) (if bytes_eq s.name name then a else None)) c.address.ensures)
          (c.loop-number.invariant.so_far name);
      single =
          position_goes (λ (t : Named). is_defined t.section && is_some (old t.name)) l.parts.symbols i s _ here new
          c.loop-number.invariant.single;
    }
