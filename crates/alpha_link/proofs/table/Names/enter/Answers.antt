use Rattle.std.proofs.Common.{◌≡◌, ℕ, Bool, List, Option, Some, ap, sym, ◌∙◌}
use Rattle.std.specs.Prelude.{◌&&◌, not, is_some}
use Rattle.alpha_names.specs.Finder.{number_in}
use Rattle.alpha_names.proofs.NumberedNames.{is_none-true_none}
use Rattle.alpha_link.specs.GlobalSymbols.{GlobalSymbol, global_symbols, used_symbols, is_of}
use Rattle.alpha_link.specs.Names.{found_in}
use Rattle.alpha_link.proofs.AreEntered.{AreEntered-Keeps, AreEntered-next_defined, AreEntered-next_undefined}
use Rattle.alpha_link.proofs.AreEntered.{AreEntered-next}
use Rattle.alpha_link.proofs.AreEntered.{number_in-address_at}
use Rattle.alpha_link.proofs.table.Names.enter.Goals as goal

pub invariant_of-self : goal.invariant_of-self
invariant_of-self c = record {
  entered =
      AreEntered-Keeps _ (number_in c.args.self.now.numbers)
      (number_in c.add.new.self) c.in_err-add-in-Some-address.ensures.same c.args.self.now.entered;
}

pub invariant_of-self-then-not-branch : goal.invariant_of-self-then-not-branch
invariant_of-self-then-not-branch c = record {
  entered =
      AreEntered-Keeps _ (number_in c.args.self.now.numbers) (number_in c.add.new.self)
      (c.in_ok-add-in-Some-address.ensures.again c.if-not-branch.true) c.args.self.now.entered;
}

pub invariant_of-self-in-Some-address : goal.invariant_of-self-in-Some-address
invariant_of-self-in-Some-address c = record { begun = c.args.self.now.row.begun }

pub invariant_of-self-in-Some-address-2 : goal.invariant_of-self-in-Some-address-2
invariant_of-self-in-Some-address-2 c =
    let e : GlobalSymbol = record { name = c.args.name.now; address = c.args.address } in
    let free =
    is_none-true_none (number_in c.args.self.now.numbers (is_of (used_symbols c.args.self.now.row) e.name) e.name)
    (sym c.if-not-branch.false ∙ c.in_ok-add-in-Some-address.ensures.value) in
    record {
      entered =
          AreEntered-next_defined (global_symbols c.args.self.now.row.places.now) c.args.self.now.row.count
          c.in-Some.count e
          c.args.self.now.numbers c.add.new.self c.in-Some.ensures.1 c.requires
          free (c.in_ok-add-in-Some-address.ensures.ok c.if-not-branch.false) c.args.self.now.entered;
    }

pub invariant_of-self-in-None : goal.invariant_of-self-in-None
invariant_of-self-in-None c =
    let e : GlobalSymbol = record { name = c.args.name.now; address = c.args.address } in
    let entered =
    AreEntered-next_undefined (global_symbols c.args.self.now.row.places.now) c.args.self.now.row.count c.in-Some.count
    e
    c.args.self.now.numbers c.in-Some.ensures.1 c.requires (ap is_some c.in-None.is)
    c.args.self.now.entered in
    ((c.args.self.now.row.begun, tt), (entered, tt))

-- whether a symbol is added that has an address
added_some : (address : Option ℕ) (a : ℕ) (there : Bool) → address ≡ Some a → not there ≡ not (is_some address && there)
added_some address a there e = sym (ap (λ (o : Option ℕ). not (is_some o && there)) e)

pub returns-then-not-branch-clause-value : goal.returns-then-not-branch-clause-value
unfolding found_in
returns-then-not-branch-clause-value c =
    sym c.if-not-branch.true ∙ (c.in_ok-add-in-Some-address.ensures.value
    ∙ (number_in-address_at (used_symbols c.args.self.now.row) c.args.self.now.numbers c.args.name.now
    ∙ added_some c.args.address _ (is_some (found_in c.args.self.now c.args.name.now)) c.in-Some-address.is))

pub returns-else-not-branch-clause-value : goal.returns-else-not-branch-clause-value
unfolding found_in
returns-else-not-branch-clause-value c =
    sym c.if-not-branch.false ∙ (c.in_ok-add-in-Some-address.ensures.value
    ∙ (number_in-address_at (used_symbols c.args.self.now.row) c.args.self.now.numbers c.args.name.now
    ∙ added_some c.args.address _ (is_some (found_in c.args.self.now c.args.name.now)) c.in-Some-address.is))

pub returns-else-not-branch-clause-found : goal.returns-else-not-branch-clause-found
unfolding found_in
returns-else-not-branch-clause-found c = λ is_added other.
    let e : GlobalSymbol = record { name = c.args.name.now; address = c.args.address } in
    let es : List GlobalSymbol = global_symbols c.args.self.now.row.places.now in
    let old = c.args.self.now.numbers in
    let new = c.add.new.self in
    let free = is_none-true_none (number_in old (is_of (used_symbols c.args.self.now.row) e.name) e.name)
    (sym c.if-not-branch.false ∙ c.in_ok-add-in-Some-address.ensures.value) in
    AreEntered-next es c.args.self.now.row.count c.in-Some.count e old new c.in-Some.ensures.1 c.requires
    c.args.self.now.entered
    (AreEntered-next_defined es c.args.self.now.row.count c.in-Some.count e old new c.in-Some.ensures.1 c.requires free
    (c.in_ok-add-in-Some-address.ensures.ok c.if-not-branch.false) c.args.self.now.entered) other

pub returns-in-None-clause-found : goal.returns-in-None-clause-found
unfolding found_in
returns-in-None-clause-found c = λ is_added other.
    let e : GlobalSymbol = record { name = c.args.name.now; address = c.args.address } in
    let es : List GlobalSymbol = global_symbols c.args.self.now.row.places.now in
    let numbers = c.args.self.now.numbers in
    AreEntered-next es c.args.self.now.row.count c.in-Some.count e numbers numbers c.in-Some.ensures.1 c.requires
    c.args.self.now.entered
    (AreEntered-next_undefined es c.args.self.now.row.count c.in-Some.count e numbers c.in-Some.ensures.1 c.requires
    (ap is_some c.in-None.is) c.args.self.now.entered) other
