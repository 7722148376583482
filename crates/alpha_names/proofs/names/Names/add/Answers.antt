use Rattle.std.proofs.Common.{◌≡◌, List, ℕ, subst, ap, sym, ◌∙◌, length, arith}
use Rattle.std.specs.Prelude.{position, is_none, None}
use Rattle.std.specs.Borrow.{Bor}
use Rattle.std.specs.Str.{bytes_eq}
use Rattle.alpha_names.specs.Finder.{number_in, is_named, Grows}
use Rattle.alpha_names.specs.Names.{AreFoundBy}
use Rattle.alpha_names.proofs.NumberedNames.{number_in-position, AreFoundBy-next, found_still, is_none-true_none}
use Rattle.alpha_names.proofs.names.Names.add.Goals as goal

pub invariant_of-self : goal.invariant_of-self
invariant_of-self c = λ number name e. c.in_err-add.ensures.same _ name number (c.self.invariant number name e)

pub invariant_of-self-then-not-branch : goal.invariant_of-self-then-not-branch
invariant_of-self-then-not-branch c =
    λ number name e. c.in_ok-add.ensures.again c.if-not-branch.true _ name number (c.self.invariant number name e)

pub returns-then-not-branch-clause-value : goal.returns-then-not-branch-clause-value
returns-then-not-branch-clause-value c =
    let name : List ℕ = c.args.name.now in
    sym c.if-not-branch.true ∙ (c.in_ok-add.ensures.value
    ∙ ap is_none
    (number_in-position c.self.inside.names.items c.self.inside.numbers c.self.invariant name
    ∙ ap (position (bytes_eq name)) c.self.view_is))

pub invariant_of-self-in_err-push : goal.invariant_of-self-in_err-push
invariant_of-self-in_err-push c =
    let name : List ℕ = c.args.name.now in
    let items : List (Bor (List ℕ)) = c.self.inside.names.items in
    let old = number_in c.self.inside.numbers in
    let new = number_in c.add.new.self in
    let P : List (Bor (List ℕ)) → Type 0 = λ ns. AreFoundBy ns new in
    let Q : ℕ → Type 0 = λ n. Grows old new name n in
    let size : c.len.result ≡ length items = omega (arith, c.len.ensures, c.self.inside.names.ok.0) in
    let absent : old (is_named items name) name ≡ None =
    is_none-true_none (old (is_named items name) name) (sym c.if-not-branch.false ∙ c.in_ok-add.ensures.value) in
    subst P (sym c.in_err-push.ensures.items)
    (found_still items name old new c.self.invariant absent
    (subst Q size (c.in_ok-add.ensures.ok c.if-not-branch.false)))

pub invariant_of-self-2 : goal.invariant_of-self-2
invariant_of-self-2 c =
    let name : List ℕ = c.args.name.now in
    let items : List (Bor (List ℕ)) = c.self.inside.names.items in
    let old = number_in c.self.inside.numbers in
    let new = number_in c.add.new.self in
    let P : List (Bor (List ℕ)) → Type 0 = λ ns. AreFoundBy ns new in
    let Q : ℕ → Type 0 = λ n. Grows old new name n in
    let size : c.len.result ≡ length items = omega (arith, c.len.ensures, c.self.inside.names.ok.0) in
    let absent : old (is_named items name) name ≡ None =
    is_none-true_none (old (is_named items name) name) (sym c.if-not-branch.false ∙ c.in_ok-add.ensures.value) in
    subst P (sym c.in_ok-push.ensures.items)
    (AreFoundBy-next items c.args.name old new c.self.invariant absent
    (subst Q size (c.in_ok-add.ensures.ok c.if-not-branch.false)))

pub returns-clause-value : goal.returns-clause-value
returns-clause-value c =
    let name : List ℕ = c.args.name.now in
    sym c.if-not-branch.false ∙ (c.in_ok-add.ensures.value
    ∙ ap is_none
    (number_in-position c.self.inside.names.items c.self.inside.numbers c.self.invariant name
    ∙ ap (position (bytes_eq name)) c.self.view_is))
