use Rattle.std.proofs.Common.{ℕ, List, Option, Some, ap, sym, ◌∙◌}
use Rattle.std.proofs.Math.Path.{fun_ext}
use Rattle.std.specs.Option.{option_map}
use Rattle.alpha_link.specs.declared.fault.LinkFault.TheVariants as faults
use Rattle.alpha_link.specs.Names.{found_in}
use Rattle.alpha_link.specs.Linked.{Located}
use Rattle.alpha_link.proofs.LoopLists.{first-drop_none, first-drop_some, first-drop_end}
use Rattle.alpha_link.proofs.JoinedModules.{missing_by, missing_in}
use Rattle.alpha_link.proofs.OwnAddresses.{knows_item}
use Rattle.alpha_link.proofs.linker.first_undefined.Goals as goal

pub returns-in-Some : goal.returns-in-Some
returns-in-Some c =
    let find = found_in c.args.names.now in
    let ls = c.args.places.now in
    let l = c.located-item.result in
    let here = ap (option_map (λ (n : ℕ). (l.number, n))) (sym c.in-Some.ensures) in
    let number = ap (λ (x : Located). x.number) c.located.view_is in
    ap (λ (k : ℕ). Some (faults.Undefined k c.in-Some.number)) number
    ∙ sym (ap (λ (f : List ℕ → Option ℕ). option_map (λ (p : ℕ × ℕ). faults.Undefined p.0 p.1) (missing_by f ls))
    (sym (fun_ext c.requires.names))
    ∙ ap (option_map (λ (p : ℕ × ℕ). faults.Undefined p.0 p.1))
    (first-drop_some (missing_in find) ls c.loop-located.located-index l
    (l.number, c.in-Some.number) _ c.loop-located-test.true c.located-item.is here c.loop-located.invariant))

pub loop-located-preserved : goal.loop-located-preserved
loop-located-preserved c =
    let l = c.located-item.result in
    first-drop_none (missing_in (found_in c.args.names.now)) c.args.places.now c.loop-located.located-index l _
    c.loop-located-test.true c.located-item.is
    (ap (option_map (λ (n : ℕ). (l.number, n))) (sym c.in_default.ensures)) c.loop-located.invariant

pub returns : goal.returns
returns c =
    let find = found_in c.args.names.now in
    let ls = c.args.places.now in
    sym (ap (λ (f : List ℕ → Option ℕ). option_map (λ (p : ℕ × ℕ). faults.Undefined p.0 p.1) (missing_by f ls))
    (sym (fun_ext c.requires.names))
    ∙ ap (option_map (λ (p : ℕ × ℕ). faults.Undefined p.0 p.1))
    (first-drop_end (missing_in find) ls c.loop-located.located-index _ c.loop-located-test.false
    c.loop-located.invariant))

pub first_unresolved-requires : goal.first_unresolved-requires
first_unresolved-requires c =
    knows_item (found_in c.args.names.now) c.args.places.now c.loop-located.located-index c.located-item.result
    c.requires.own c.loop-located-test.true c.located-item.is
